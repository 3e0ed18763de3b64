-- The parts that all harts share, after a squash of one of them.
use Rattle.std.specs.Prelude.{◌≡◌, ◌≢◌, ℕ, ◌<◌, ◌≤◌, true, false, not, ◌==◌, ◌&&◌, ◌||◌, nat_lt, Bool, List, [], ◌∷◌, filter}
use Rattle.std.specs.Prelude.{map, length, Option, slice_index_or, slice_set}
use Rattle.std.specs.List.{AllByRecursion, list_any}
use Rattle.std.proofs.Common.{◌∙◌, refl, sym, ap, subst, inl, inr, arith}
use Rattle.std.proofs.{lemmas.Bool.cases_Bool, lemmas.Bool.Decides.nat_tests}
use Rattle.free_list.specs.Flags.{holds}
use Rattle.issue_queue.specs.{Queue.Queue, Queue.stays, declared.entry.Entry.Entry}
use Rattle.smt_model.specs.{Basics.holds_of, Fates.is, Picture.Picture, Steps.IsSquash, Steps.is_hart_of}
use Rattle.load_store.specs.Queues.{Changes, squashed}
use Rattle.core_parts.specs.Accesses.{accesses_of}
use Rattle.core_parts.specs.Agree.{IsEntry, QueueAgrees, HartAgrees, PartsAgree, ValuesAgree}
use Rattle.core_parts.specs.Squash.{younger, has_phys, IsSquashedBehind, HaveOwn, Squashes}
use Rattle.core_parts.specs.{declared.hart.HartState.HartState, declared.parts.Parts.Parts}
use Rattle.core_parts.proofs.{Agreement.Harts.hart_kept, Agreement.Harts.hart_alone, Agreement.Harts.each_set}
use Rattle.core_parts.proofs.{Agreement.Shared.waiting_kept, Agreement.Shared.jobs_kept}
use Rattle.core_parts.proofs.{Agreement.Accesses.accesses_squashed, Agreement.Queues.accesses_set}
use Rattle.core_parts.proofs.{Agreement.Queues.memory_kept, Agreement.Queues.accesses_kept}
use Rattle.core_parts.proofs.Agreement.Checkpoints.{checkpoints_here, checkpoints_set}
use Rattle.core_parts.proofs.{Squashing.Parts.hart_squashed, Squashing.Parts.owns}
use Rattle.core_parts.proofs.{Squashing.Parts.checkpoints_left}
use Rattle.core_parts.proofs.{Squashing.Parts.free_squashed}

-- ---- The queue

hart_of_entry : (p : Picture) (h : ℕ) (e : Entry) → IsEntry p e → is_hart_of p h e.seq ≡ (e.hart == h)
hart_of_entry p h e entry = ap (holds_of (λ f. f.hart == h)) entry.fetched ∙ ap (λ g. g == h) entry.hart

numbers_stay : (p : Picture) (h n : ℕ) (es : List Entry) → AllByRecursion (IsEntry p) es
    → map (λ e. e.seq) (filter (stays h n) es) ≡ filter (λ s. not (is_hart_of p h s && nat_lt n s))
    (map (λ e. e.seq) es)
numbers_stay p h n [] all = refl
numbers_stay p h n (e ∷ es) all =
    let same : not (is_hart_of p h e.seq && nat_lt n e.seq) ≡ stays h n e =
    ap (λ b. not (b && nat_lt n e.seq)) (hart_of_entry p h e all.0) in
    elim (cases_Bool (stays h n e)) [
      | inl t ↦ rw (t, same ∙ t, numbers_stay p h n es all.1) refl
      | inr f ↦ rw (f, same ∙ f, numbers_stay p h n es all.1) refl
    ]

-- One that stays is older, or of another hart.
stays_older : (h n : ℕ) (e : Entry) → stays h n e ≡ true → (e.hart == h) ≡ true → e.seq ≤ n
stays_older h n e stays of = grind (arith, nat_tests)

module _ (p q : Picture) (h n : ℕ) (s : IsSquash p q h n) where
  entries_stay : (es : List Entry) → AllByRecursion (IsEntry p) es → AllByRecursion (IsEntry q) (filter (stays h n) es)
  entries_stay [] all = tt
  entries_stay (e ∷ es) all = elim (cases_Bool (stays h n e)) [
    | inl t ↦
        let same =
        s.flights e.seq (rw all.0.waits refl) (λ of. stays_older h n e t (sym (hart_of_entry p h e all.0) ∙ of)) in
        rw t (waiting_kept p q e s.stays.shared.kept same s.stays.shared.readings all.0, entries_stay es all.1)
    | inr f ↦ rw f (entries_stay es all.1)
  ]

  queue_squashed : (old new : Queue) → QueueAgrees p old → new ≡ record old { entries = filter (stays h n) old.entries }
      → QueueAgrees q new
  queue_squashed old new agrees is = record {
    numbers =
        rw is
        (numbers_stay p h n old.entries agrees.entries
        ∙ ap (filter (λ t. not (is_hart_of p h t && nat_lt n t))) agrees.numbers ∙ sym s.queue);
    entries = rw is (entries_stay old.entries agrees.entries);
  }

  -- ---- The other harts, the values and the jobs
  other_squashed : (g : ℕ) → g ≢ h → (x : HartState) → HartAgrees p g x → HartAgrees q g x
  other_squashed g other x agrees = hart_kept p q g x (s.stays.others g other) s.stays.shared.kept
      (λ t flies of_g. s.flights t flies (λ of_h. absurd (hart_alone p g h t t other of_h of_g refl))) agrees

  still_claimed : (x : ℕ) → q.free x ≡ false → p.free x ≡ false
  still_claimed x now = let was =
      sym (s.free x) ∙ now in elim (cases_Bool (p.free x)) [ inl t ↦ absurd (grind (arith, nat_tests)) | inr f ↦ f ]

  values_squashed : (values : List (Option ℕ)) → ValuesAgree p values → ValuesAgree q values
  values_squashed values agrees =
      λ x d under claimed. agrees x d under (still_claimed x claimed) ∙ sym (s.stays.shared.values x claimed)

-- What the code has made of the parts, in one place.
pub record IsSquashed (h n : ℕ) (restored : Bool) (old new : Parts) : Type 0 where
  pub was : HartState
  pub left : HartState
  pub at : was ≡ slice_index_or old.harts.items h was
  pub squash_behind : IsSquashedBehind n restored was left
  pub harts : new.harts.items ≡ slice_set old.harts.items h left
  pub queue : new.queue ≡ record old.queue { entries = filter (stays h n) old.queue.entries }
  pub free : (r : ℕ) → holds new.free r ≡ (holds old.free r || list_any (has_phys r) (younger n was.active))
  pub values : new.values ≡ old.values
  pub jobs : new.jobs ≡ old.jobs
  pub accesses : Changes (squashed n) h old.accesses new.accesses
  pub memory : new.memory ≡ old.memory

pub parts_squashed : (p q : Picture) (h n : ℕ) (restored : Bool) (old new : Parts) → h < length old.harts.items
    → PartsAgree p old → Squashes p q h n restored → IsSquashed h n restored old new → PartsAgree q new
parts_squashed p q h n restored old new inside agrees squashes is =
    let s : IsSquash p q h n = squashes.step in
    let hart : HartAgrees p h is.was = subst (HartAgrees p h) (sym is.at) (agrees.harts h is.was inside) in
    record {
      harts = rw is.harts (each_set p q old.harts.items h is.was is.left inside is.at
          (λ x. hart_squashed p q h n restored is.was is.left x squashes is.squash_behind)
          (λ g other z. other_squashed p q h n s g other z) agrees.harts);
      checkpoints = rw is.harts (checkpoints_set old.harts.items h is.left inside
          (checkpoints_left p q h n restored is.was is.left hart squashes is.squash_behind
          (checkpoints_here old.harts.items h is.was inside is.at agrees.checkpoints)) agrees.checkpoints);
      queue = queue_squashed p q h n s old.queue new.queue agrees.queue is.queue;
      free = free_squashed p q h n old.free new.free is.was agrees.free hart s is.free;
      registers = rw is.values agrees.registers;
      values = rw is.values (values_squashed p q h n s old.values agrees.values);
      actors = rw is.jobs agrees.actors;
      jobs =
          rw is.jobs
          (jobs_kept p q old.jobs s.stays.shared.kept s.stays.shared.job s.stays.shared.operands agrees.jobs);
      accesses =
          rw is.harts
          (accesses_kept p.touched q.touched (slice_set old.harts.items h is.left) new.accesses
          s.stays.shared.memory.touched
          (accesses_set p.touched (squashed n) old.harts.items h is.was is.left old.accesses new.accesses inside is.at
          is.accesses
          (ap (accesses_of p.touched) is.squash_behind.active ∙ accesses_squashed p.touched n is.was.active)
          agrees.accesses));
      memory = rw is.memory (memory_kept p q old.memory s.stays.shared.memory agrees.memory);
    }

-- The registers of the hart's instructions can be given back.
pub own_registers : (p : Picture) (h n : ℕ) (q : Picture) (old : Parts) (x : HartState) → h < length old.harts.items
    → PartsAgree p old → IsSquash p q h n
    → x ≡ slice_index_or old.harts.items h x → HaveOwn old.free x.active
own_registers p h n q old x inside agrees s at =
    owns p h old.free x agrees.free (subst (HartAgrees p h) (sym at) (agrees.harts h x inside)) s.own
