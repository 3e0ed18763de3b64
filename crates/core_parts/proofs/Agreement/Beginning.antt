-- The parts of a core before its first event agree with the empty history.
use Rattle.std.specs.Prelude.{◌≡◌, ◌≢◌, ◌⊎◌, ℕ, ◌+◌, ◌-◌, ◌*◌, ◌/◌, ◌%◌, ◌<◌, ◌≤◌, ◌&&◌, true, false, nat_le, nat_lt}
use Rattle.std.specs.Prelude.{if◌then◌else◌, List, [], ◌∷◌, ◌++◌, Option, Some, None, map, length, slice_index_or}
use Rattle.std.specs.Prelude.{slice_set}
use Rattle.std.specs.List.{AllByRecursion}
use Rattle.std.proofs.Common.{◌∙◌, refl, subst, sym, ap, inl, inr, arith}
use Rattle.std.proofs.{lemmas.Bool.cases_Bool, lemmas.Bool.cases_eq, lemmas.Bool.cases_lt}
use Rattle.std.proofs.{lemmas.Bool.Decides.nat_tests, lemmas.List.get_or-set_same, lemmas.List.get_or-set_other}
use Rattle.std.proofs.{lemmas.List.length_push, Math.ListN.get_or-append, Math.Seq.get_or-append_seam}
use Rattle.numbers.specs.Sizes.{most_actors, most_harts, most_registers}
use Rattle.free_list.specs.Flags.{holds}
use Rattle.issue_queue.specs.Queue.{Queue}
use Rattle.smt_model.specs.{Picture.picture, Picture.is_free, Registers.is_unclaimed, Registers.first_register}
use Rattle.smt_model.specs.{Setup.Setup, Setup.first_number}
use Rattle.smt_model.proofs.Registers.Claims.{IsFlightClaim, IsCommittedClaim, claimant, committed_claimed}
use Rattle.elf_image.specs.Image.{ProgramImage, byte_in}
use Rattle.shared_memory.specs.Contents.{IsStart}
use Rattle.load_store.specs.Queues.{queues_of, empty}
use Rattle.core_parts.specs.Accesses.{accesses_of}
use Rattle.core_parts.specs.Checkpoints.{IsCheckpoint, HasCheckpoints}
use Rattle.core_parts.specs.Agree.{IsSlot, IsActive, IsEntry, HartAgrees, QueueAgrees}
use Rattle.core_parts.specs.First.{IsNew, AreNew, AreFirst, first_values_below, first_values, BeginsAs}
use Rattle.core_parts.specs.{declared.hart.HartState.HartState, declared.parts.Parts.Parts}
use Rattle.core_parts.specs.{declared.slot.OpenJob.OpenJob}

-- ---- The first numbers of a hart's registers

pub values_start : (harts h x : ℕ) (before : Option ℕ) → before ≡ first_values_below 1 harts h x before
values_start harts h x before =
    let none : (nat_le (31 * h) x && nat_lt (x + 1) (31 * h + 1)) ≡ false = grind (arith, nat_tests) in
    rw none refl

more_here : (h r x : ℕ) → x ≡ 31 * h + r - 1 → 1 ≤ r → (nat_le (31 * h) x && nat_lt (x + 1) (31 * h + (r + 1))) ≡ true
more_here h r x here low = grind (arith, nat_tests)

more_other : (h r x : ℕ) → x ≢ 31 * h + r - 1 → 1 ≤ r
    → (nat_le (31 * h) x && nat_lt (x + 1) (31 * h + (r + 1))) ≡ (nat_le (31 * h) x && nat_lt (x + 1) (31 * h + r))
more_other h r x other low = grind (arith, nat_tests)

pub values_more : (values old : List (Option ℕ)) (harts h r number : ℕ) → length values ≡ most_registers → 1 ≤ r
    → r < 32 → h < most_harts
    → number ≡ first_number harts h r
    → ((x : ℕ) (d : Option ℕ) → x < most_registers
    → slice_index_or values x d ≡ first_values_below r harts h x (slice_index_or old x d))
    → (x : ℕ) (d : Option ℕ) → x < most_registers
    → slice_index_or (slice_set values (31 * h + r - 1) (Some number)) x d
    ≡ first_values_below (r + 1) harts h x (slice_index_or old x d)
values_more values old harts h r number count low high few is before x d inside =
    elim (cases_eq x (31 * h + r - 1)) [
      | inl here ↦
          let place : 31 * h + r - 1 < length values = omega arith in
          let which : x - 31 * h + 1 ≡ r = omega arith in
          let passes = more_here h r x here low in
          rw passes
          (ap (λ y. slice_index_or (slice_set values (31 * h + r - 1) (Some number)) y d) here
          ∙ (get_or-set_same values (31 * h + r - 1) (Some number) d place
          ∙ (ap Some is ∙ ap (λ q. Some (first_number harts h q)) (sym which))))
      | inr other ↦
          let same = more_other h r x other low in
          rw same (get_or-set_other values (31 * h + r - 1) x (Some number) d other ∙ before x d inside)
    ]

-- ---- All harts

pub first_start : (harts : ℕ) (values : List (Option ℕ))
    → ((x : ℕ) (d : Option ℕ) → x < most_registers → slice_index_or values x d ≡ None)
    → AreFirst harts 0 values
first_start harts values none x d inside =
    let low : nat_lt x (31 * 0) ≡ false = grind (arith, nat_tests) in rw low (none x d inside)

pub first_more : (harts h : ℕ) (old new : List (Option ℕ))
    → ((x : ℕ) (d : Option ℕ) → x < most_registers
    → slice_index_or new x d ≡ first_values harts h x (slice_index_or old x d))
    → AreFirst harts h old → AreFirst harts (h + 1) new
first_more harts h old new sets before x d inside =
    elim (cases_lt x (31 * h)) [
      | inl under ↦
          let outside : (nat_le (31 * h) x && nat_lt (x + 1) (31 * h + 32)) ≡ false = grind (arith, nat_tests) in
          let was : nat_lt x (31 * h) ≡ true = grind (arith, nat_tests) in
          let now : nat_lt x (31 * (h + 1)) ≡ true = grind (arith, nat_tests) in
          let set : slice_index_or new x d ≡ slice_index_or old x d = rw outside at (sets x d inside) in
          let first : slice_index_or old x d ≡ Some (first_number harts (x / 31) (x % 31 + 1)) =
          rw was at (before x d inside) in
          rw now (set ∙ first)
      | inr above ↦
          elim (cases_lt x (31 * h + 31)) [
            | inl here ↦
                let within : (nat_le (31 * h) x && nat_lt (x + 1) (31 * h + 32)) ≡ true = grind (arith, nat_tests) in
                let now : nat_lt x (31 * (h + 1)) ≡ true = grind (arith, nat_tests) in
                let set : slice_index_or new x d ≡ Some (first_number harts h (x - 31 * h + 1)) =
                rw within at (sets x d inside) in
                let which : h ≡ x / 31 = omega arith in
                let register : x - 31 * h + 1 ≡ x % 31 + 1 = omega arith in
                rw now
                (set
                ∙ (ap (λ r. Some (first_number harts h r)) register
                ∙ ap (λ g. Some (first_number harts g (x % 31 + 1))) which))
            | inr beyond ↦
                let outside : (nat_le (31 * h) x && nat_lt (x + 1) (31 * h + 32)) ≡ false = grind (arith, nat_tests) in
                let was : nat_lt x (31 * h) ≡ false = grind (arith, nat_tests) in
                let now : nat_lt x (31 * (h + 1)) ≡ false = grind (arith, nat_tests) in
                let set : slice_index_or new x d ≡ slice_index_or old x d = rw outside at (sets x d inside) in
                let first : slice_index_or old x d ≡ None = rw was at (before x d inside) in
                rw now (set ∙ first)
          ]
    ]

pub new_more : (entry : ℕ) (harts : List HartState) (x : HartState) → IsNew (length harts) entry x → AreNew entry harts
    → AreNew entry (harts ++ x ∷ [])
new_more entry harts x is all h d inside =
    elim (cases_lt h (length harts)) [
      | inl under ↦
          let same = get_or-append harts (x ∷ []) d h under in
          rw same (all h d under)
      | inr above ↦
          let last : h ≡ length harts = omega (arith, length_push harts x) in
          rw last (rw get_or-append_seam is)
    ]

-- ---- The empty history

hart_begins : (setup : Setup) (h : ℕ) (x : HartState) → IsNew h setup.image.entry x → HartAgrees (picture setup []) h x
hart_begins setup h x is = record {
  decode_latch = ap (map (λ s. s.seq)) is.decode_latch;
  decode_slots = subst (AllByRecursion (IsSlot (picture setup []) h)) (sym is.decode_latch) tt;
  rename_latch = ap (map (λ s. s.seq)) is.rename_latch;
  rename_slots = subst (AllByRecursion (IsSlot (picture setup []) h)) (sym is.rename_latch) tt;
  active = ap (map (λ a. a.seq)) is.active;
  actives = subst (AllByRecursion (IsActive (picture setup []) h)) (sym is.active) tt;
  icount = is.icount;
  speculative = is.speculative;
  committed = is.committed;
  fetch_pc = is.fetch_pc;
  status = is.status;
}

-- No map is kept.
none_kept : (x : HartState) → x.maps.kept ≡ [] → HasCheckpoints x
none_kept x none = subst (AllByRecursion (IsCheckpoint x.active x.maps)) (sym none) tt

queue_begins : (setup : Setup) (queue : Queue) → queue.entries ≡ [] → QueueAgrees (picture setup []) queue
queue_begins setup queue none = record {
  numbers = ap (map (λ e. e.seq)) none;
  entries = subst (AllByRecursion (IsEntry (picture setup []))) (sym none) tt;
}

-- Of the registers of the harts each is claimed by its map.
claimed_below : (setup : Setup) (x : ℕ) → x < 31 * setup.harts → is_unclaimed setup [] x ≡ false
claimed_below setup x under =
    let same : first_register (x / 31) (x % 31 + 1) ≡ x = omega arith in
    subst (λ y. is_unclaimed setup [] y ≡ false) same
    (committed_claimed setup [] (x / 31) (x % 31 + 1)
    (record { hart = omega arith; low = omega arith; high = omega arith }))

claimed_where : (setup : Setup) (x : ℕ) → IsFlightClaim [] x ⊎ IsCommittedClaim setup [] x → x < 31 * setup.harts
claimed_where setup x (inl flight) = let flies = flight.flies in absurd (grind arith)
claimed_where setup x (inr is) =
    let hart = is.is_register.hart in
    let low = is.is_register.low in
    let high = is.is_register.high in
    let commits : first_register is.hart is.register ≡ x = is.commits in
    omega arith

unclaimed_above : (setup : Setup) (x : ℕ) → 31 * setup.harts ≤ x → is_unclaimed setup [] x ≡ true
unclaimed_above setup x above =
    elim (cases_Bool (is_unclaimed setup [] x)) [
      | inl unclaimed ↦ unclaimed
      | inr claimed ↦ let under = claimed_where setup x (claimant setup [] x claimed) in absurd (omega arith)
    ]

first_free : (setup : Setup) (x : ℕ)
    → (nat_le (31 * setup.harts) x && nat_lt x (31 * setup.harts + setup.extra)) ≡ is_free setup [] x
first_free setup x =
    elim (cases_lt x (31 * setup.harts)) [
      | inl under ↦ let claimed = claimed_below setup x under in grind (arith, nat_tests)
      | inr above ↦ let unclaimed = unclaimed_above setup x above in grind (arith, nat_tests)
    ]

pub begins : (harts extra : ℕ) (image : ProgramImage) (x : Parts) → length x.harts.items ≡ harts
    → AreNew image.entry x.harts.items
    → x.queue.entries ≡ []
    → ((q : ℕ) → holds x.free q ≡ (nat_le (31 * harts) q && nat_lt q (31 * harts + extra)))
    → length x.values ≡ most_registers
    → AreFirst harts harts x.values → length x.jobs ≡ most_actors
    → ((k : ℕ) (d : Option OpenJob) → k < most_actors → slice_index_or x.jobs k d ≡ None)
    → harts ≤ most_harts → length x.accesses ≡ harts → ((h : ℕ) → queues_of x.accesses h ≡ empty)
    → IsStart image x.memory
    → BeginsAs harts extra image x
begins harts extra image x count new queue free registers values actors jobs few places accesses memory setup
    same_harts same_extra same_image =
    let hart_new : (h : ℕ) (d : HartState) → h < length x.harts.items
    → IsNew h setup.image.entry (slice_index_or x.harts.items h d) =
    λ h d inside. subst (λ (i : ProgramImage). IsNew h i.entry (slice_index_or x.harts.items h d)) (sym same_image)
    (new h d inside) in
    record {
      harts = λ h d inside. hart_begins setup h (slice_index_or x.harts.items h d) (hart_new h d inside);
      checkpoints = λ h d inside. none_kept (slice_index_or x.harts.items h d) (new h d inside).kept;
      queue = queue_begins setup x.queue queue;
      free = λ q. subst (λ n. holds x.free q ≡ (nat_le (31 * n) q && nat_lt q (31 * n + setup.extra))) (sym same_harts)
          (subst (λ n. holds x.free q ≡ (nat_le (31 * harts) q && nat_lt q (31 * harts + n))) (sym same_extra) (free q))
          ∙ first_free setup q;
      registers = registers;
      values = λ y d inside claimed. let under : y < most_registers = omega arith in
          values y d under ∙ ap (λ n. if nat_lt y (31 * n) then Some (first_number n (y / 31) (y % 31 + 1)) else None)
          (sym same_harts);
      actors = actors;
      jobs = λ k d inside. rw (jobs k d inside) refl;
      accesses = record {
        few = omega arith;
        places = omega (arith, places, count);
        each = λ h d inside. accesses h ∙ sym (ap (accesses_of (picture setup []).touched) (new h d inside).active);
      };
      memory = record {
        byte = λ addr. memory.bytes addr ∙ ap (λ i. byte_in i addr) (sym same_image);
        reserved = memory.reserved;
      };
    }
