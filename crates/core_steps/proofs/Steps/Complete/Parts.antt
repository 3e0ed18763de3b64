-- A completion and a drop: the parts that they leave agree with the picture after them.
use Rattle.std.specs.Prelude.{◌≡◌, ◌≢◌, ℕ, ◌<◌, ◌==◌, true, false, List, [], ◌∷◌, length, map, Option, None}
use Rattle.std.specs.Prelude.{slice_index_or, slice_set}
use Rattle.std.specs.List.{AllByRecursion}
use Rattle.std.proofs.Common.{◌∙◌, refl, sym, ap, subst, inl, inr, arith}
use Rattle.std.proofs.{lemmas.Bool.cases_Bool, lemmas.Bool.cases_eq, lemmas.Bool.Decides.nat_tests}
use Rattle.std.proofs.{lemmas.List.length-set}
use Rattle.numbers.specs.Sizes.{most_actors}
use Rattle.events.specs.declared.effect.Outcome.{Outcome}
use Rattle.retire_squash.specs.{Active.with_stage, Active.staged, declared.active.Active.Active}
use Rattle.retire_squash.specs.{declared.active.Stage.Stage}
use Rattle.retire_squash.specs.declared.active.Stage.TheVariants as stage
use Rattle.rv_instr.specs.declared.op.Op.{Op}
use Rattle.load_store.specs.Queues.{Changes}
use Rattle.smt_model.specs.Fates.{Renamed, Issued, Completed, is, stage as stage_number}
use Rattle.smt_model.specs.Looks.{stored_by}
use Rattle.smt_model.specs.Picture.{Picture}
use Rattle.smt_model.specs.Steps.{HasCompleted, IsDrop, KeepsFetched, KeepsJobs, EndsJob, filled_value, op_in}
use Rattle.core_steps.specs.{Accesses.with_outcome, Checkpoints.released_by}
use Rattle.core_parts.specs.Agree.{IsActive, HartAgrees, PartsAgree, ValuesAgree, JobsAgree}
use Rattle.core_steps.specs.Filled.{IsFilled}
use Rattle.core_parts.specs.{declared.hart.HartState.HartState, declared.parts.Parts.Parts}
use Rattle.core_parts.specs.{declared.slot.OpenJob.OpenJob}
use Rattle.core_parts.proofs.Agreement.Harts.{slots_kept, active_kept, stage_flies, hart_kept, others_kept, each_set}
use Rattle.core_parts.proofs.Agreement.Harts.{each_kept}
use Rattle.core_steps.proofs.Agreement.Checkpoints.{checkpoints_completed}
use Rattle.core_parts.proofs.Agreement.Checkpoints.{checkpoints_here, checkpoints_set}
use Rattle.core_steps.proofs.{Agreement.Accesses.accesses_completed}
use Rattle.core_parts.proofs.{Agreement.Queues.accesses_set}
use Rattle.core_steps.proofs.{Agreement.Accesses.opens}
use Rattle.core_parts.proofs.{Agreement.Queues.memory_kept, Agreement.Queues.accesses_kept}
use Rattle.core_parts.proofs.{Agreement.Shared.queue_kept, Agreement.Shared.lent_kept, Agreement.Shared.values_kept}
use Rattle.core_steps.proofs.{Agreement.Filled.WakesBoth, Agreement.Filled.queue_filled, Agreement.Fill.at_set}

-- ---- The active list

seq_staged : (n : ℕ) (at : Stage) (x : Active) → (staged n at x).seq ≡ x.seq
seq_staged n at x = elim (cases_Bool (x.seq == n)) [ inl t ↦ rw t refl | inr f ↦ rw f refl ]

pub numbers_staged : (n : ℕ) (at : Stage) (xs : List Active)
    → map (λ a. a.seq) (with_stage n at xs) ≡ map (λ a. a.seq) xs
numbers_staged n at [] = refl
numbers_staged n at (x ∷ xs) = rw (seq_staged n at x, numbers_staged n at xs) refl

-- The job of one actor is done, the others' stay.
pub jobs_done : (p q : Picture) (k : ℕ) (jobs : List (Option OpenJob)) → length jobs ≡ most_actors → KeepsFetched p q
    → EndsJob p q k → KeepsJobs p q → JobsAgree p jobs → JobsAgree q (slice_set jobs k None)
jobs_done p q k jobs count kept job operands agrees = λ j d under.
    let set = at_set jobs k j None d (omega arith) in
    elim (cases_Bool (j == k)) [
      | inl t ↦
          let none : slice_index_or (slice_set jobs k None) j d ≡ None = set ∙ (rw t refl) in
          rw none (job j ∙ (rw t refl))
      | inr f ↦
          let same : slice_index_or (slice_set jobs k None) j d ≡ slice_index_or jobs j d = set ∙ (rw f refl) in
          let still : q.job j ≡ p.job j = job j ∙ (rw f refl) in
          rw same (lent_kept p q j (slice_index_or jobs j d) kept still operands (agrees j d under))
    ]

issued_completed : Issued ≡ Completed → ⊥
issued_completed same = omega (arith, ap stage_number same)

renamed_issued : Renamed ≡ Issued → ⊥
renamed_issued same = omega (arith, ap stage_number same)

-- The hart with its outcome, without its map, and fetched from this pc.
abbrev pub completed_hart : ℕ → Op → Outcome → ℕ → HartState → HartState
completed_hart n op o pc x =
    record x {
      active = with_stage n (stage.Completed o) x.active;
      maps = record x.maps { kept = released_by op n x.maps.kept };
      fetch_pc = pc;
    }

module _ (p q : Picture) (h n k : ℕ) (o : Outcome) (pc : ℕ) (s : HasCompleted p q h n k o pc) where
  active_completed : (x : Active) → IsActive p h x → x.seq ≡ n → IsActive q h (record x { stage = stage.Completed o })
  active_completed x was own = record {
    fetched = s.stays.shared.fetches.fetched x.seq ∙ was.fetched;
    op = was.op;
    rd = was.rd;
    phys = was.phys ∙ ap p.phys own ∙ sym s.phys ∙ ap q.phys (sym own);
    stage = (ap q.fate own ∙ s.fate, ap q.completion own ∙ s.completion);
  }

  active_staged : (x : Active) → IsActive p h x → IsActive q h (staged n (stage.Completed o) x)
  active_staged x was = elim (cases_eq x.seq n) [
    | inl own ↦ let test : (x.seq == n) ≡ true = grind (arith, nat_tests) in rw test (active_completed x was own)
    | inr other ↦
        let test : (x.seq == n) ≡ false = grind (arith, nat_tests) in
        rw test
        (active_kept p q h x s.stays.shared.kept
        (s.flights x.seq (stage_flies p x.seq x.stage was.stage) other) was)
  ]

  actives_staged : (xs : List Active) → AllByRecursion (IsActive p h) xs
      → AllByRecursion (IsActive q h) (with_stage n (stage.Completed o) xs)
  actives_staged [] all = tt
  actives_staged (x ∷ xs) all = (active_staged x all.0, actives_staged xs all.1)

  hart_completed : (op : Op) (x : HartState) → HartAgrees p h x → HartAgrees q h (completed_hart n op o pc x)
  hart_completed op x was = record {
    decode_latch = was.decode_latch ∙ sym s.stays.hart.in_decode;
    decode_slots = slots_kept p q h x.decode_latch.items s.stays.shared.kept was.decode_slots;
    rename_latch = was.rename_latch ∙ sym s.stays.hart.in_rename;
    rename_slots = slots_kept p q h x.rename_latch.items s.stays.shared.kept was.rename_slots;
    active = numbers_staged n (stage.Completed o) x.active ∙ was.active ∙ sym s.stays.hart.flight;
    actives = actives_staged x.active was.actives;
    icount = was.icount ∙ sym s.stays.hart.icount;
    speculative = λ r above under. was.speculative r above under ∙ sym (s.stays.hart.mapped r above under);
    committed = λ r above under. was.committed r above under ∙ sym (s.stays.hart.committed r above under);
    fetch_pc = sym s.fetch_pc;
    status = was.status ∙ sym s.stays.hart.status;
  }

  -- Another instruction that waits still does.
  still_waits : (t : ℕ) → p.fate t ≡ Renamed → q.fate t ≡ Renamed
  still_waits t waits =
      let other : t ≢ n = λ same. absurd (renamed_issued (sym waits ∙ ap p.fate same ∙ s.waited)) in
      (s.flights t (rw waits refl) other).fate ∙ waits

  values_completed : (phys : Option ℕ) (old new : List (Option ℕ)) → phys ≡ p.phys n → length new ≡ length old
      → ((x : ℕ) (d : Option ℕ) → x < length old
      → slice_index_or new x d ≡ filled_value phys o.value x (slice_index_or old x d))
      → ValuesAgree p old → ValuesAgree q new
  values_completed phys old new is count set agrees = λ x d under claimed.
      let was = agrees x d (omega arith) (sym (s.stays.shared.free x) ∙ claimed) in
      set x d (omega arith) ∙ ap (filled_value phys o.value x) was ∙ ap (λ r. filled_value r o.value x (p.value x)) is
      ∙ sym (s.values x claimed)

-- What the code has made of the parts, in one place.
pub record IsCompleted (h n k : ℕ) (op : Op) (o : Outcome) (pc : ℕ) (phys : Option ℕ) (old between new : Parts)
    : Type 0 where
  pub was : HartState
  pub at : was ≡ slice_index_or old.harts.items h was
  pub filled : IsFilled phys o.value old between
  pub harts : new.harts.items ≡ slice_set old.harts.items h (completed_hart n op o pc was)
  pub queue : new.queue ≡ between.queue
  pub free : new.free ≡ between.free
  pub values : new.values ≡ between.values
  pub jobs : new.jobs ≡ slice_set old.jobs k None
  pub accesses : Changes (with_outcome n op o) h old.accesses new.accesses
  pub memory : new.memory ≡ old.memory

pub parts_completed : (p q : Picture) (h n k : ℕ) (op : Op) (o : Outcome) (pc : ℕ) (phys : Option ℕ)
    (old between new : Parts) → h < length old.harts.items
    → PartsAgree p old → HasCompleted p q h n k o pc → phys ≡ p.phys n → op ≡ op_in p n
    → IsCompleted h n k op o pc phys old between new → PartsAgree q new
parts_completed p q h n k op o pc phys old between new inside agrees s is_phys is_op is =
    let kept = s.stays.shared.kept in
    let readings = subst (λ r. WakesBoth p q r o.value) (sym is_phys) s.readings in
    let hart : HartAgrees p h is.was = subst (HartAgrees p h) (sym is.at) (agrees.harts h is.was inside) in
    let unresolved = opens p h n op (sym is_op) (λ done. issued_completed (sym s.waited ∙ done)) is.was.active
    hart.actives in
    record {
      harts =
          rw is.harts
          (each_set p q old.harts.items h is.was (completed_hart n op o pc is.was) inside is.at (hart_completed p q h n k o pc s op is.was) (others_kept p q h n s.stays s.of_hart s.flights)
          agrees.harts);
      checkpoints =
          rw is.harts
          (checkpoints_set old.harts.items h (completed_hart n op o pc is.was) inside
          (checkpoints_completed n op (stage.Completed o) is.was.active is.was.maps unresolved
          (checkpoints_here old.harts.items h is.was inside is.at agrees.checkpoints)) agrees.checkpoints);
      queue =
          rw is.queue
          (queue_filled p q phys o.value kept (still_waits p q h n k o pc s) readings old.queue between.queue
          agrees.queue s.stays.shared.queue is.filled.queue);
      free = λ x. rw (is.free, is.filled.free) (agrees.free x ∙ sym (s.stays.shared.free x));
      registers = rw is.values (is.filled.count ∙ agrees.registers);
      values =
          rw is.values
          (values_completed p q h n k o pc s phys old.values between.values is_phys is.filled.count is.filled.values
          agrees.values);
      actors = rw is.jobs (length-set old.jobs k None ∙ agrees.actors);
      jobs =
          rw is.jobs
          (jobs_done p q k old.jobs agrees.actors s.stays.shared.kept s.job s.stays.shared.operands agrees.jobs);
      accesses =
          rw is.harts
          (accesses_kept p.touched q.touched (slice_set old.harts.items h (completed_hart n op o pc is.was)) new.accesses
          s.stays.shared.memory.touched
          (accesses_set p.touched (with_outcome n op o) old.harts.items h is.was
          (completed_hart n op o pc is.was) old.accesses
          new.accesses inside is.at is.accesses
          (accesses_completed p.touched n op o is.was.active (sym (s.stays.shared.memory.touched n) ∙ s.untouched)
          unresolved) agrees.accesses));
      memory = rw is.memory (memory_kept p q old.memory s.stays.shared.memory agrees.memory);
    }

-- ---- A drop

pub parts_dropped : (p q : Picture) (n k : ℕ) (old : Parts) (jobs : List (Option OpenJob)) → PartsAgree p old
    → IsDrop p q n k → jobs ≡ slice_set old.jobs k None
    → PartsAgree q (record old { jobs = jobs })
parts_dropped p q n k old jobs agrees s is =
    let kept = s.shared.kept in
    record {
      harts = each_kept p q old.harts.items
          (λ g z. hart_kept p q g z (s.harts g) kept (λ t flies of_g. s.flights t flies)) agrees.harts;
      checkpoints = agrees.checkpoints;
      queue = queue_kept p q old.queue kept s.flights s.shared.readings s.shared.queue agrees.queue;
      free = λ x. agrees.free x ∙ sym (s.shared.free x);
      registers = agrees.registers;
      values = values_kept p q old.values s.shared.free s.shared.values agrees.values;
      actors = rw is (length-set old.jobs k None ∙ agrees.actors);
      jobs = rw is (jobs_done p q k old.jobs agrees.actors s.shared.kept s.job s.shared.operands agrees.jobs);
      accesses = accesses_kept p.touched q.touched old.harts.items old.accesses s.shared.memory.touched agrees.accesses;
      memory = memory_kept p q old.memory s.shared.memory agrees.memory;
    }
