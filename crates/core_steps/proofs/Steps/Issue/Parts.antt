-- What an issue makes of the parts agrees with the picture after it: the stage and the count of its hart, the queue,
-- and the actor's job.
use Rattle.std.specs.Prelude.{◌≡◌, ℕ, ◌+◌, ◌<◌, ◌==◌, ◌&&◌, not, true, false, List, [], ◌∷◌, map, filter, length}
use Rattle.std.specs.Prelude.{Option, Some, None, slice_index_or, slice_set}
use Rattle.std.specs.List.{AllByRecursion, list_all}
use Rattle.std.proofs.Common.{◌∙◌, refl, sym, ap, subst, inl, inr, arith}
use Rattle.std.proofs.{lemmas.Bool.and_parts, lemmas.Bool.cases_Bool, lemmas.Bool.cases_eq}
use Rattle.std.proofs.{lemmas.Bool.Decides.nat_tests, lemmas.List.length-set, lemmas.List.get_or-set_same}
use Rattle.std.proofs.{lemmas.List.get_or-set_other}
use Rattle.numbers.specs.Sizes.{most_actors}
use Rattle.issue_queue.specs.{Entry.has_values, Entry.is_value, Queue.Queue, Queue.is_other, declared.entry.Entry.Entry}
use Rattle.issue_queue.specs.{declared.entry.Source.TheVariants.Value}
use Rattle.retire_squash.specs.{Active.with_stage, declared.active.Active.Active}
use Rattle.retire_squash.specs.declared.active.Stage.TheVariants as stage
use Rattle.smt_model.specs.{Kinds.first_source, Kinds.second_source, Fates.is, Fates.is_in_flight, Picture.Picture}
use Rattle.smt_model.specs.{Fates.Renamed, Fates.Completed, Fates.stage as stage_number, Steps.IsIssue, Steps.op_in}
use Rattle.core_parts.specs.Accesses.{AccessesAgree, MemoryAgrees, accesses_of}
use Rattle.core_parts.specs.Checkpoints.{AreCheckpoints, HasCheckpoints, CheckpointsAgree}
use Rattle.core_parts.specs.Agree.{PartsAgree, source_of, source_at, IsActive, HartAgrees, EachAgrees, IsEntry}
use Rattle.core_parts.specs.Agree.{QueueAgrees, FreeAgrees, ValuesAgree, IsOpenJob, JobsAgree}
use Rattle.core_steps.specs.Issuing.{IsIssuing, source_number, first_source_number, second_number, open_job_of}
use Rattle.core_parts.specs.{declared.slot.OpenJob.OpenJob, declared.hart.HartState.HartState}
use Rattle.core_parts.specs.{declared.parts.Parts.Parts}
use Rattle.core_parts.proofs.Agreement.Harts.{slots_kept, active_kept, stage_flies, others_kept, each_set}
use Rattle.core_parts.proofs.Agreement.Checkpoints.{checkpoints_here, checkpoints_set}
use Rattle.core_steps.proofs.Agreement.Checkpoints.{checkpoints_issued}
use Rattle.core_steps.proofs.{Agreement.Accesses.accesses_issued}
use Rattle.core_parts.proofs.{Agreement.Queues.accesses_still}
use Rattle.core_steps.proofs.{Agreement.Accesses.opens}
use Rattle.core_parts.proofs.{Agreement.Queues.memory_kept, Agreement.Queues.accesses_kept}
use Rattle.core_parts.proofs.Agreement.Shared.{waiting_kept, lent_kept, values_kept}

-- ---- The hart's own

pub staged_seqs : (n : ℕ) (xs : List Active) → map (λ a. a.seq) (with_stage n stage.Issued xs) ≡ map (λ a. a.seq) xs
staged_seqs n [] = refl
staged_seqs n (x ∷ xs) =
    elim (cases_Bool (x.seq == n)) [
      | inl here ↦ rw here (ap (λ ss. x.seq ∷ ss) (staged_seqs n xs))
      | inr other ↦ rw other (ap (λ ss. x.seq ∷ ss) (staged_seqs n xs))
    ]

active_issued : (p q : Picture) (h n k : ℕ) (x : Active) → IsIssue p q h n k → x.seq ≡ n → IsActive p h x
    → IsActive q h (record x { stage = stage.Issued })
active_issued p q h n k x step here is = record {
  fetched = step.stays.shared.fetches.fetched x.seq ∙ is.fetched;
  op = is.op;
  rd = is.rd;
  phys = is.phys ∙ sym (subst (λ s. q.phys s ≡ p.phys s) (sym here) step.phys);
  stage = ap q.fate here ∙ step.fate;
}

actives_issued : (p q : Picture) (h n k : ℕ) (xs : List Active) → IsIssue p q h n k → AllByRecursion (IsActive p h) xs
    → AllByRecursion (IsActive q h) (with_stage n stage.Issued xs)
actives_issued p q h n k [] step all = tt
actives_issued p q h n k (x ∷ xs) step all =
    elim (cases_eq x.seq n) [
      | inl here ↦
          let test : (x.seq == n) ≡ true = grind (arith, nat_tests) in
          rw test (active_issued p q h n k x step here all.0, actives_issued p q h n k xs step all.1)
      | inr other ↦
          let test : (x.seq == n) ≡ false = grind (arith, nat_tests) in
          let same = step.flights x.seq (stage_flies p x.seq x.stage all.0.stage) other in
          rw test (active_kept p q h x step.stays.shared.kept same all.0, actives_issued p q h n k xs step all.1)
    ]

hart_issued : (p q : Picture) (h n k : ℕ) (x y : HartState) → IsIssue p q h n k → HartAgrees p h x
    → y.active ≡ with_stage n stage.Issued x.active
    → y.icount + 1 ≡ x.icount → y ≡ record x { active = y.active; icount = y.icount } → HartAgrees q h y
hart_issued p q h n k x y step is active count rest =
    let kept = step.stays.shared.kept in
    let fewer : y.icount ≡ q.icount h = (let was = is.icount in let one = step.icount in omega arith) in
    subst (HartAgrees q h) (sym rest) (record {
      decode_latch = is.decode_latch ∙ sym step.stays.hart.in_decode;
      decode_slots = slots_kept p q h x.decode_latch.items kept is.decode_slots;
      rename_latch = is.rename_latch ∙ sym step.stays.hart.in_rename;
      rename_slots = slots_kept p q h x.rename_latch.items kept is.rename_slots;
      active = ap (map (λ a. a.seq)) active ∙ (staged_seqs n x.active ∙ (is.active ∙ sym step.stays.hart.flight));
      actives = subst (AllByRecursion (IsActive q h)) (sym active) (actives_issued p q h n k x.active step is.actives);
      icount = fewer;
      speculative = λ r above under. is.speculative r above under ∙ sym (step.stays.hart.mapped r above under);
      committed = λ r above under. is.committed r above under ∙ sym (step.stays.hart.committed r above under);
      fetch_pc = is.fetch_pc ∙ sym step.stays.hart.fetch_pc;
      status = is.status ∙ sym step.stays.hart.status;
    })

harts_issued : (p q : Picture) (h n k : ℕ) (xs : List HartState) (x y : HartState) → IsIssue p q h n k → h < length xs
    → x ≡ slice_index_or xs h x
    → y.active ≡ with_stage n stage.Issued x.active → y.icount + 1 ≡ x.icount
    → y ≡ record x { active = y.active; icount = y.icount }
    → EachAgrees p xs → EachAgrees q (slice_set xs h y)
harts_issued p q h n k xs x y step inside at active count rest all =
    each_set p q xs h x y inside at (λ is. hart_issued p q h n k x y step is active count rest)
    (others_kept p q h n step.stays step.of_hart step.flights) all

-- ---- The queue

numbers_left : (n : ℕ) (xs : List Entry)
    → map (λ x. x.seq) (filter (is_other n) xs) ≡ filter (λ s. not (s == n)) (map (λ x. x.seq) xs)
numbers_left n [] = refl
numbers_left n (x ∷ xs) =
    elim (cases_Bool (x.seq == n)) [
      | inl here ↦ rw here (numbers_left n xs)
      | inr other ↦ rw other (ap (λ ss. x.seq ∷ ss) (numbers_left n xs))
    ]

entries_left : (p q : Picture) (h n k : ℕ) (xs : List Entry) → IsIssue p q h n k → AllByRecursion (IsEntry p) xs
    → AllByRecursion (IsEntry q) (filter (is_other n) xs)
entries_left p q h n k [] step all = tt
entries_left p q h n k (x ∷ xs) step all =
    elim (cases_eq x.seq n) [
      | inl here ↦
          let test : (x.seq == n) ≡ true = grind (arith, nat_tests) in
          rw test (entries_left p q h n k xs step all.1)
      | inr other ↦
          let test : (x.seq == n) ≡ false = grind (arith, nat_tests) in
          let same = step.flights x.seq (ap is_in_flight all.0.waits) other in
          rw test (
            waiting_kept p q x step.stays.shared.kept same step.stays.shared.readings all.0,
            entries_left p q h n k xs step all.1,
          )
    ]

-- ---- The job

number_found : (o : Option ℕ) (r : ℕ) → is_value (source_of o r) ≡ true → o ≡ Some (source_number (source_of o r))
number_found None r has = absurd (grind arith)
number_found (Some n) r has = refl

-- What a ready entry reads.
pub record HasOperands (p : Picture) (e : Entry) : Type 0 where
  pub first : p.reads first_source e.seq ≡ Some (first_source_number e)
  pub second : p.reads second_source e.seq ≡ Some (second_number e)

pub operands_found : (p : Picture) (e : Entry) → IsEntry p e → has_values e ≡ true → HasOperands p e
operands_found p e is ready =
    let one = source_at p first_source e.seq in
    let two = source_at p second_source e.seq in
    let both =
    and_parts (is_value one) (is_value two && true) (subst (λ xs. list_all is_value xs ≡ true) is.sources ready) in
    let second = and_parts (is_value two) true both.1 in
    record {
      first = number_found (p.reads first_source e.seq) (p.seen first_source e.seq) both.0
          ∙ ap (λ xs. Some (source_number (slice_index_or xs 0 (Value 0)))) (sym is.sources);
      second = number_found (p.reads second_source e.seq) (p.seen second_source e.seq) second.0
          ∙ ap (λ xs. Some (source_number (slice_index_or xs 1 (Value 0)))) (sym is.sources);
    }

pub job_issued : (p q : Picture) (k : ℕ) (e : Entry) → IsIssuing p q k e → has_values e ≡ true
    → IsOpenJob q k (open_job_of e)
job_issued p q k e issuing ready =
    let is = issuing.entry in
    let step = issuing.step in
    let reads = operands_found p e is ready in
    let own : (k == k) ≡ true = grind (arith, nat_tests) in
    record {
      lent = step.job k ∙ rw own refl;
      instruction = is.instruction;
      fetched = step.stays.shared.fetches.fetched e.seq ∙ is.fetched;
      hart = is.hart;
      pc = is.pc;
      op = is.op;
      first = step.first_operand ∙ reads.first;
      second = step.second_operand ∙ reads.second;
    }

jobs_issued : (p q : Picture) (k : ℕ) (e : Entry) (jobs : List (Option OpenJob)) → IsIssuing p q k e
    → has_values e ≡ true → k < most_actors
    → length jobs ≡ most_actors → JobsAgree p jobs → JobsAgree q (slice_set jobs k (Some (open_job_of e)))
jobs_issued p q k e jobs issuing ready inside count all = λ j d under.
    let step = issuing.step in
    elim (cases_eq j k) [
      | inl same ↦ rw (same, get_or-set_same jobs k (Some (open_job_of e)) d (omega arith))
          (job_issued p q k e issuing ready)
      | inr other ↦
          let test : (j == k) ≡ false = grind (arith, nat_tests) in
          let kept : q.job j ≡ p.job j = step.job j ∙ rw test refl in
          rw (get_or-set_other jobs k j (Some (open_job_of e)) d other)
          (lent_kept p q j (slice_index_or jobs j d) step.stays.shared.kept kept step.stays.shared.operands
          (all j d under))
    ]

-- ---- The whole step

renamed_completed : Renamed ≡ Completed → ⊥
renamed_completed same = omega (arith, ap stage_number same)

pub parts_issued : (p q : Picture) (x : Parts) (k : ℕ) (e : Entry) (state new : HartState) (queue : Queue)
    → IsIssuing p q k e → has_values e ≡ true
    → k < most_actors → PartsAgree p x → e.hart < length x.harts.items
    → state ≡ slice_index_or x.harts.items e.hart state
    → new.active ≡ with_stage e.seq stage.Issued state.active → new.icount + 1 ≡ state.icount
    → new ≡ record state { active = new.active; icount = new.icount }
    → queue ≡ record x.queue { entries = filter (is_other e.seq) x.queue.entries }
    → EachAgrees q (slice_set x.harts.items e.hart new) × QueueAgrees q queue × FreeAgrees q x.free
    × ValuesAgree q x.values
    × (length (slice_set x.jobs k (Some (open_job_of e))) ≡ most_actors)
    × JobsAgree q (slice_set x.jobs k (Some (open_job_of e)))
    × AccessesAgree q.touched (slice_set x.harts.items e.hart new) x.accesses × MemoryAgrees q x.memory
    × CheckpointsAgree (slice_set x.harts.items e.hart new)
parts_issued p q x k e state new queue issuing ready actor agrees inside at active count rest queued =
    let step = issuing.step in
    let hart : HartAgrees p e.hart state = subst (HartAgrees p e.hart) (sym at) (agrees.harts e.hart state inside) in
    let unresolved = opens p e.hart e.seq (op_in p e.seq) refl (λ done. renamed_completed (sym step.waited ∙ done))
    state.active hart.actives in
    let left : QueueAgrees q (record x.queue { entries = filter (is_other e.seq) x.queue.entries }) = record {
      numbers = numbers_left e.seq x.queue.entries
          ∙ (ap (filter (λ s. not (s == e.seq))) agrees.queue.numbers ∙ sym step.queue);
      entries = entries_left p q e.hart e.seq k x.queue.entries step agrees.queue.entries;
    } in (
      harts_issued p q e.hart e.seq k x.harts.items state new step inside at active count rest agrees.harts,
      subst (QueueAgrees q) (sym queued) left,
      λ y. agrees.free y ∙ sym (step.stays.shared.free y),
      values_kept p q x.values step.stays.shared.free step.stays.shared.values agrees.values,
      length-set x.jobs k (Some (open_job_of e)) ∙ agrees.actors,
      jobs_issued p q k e x.jobs issuing ready actor agrees.actors agrees.jobs,
      accesses_kept p.touched q.touched (slice_set x.harts.items e.hart new) x.accesses step.stays.shared.memory.touched
          (accesses_still p.touched x.harts.items e.hart state new x.accesses inside at
          (ap (accesses_of p.touched) active
          ∙ accesses_issued p.touched e.seq (op_in p e.seq) state.active unresolved) agrees.accesses),
      memory_kept p q x.memory step.stays.shared.memory agrees.memory,
      checkpoints_set x.harts.items e.hart new inside
          (subst HasCheckpoints (sym rest)
          (subst (λ xs. AreCheckpoints xs state.maps) (sym active)
          (checkpoints_issued e.seq stage.Issued state.active state.maps refl
          (checkpoints_here x.harts.items e.hart state inside at agrees.checkpoints))))
          agrees.checkpoints,
    )
