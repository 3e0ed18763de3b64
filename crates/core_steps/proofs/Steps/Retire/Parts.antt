-- What a retirement does to the parts: committed or left, they agree with the picture after the step. Lists and
-- pictures alone.
use Rattle.std.specs.Prelude.{◌≡◌, ◌≢◌, ℕ, ◌<◌, ◌==◌, ◌&&◌, ◌||◌, not, Bool, true, false, List, [], ◌∷◌, Option, Some}
use Rattle.std.specs.Prelude.{None, IfSome, map, drop, length, is_some, slice_index, slice_index_or, slice_set}
use Rattle.std.specs.{List.AllByRecursion, Vec.with_item}
use Rattle.std.proofs.Common.{◌∙◌, refl, subst, sym, ap, arith}
use Rattle.numbers.specs.Sizes.{most_registers}
use Rattle.smt_model.specs.{Basics.same_number, declared.config.Status.Status, Kinds.destination, Fates.is}
use Rattle.smt_model.specs.{Fates.Renamed, Fates.Completed, Picture.Picture}
use Rattle.std.proofs.lemmas.Bool.Decides.{nat_tests}
use Rattle.events.specs.declared.effect.Effect.{Effect}
use Rattle.free_list.specs.Flags.{holds}
use Rattle.rename_map.specs.Maps.{committed_of, released_after}
use Rattle.retire_squash.specs.declared.active.Active.{Active}
use Rattle.smt_model.specs.Steps.{KeepsFetched, KeepsFlights, KeepsReadings, filled_value, renamed_map, op_in, AreOwn}
use Rattle.shared_memory.specs.Contents.{Contents}
use Rattle.load_store.specs.Queues.{Queues, queues_of, Changes}
use Rattle.core_parts.specs.Accesses.{MemoryAgrees, accesses_of}
use Rattle.core_steps.specs.Accesses.{without_access, with_touched}
use Rattle.core_parts.specs.Agree.{IsActive, HartAgrees, EachAgrees, IsSlot, FreeAgrees, ValuesAgree, JobsAgree}
use Rattle.core_parts.specs.Agree.{PartsAgree}
use Rattle.core_steps.specs.Filled.{IsFilled}
use Rattle.core_parts.specs.Checkpoints.{AreCheckpoints, HasCheckpoints, CheckpointsAgree}
use Rattle.core_steps.specs.Retirement.{Commits, Leaves, HasCommitted, HasLeft, replaced_by}
use Rattle.core_parts.specs.{declared.hart.HartState.HartState, declared.slot.Slot.Slot, declared.parts.Parts.Parts}
use Rattle.smt_model.proofs.Fates.Moves.{stage_of, fate_at}
use Rattle.core_steps.proofs.{Agreement.Filled.WakesBoth, Agreement.Filled.queue_filled, Agreement.Filled.filled_none}
use Rattle.core_parts.proofs.{Agreement.Shared.jobs_kept, Agreement.Queues.accesses_set, Agreement.Queues.active_op}
use Rattle.core_parts.proofs.{Agreement.Queues.memory_kept, Agreement.Queues.accesses_kept}
use Rattle.core_parts.proofs.Agreement.Checkpoints.{checkpoints_here, checkpoints_set}
use Rattle.core_steps.proofs.Steps.Retire.Checkpoints.{popped, left}
use Rattle.core_steps.proofs.Steps.Retire.Memory.{IsCommitted, accesses_dropped, memory_committed}
use Rattle.core_steps.proofs.Steps.Retire.Touching.{accesses_touched, actives_left}
use Rattle.core_parts.proofs.Agreement.Harts.{slots_kept, stage_flies, active_kept, others_kept, each_set}

or_left : (a b : Bool) → (a || b) ≡ false → a ≡ false
or_left a b none = grind arith

if_some : (o : Option ℕ) (P : ℕ → Type 0) → ((r : ℕ) → o ≡ Some r → P r) → IfSome o P
if_some None P holds = tt
if_some (Some r) P holds = holds r refl

-- ---- Waiting entries

-- One that waits hasn't completed.
waits_apart : (p : Picture) (n s : ℕ) → p.fate n ≡ Completed → p.fate s ≡ Renamed → s ≢ n
waits_apart p n s done waits = λ same. let at : p.fate s ≡ p.fate n = ap p.fate same in cc

-- It still waits once another has left.
waits_on : (p q : Picture) (n : ℕ) → p.fate n ≡ Completed → KeepsFlights p q n → (s : ℕ) → p.fate s ≡ Renamed
    → q.fate s ≡ Renamed
waits_on p q n done flights s waits = (flights s (rw waits refl) (waits_apart p n s done waits)).fate ∙ waits

-- Where no register gets its number, what they read stays.
reads_on : (p q : Picture) (n : ℕ) → p.fate n ≡ Completed → KeepsFlights p q n → KeepsReadings p q
    → WakesBoth p q None None
reads_on p q n done flights readings s waiting =
    let waits : p.fate s ≡ Renamed = fate_at (p.fate s) Renamed (stage_of (p.fate s) Renamed waiting) in
    let both = readings s waiting (ap (λ f. is f Renamed) (waits_on p q n done flights s waits)) in
    ((both.0.seen, both.0.reads), (both.1.seen, both.1.reads))

-- ---- Registers

values_filled : (p q : Picture) (register filled : Option ℕ) (old new : List (Option ℕ)) → length new ≡ length old
    → ((x : ℕ) (d : Option ℕ) → x < length old
    → slice_index_or new x d ≡ filled_value register filled x (slice_index_or old x d))
    → ((x : ℕ) → q.free x ≡ false → q.value x ≡ filled_value register filled x (p.value x))
    → ((x : ℕ) → q.free x ≡ false → p.free x ≡ false) → ValuesAgree p old → ValuesAgree q new
values_filled p q register filled old new same written holds claims agrees = λ x d under claimed.
    let inside : x < length old = omega arith in
    written x d inside
    ∙ (ap (filled_value register filled x) (agrees x d inside (claims x claimed)) ∙ sym (holds x claimed))

given_replaced : (phys : Option ℕ) (before other y : ℕ) → (is_some phys ≡ true → before ≡ other)
    → same_number (replaced_by phys before) (Some y) ≡ (is_some phys && (y == other))
given_replaced None before other y same = refl
given_replaced (Some x) before other y same = let at : before ≡ other = same refl in grind (arith, nat_tests)

free_given : (p q : Picture) (old new : List Bool) (replaced : Option ℕ) (test : ℕ → Bool)
    → ((y : ℕ) → holds new y ≡ (holds old y || same_number replaced (Some y)))
    → ((y : ℕ) → same_number replaced (Some y) ≡ test y)
    → ((y : ℕ) → q.free y ≡ (p.free y || test y)) → FreeAgrees p old → FreeAgrees q new
free_given p q old new replaced test gives same frees agrees = λ y.
    gives y
    ∙ (ap (λ b. b || same_number replaced (Some y)) (agrees y) ∙ (ap (λ b. p.free y || b) (same y) ∙ sym (frees y)))

-- ---- The active list

all_drop : {A : Type 0} → (P : A → Type 0) (xs : List A) → AllByRecursion P xs → AllByRecursion P (drop 1 xs)
all_drop P [] all = tt
all_drop P (x ∷ xs) all = all.1

map_drop : (xs : List Active) → map (λ a. a.seq) (drop 1 xs) ≡ drop 1 (map (λ a. a.seq) xs)
map_drop [] = refl
map_drop (x ∷ xs) = refl

younger_kept : (p q : Picture) (h n : ℕ) (xs : List Active) → KeepsFetched p q → KeepsFlights p q n
    → AllByRecursion (λ s. n < s) (map (λ a. a.seq) xs) → AllByRecursion (IsActive p h) xs
    → AllByRecursion (IsActive q h) xs
younger_kept p q h n [] kept flights younger all = tt
younger_kept p q h n (x ∷ xs) kept flights younger all =
    let other : x.seq ≢ n = λ same. absurd (omega (arith, same, younger.0)) in (
      active_kept p q h x kept (flights x.seq (stage_flies p x.seq x.stage all.0.stage) other) all.0,
      younger_kept p q h n xs kept flights younger.1 all.1,
    )

-- The rest of a flight whose first has left.
rest_numbers : (p : Picture) (h n : ℕ) (xs : List Active) (rest : List ℕ) → map (λ a. a.seq) xs ≡ p.flight h
    → p.flight h ≡ n ∷ rest
    → map (λ a. a.seq) (drop 1 xs) ≡ rest
rest_numbers p h n xs rest numbers flight = map_drop xs ∙ ap (drop 1) (numbers ∙ flight)

rest_kept : (p q : Picture) (h n : ℕ) (xs : List Active) → KeepsFetched p q → KeepsFlights p q n
    → map (λ a. a.seq) xs ≡ p.flight h
    → AllByRecursion (λ s. n < s) (drop 1 (p.flight h)) → AllByRecursion (IsActive p h) xs
    → AllByRecursion (IsActive q h) (drop 1 xs)
rest_kept p q h n xs kept flights numbers younger all =
    younger_kept p q h n (drop 1 xs) kept flights
    (subst (AllByRecursion (λ s. n < s)) (sym (map_drop xs ∙ ap (drop 1) numbers)) younger)
    (all_drop (IsActive p h) xs all)

-- ---- A commit

abbrev numbers_of : List Slot → List ℕ
numbers_of xs = map (λ s. s.seq) xs

renamed_same : (rd d : ℕ) (phys taken : Option ℕ) (r before other : ℕ) → rd ≡ d → phys ≡ taken → before ≡ other
    → renamed_map rd phys r before ≡ renamed_map d taken r other
renamed_same rd d phys taken r before other one two three =
    ap (λ z. renamed_map z phys r before) one
    ∙ (ap (λ z. renamed_map d z r before) two ∙ ap (renamed_map d taken r) three)

hart_committed : (p q : Picture) (h : ℕ) (x : Active) (effect : Effect) (pc : ℕ) (a y : HartState) (replaced : Option ℕ)
    → Commits p q h x effect pc
    → HasCommitted a y x.rd x.phys pc replaced → HartAgrees p h a → HartAgrees q h y
hart_committed p q h x effect pc a y replaced commits has is =
    let step = commits.step in
    let oldest = commits.is_oldest in
    let kept : KeepsFetched p q = step.stays.shared.kept in
    record {
      decode_latch = ap (λ l. numbers_of l.items) has.decode_latch ∙ (is.decode_latch ∙ sym step.stays.hart.in_decode);
      decode_slots = subst (λ l. AllByRecursion (IsSlot q h) l.items) (sym has.decode_latch)
          (slots_kept p q h a.decode_latch.items kept is.decode_slots);
      rename_latch = ap (λ l. numbers_of l.items) has.rename_latch ∙ (is.rename_latch ∙ sym step.stays.hart.in_rename);
      rename_slots = subst (λ l. AllByRecursion (IsSlot q h) l.items) (sym has.rename_latch)
          (slots_kept p q h a.rename_latch.items kept is.rename_slots);
      active = ap (map (λ z. z.seq)) has.active ∙ rest_numbers p h x.seq a.active (q.flight h) is.active step.flight;
      actives =
          subst (AllByRecursion (IsActive q h)) (sym has.active)
          (rest_kept p q h x.seq a.active kept step.flights is.active oldest.younger is.actives);
      icount = has.icount ∙ (is.icount ∙ sym step.stays.hart.icount);
      speculative = λ r above under.
          ap (λ m. slice_index m r) has.speculative
          ∙ (is.speculative r above under ∙ sym (step.stays.hart.mapped r above under));
      committed = λ r above under.
          has.committed r
          ∙ (renamed_same x.rd (destination (op_in p x.seq)) x.phys (p.phys x.seq) r (committed_of a.maps r)
          (p.committed h r) oldest.rd oldest.phys
          (is.committed r above under)
          ∙ sym (step.committed r above under));
      fetch_pc = has.fetch_pc ∙ sym step.fetch_pc;
      status = has.status ∙ (is.status ∙ sym step.stays.hart.status);
    }

-- The register that was committed before is the picture's.
was_committed : (p q : Picture) (h : ℕ) (x : Active) (effect : Effect) (pc : ℕ) (a : HartState)
    → Commits p q h x effect pc
    → HartAgrees p h a
    → is_some x.phys ≡ true → committed_of a.maps x.rd ≡ p.committed h (destination (op_in p x.seq))
was_committed p q h x effect pc a commits is some =
    let oldest = commits.is_oldest in
    let writes : is_some x.phys ≡ not (x.rd == 0) =
    ap is_some oldest.phys ∙ (commits.step.fits ∙ ap (λ d. not (d == 0)) (sym oldest.rd)) in
    let low : 0 < x.rd = grind (arith, nat_tests) in
    is.committed x.rd low oldest.range ∙ ap (p.committed h) oldest.rd

free_committed : (p q : Picture) (h : ℕ) (x : Active) (effect : Effect) (pc : ℕ) (a y : HartState) (replaced : Option ℕ)
    (old new : List Bool)
    → Commits p q h x effect pc → HasCommitted a y x.rd x.phys pc replaced → HartAgrees p h a
    → ((r : ℕ) → holds new r ≡ (holds old r || same_number replaced (Some r))) → FreeAgrees p old → FreeAgrees q new
free_committed p q h x effect pc a y replaced old new commits has is gives agrees =
    let d = destination (op_in p x.seq) in
    free_given p q old new replaced (λ r. is_some (p.phys x.seq) && (r == p.committed h d)) gives
    (λ r.
    ap (λ o. same_number o (Some r)) has.answer
    ∙ (given_replaced x.phys (committed_of a.maps x.rd) (p.committed h d) r
    (was_committed p q h x effect pc a commits is)
    ∙ ap (λ o. is_some o && (r == p.committed h d)) commits.is_oldest.phys))
    commits.step.free agrees

pub parts_committed : (p q : Picture) (h : ℕ) (x : Active) (effect : Effect) (pc : ℕ) (old new : Parts)
    (a y : HartState) (replaced : Option ℕ) (free : List Bool) (left accesses : List Queues) (memory : Contents)
    → h < length old.harts.items → a ≡ slice_index_or old.harts.items h a
    → HasCommitted a y x.rd x.phys pc replaced → Changes (without_access x.op) h old.accesses left
    → length accesses ≡ length left
    → ((g : ℕ) → queues_of accesses g ≡ with_touched effect.write (queues_of left g))
    → IsCommitted h x effect.write old.memory memory
    → ((r : ℕ) → holds free r ≡ (holds old.free r || same_number replaced (Some r)))
    → IsFilled x.phys effect.value
    (record old { harts = with_item old.harts h y; free = free; accesses = accesses; memory = memory }) new
    → PartsAgree p old → Commits p q h x effect pc → PartsAgree q new
parts_committed p q h x effect pc old new a y replaced free gone_from accesses memory inside at has gone count touches
    made gives filled agrees commits =
    let step = commits.step in
    let oldest = commits.is_oldest in
    let here : HartAgrees p h a = subst (HartAgrees p h) (sym at) (agrees.harts h a inside) in
    let claims : (r : ℕ) → q.free r ≡ false → p.free r ≡ false =
    λ r claimed. or_left (p.free r) _ (sym (step.free r) ∙ claimed) in
    let values : (r : ℕ) → q.free r ≡ false → q.value r ≡ filled_value x.phys effect.value r (p.value r) =
    λ r claimed. step.values r claimed ∙ ap (λ o. filled_value o effect.value r (p.value r)) (sym oldest.phys) in
    let wakes : WakesBoth p q x.phys effect.value =
    subst (λ o. WakesBoth p q o effect.value) (sym oldest.phys) step.readings in
    record {
      harts =
          subst (λ v. EachAgrees q v.items) (sym filled.harts)
          (each_set p q old.harts.items h a y inside at (hart_committed p q h x effect pc a y replaced commits has)
          (others_kept p q h x.seq step.stays step.of_hart step.flights) agrees.harts);
      checkpoints =
          subst (λ v. CheckpointsAgree v.items) (sym filled.harts)
          (checkpoints_set old.harts.items h y inside
          (subst (λ xs. AreCheckpoints xs y.maps) (sym has.active)
          (popped p h x oldest.is_active oldest.completed a.active (q.flight h) a.maps y.maps (here.active ∙ step.flight)
          here.actives (subst (λ xs. AllByRecursion (λ s. x.seq < s) (drop 1 xs)) step.flight oldest.younger) has.kept
          has.committed (checkpoints_here old.harts.items h a inside at agrees.checkpoints))) agrees.checkpoints);
      queue =
          queue_filled p q x.phys effect.value step.stays.shared.kept
          (waits_on p q x.seq oldest.completed step.flights) wakes old.queue new.queue
          agrees.queue step.stays.shared.queue filled.queue;
      free =
          subst (FreeAgrees q) (sym filled.free)
          (free_committed p q h x effect pc a y replaced old.free free commits has here gives agrees.free);
      registers = filled.count ∙ agrees.registers;
      values = values_filled p q x.phys effect.value old.values new.values filled.count filled.values values claims
          agrees.values;
      actors = ap length filled.jobs ∙ agrees.actors;
      jobs = subst (JobsAgree q) (sym filled.jobs)
          (jobs_kept p q old.jobs step.stays.shared.kept step.stays.shared.job step.stays.shared.operands agrees.jobs);
      accesses =
          rw (filled.accesses, filled.harts)
          (accesses_touched p q.touched effect.write (slice_set old.harts.items h y) gone_from accesses step.touched count
          (actives_left p h a y old.harts.items inside at has.active agrees.harts) touches
          (accesses_set p.touched (without_access x.op) old.harts.items h a y old.accesses gone_from inside at gone
          (ap (accesses_of p.touched) has.active
          ∙ accesses_dropped p h x.seq x.op a.active (q.flight h) (here.active ∙ step.flight) here.actives
          (active_op p h x oldest.is_active)) agrees.accesses));
      memory =
          subst (MemoryAgrees q) (sym filled.memory)
          (memory_committed p q h x effect pc old.memory memory commits made agrees.memory);
    }

-- ---- It leaves and commits nothing

-- The hart without it.
abbrev pub left_hart : Active → Status → ℕ → HartState → HartState
left_hart x status pc a =
    record a {
      active = drop 1 a.active;
      maps = record a.maps { kept = released_after x.seq a.maps.kept };
      fetch_pc = pc;
      status = status;
    }

hart_left : (p q : Picture) (h : ℕ) (x : Active) (status : Status) (pc : ℕ) (a : HartState)
    → Leaves p q h x status pc → HartAgrees p h a
    → HartAgrees q h (left_hart x status pc a)
hart_left p q h x status pc a leaves is =
    let step = leaves.step in
    let kept : KeepsFetched p q = step.stays.shared.kept in
    record {
      decode_latch = is.decode_latch ∙ sym step.stays.hart.in_decode;
      decode_slots = slots_kept p q h a.decode_latch.items kept is.decode_slots;
      rename_latch = is.rename_latch ∙ sym step.stays.hart.in_rename;
      rename_slots = slots_kept p q h a.rename_latch.items kept is.rename_slots;
      active = rest_numbers p h x.seq a.active (q.flight h) is.active step.flight;
      actives = rest_kept p q h x.seq a.active kept step.flights is.active leaves.is_oldest.younger is.actives;
      icount = is.icount ∙ sym step.stays.hart.icount;
      speculative = λ r above under. is.speculative r above under ∙ sym (leaves.mapped r above under);
      committed = λ r above under. is.committed r above under ∙ sym (step.stays.hart.committed r above under);
      fetch_pc = sym step.fetch_pc;
      status = sym step.status;
    }

pub parts_left : (p q : Picture) (h : ℕ) (x : Active) (status : Status) (pc : ℕ) (old : Parts) (a y : HartState)
    (free : List Bool) (accesses : List Queues)
    → h < length old.harts.items → a ≡ slice_index_or old.harts.items h a → HasLeft a y x.seq status pc
    → Changes (without_access x.op) h old.accesses accesses
    → ((r : ℕ) → holds free r ≡ (holds old.free r || same_number x.phys (Some r))) → PartsAgree p old
    → Leaves p q h x status pc
    → PartsAgree q (record old { harts = with_item old.harts h y; free = free; accesses = accesses })
parts_left p q h x status pc old a y free accesses inside at has gone gives agrees leaves =
    let step = leaves.step in
    let oldest = leaves.is_oldest in
    let here : HartAgrees p h a = subst (HartAgrees p h) (sym at) (agrees.harts h a inside) in
    let claims : (r : ℕ) → q.free r ≡ false → p.free r ≡ false =
    λ r claimed. or_left (p.free r) _ (sym (step.free r) ∙ claimed) in
    record {
      harts =
          each_set p q old.harts.items h a y inside
          at (λ is. subst (HartAgrees q h) (sym has) (hart_left p q h x status pc a leaves is))
          (others_kept p q h x.seq step.stays step.of_hart step.flights) agrees.harts;
      checkpoints =
          checkpoints_set old.harts.items h y inside
          (subst HasCheckpoints (sym has)
          (left p h x oldest.is_active oldest.completed a.active (q.flight h) a.maps (here.active ∙ step.flight)
          here.actives (subst (λ xs. AllByRecursion (λ s. x.seq < s) (drop 1 xs)) step.flight oldest.younger)
          (checkpoints_here old.harts.items h a inside at agrees.checkpoints))) agrees.checkpoints;
      queue =
          queue_filled p q None None step.stays.shared.kept (waits_on p q x.seq oldest.completed step.flights)
          (reads_on p q x.seq oldest.completed step.flights step.stays.shared.readings) old.queue old.queue agrees.queue
          step.stays.shared.queue
          (ap (λ es. record old.queue { entries = es }) (filled_none None old.queue.entries));
      free =
          free_given p q old.free free x.phys (λ y. same_number (p.phys x.seq) (Some y)) gives
          (λ r. ap (λ o. same_number o (Some r)) oldest.phys) step.free agrees.free;
      registers = agrees.registers;
      values =
          λ r d under claimed. agrees.values r d under (claims r claimed) ∙ sym (step.stays.shared.values r claimed);
      actors = agrees.actors;
      jobs = jobs_kept p q old.jobs step.stays.shared.kept step.stays.shared.job step.stays.shared.operands agrees.jobs;
      accesses =
          accesses_kept p.touched q.touched (slice_set old.harts.items h y) accesses step.stays.shared.memory.touched
          (accesses_set p.touched (without_access x.op) old.harts.items h a y old.accesses accesses inside at gone
          (ap (λ (z : HartState). accesses_of p.touched z.active) has
          ∙ accesses_dropped p h x.seq x.op a.active (q.flight h) (here.active ∙ step.flight) here.actives
          (active_op p h x oldest.is_active)) agrees.accesses);
      memory = memory_kept p q old.memory step.stays.shared.memory agrees.memory;
    }

-- Its own register can be given back: it is in range and isn't free.
pub own_leaves : (p q : Picture) (h : ℕ) (x : Active) (status : Status) (pc : ℕ) (free : List Bool)
    → Leaves p q h x status pc → FreeAgrees p free
    → IfSome x.phys (λ r. (r < most_registers) × (holds free r ≡ false))
own_leaves p q h x status pc free leaves agrees =
    if_some x.phys (λ r. (r < most_registers) × (holds free r ≡ false)) (λ r named.
    let own = (subst (AreOwn p) leaves.step.flight leaves.step.own).0 r (sym leaves.is_oldest.phys ∙ named) in
    (own.in_range, agrees r ∙ own.claimed))
