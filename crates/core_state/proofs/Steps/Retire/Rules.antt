-- The history's side of a retirement: the oldest instruction of a flight may retire where it is completed, with the
-- effect that the rules want now, and the picture then changes by that step; where it isn't completed, none of its hart
-- may, and none may be fetched again.
use Rattle.std.specs.Prelude.{◌≡◌, ℕ, ◌<◌, ◌≤◌, ◌==◌, Bool, true, false, List, [], ◌∷◌, drop, Option, Some, None}
use Rattle.std.specs.Prelude.{is_some}
use Rattle.std.specs.List.{AllByRecursion}
use Rattle.std.proofs.Common.{◌∙◌, refl, sym, ap, subst, arith}
use Rattle.std.proofs.lemmas.Bool.Decides.{nat_tests}
use Rattle.numbers.specs.Sizes.{most_registers}
use Rattle.events.specs.{declared.effect.Effect.Effect, declared.effect.Outcome.Outcome}
use Rattle.events.specs.{declared.event.Event.Event}
use Rattle.events.specs.declared.effect.Next.TheVariants as nexts
use Rattle.events.specs.declared.event.Event.TheVariants.{Fetch, Decode, Rename, Issue, Complete, Drop, Retire, Refetch}
use Rattle.retire_squash.specs.{declared.active.Active.Active, declared.active.Stage.Stage}
use Rattle.retire_squash.specs.declared.active.Stage.TheVariants as stages
use Rattle.rv_instr.specs.Decode.{op_of_word}
use Rattle.smt_model.specs.{Asks.AskRetire, Basics.first, Setup.Setup}
use Rattle.smt_model.specs.{Setup.registers_of, Nexts.is_last, Nexts.pc_after, Fetching.fetch_pc, Steps.IsReplay}
use Rattle.smt_model.specs.{Flights.flight, Picture.Picture, Picture.picture}
use Rattle.smt_model.specs.{Jobs.is_actor}
use Rattle.smt_model.specs.Kinds.{destination}
use Rattle.smt_model.specs.Fates.{Fetched, Completed, fate, is, stage, is_of, op_at, op_of_fetched, fetching}
use Rattle.smt_model.specs.Fates.{is_replayed, completion}
use Rattle.smt_model.specs.Rules.{is_legal, is_fresh, refused, effect_now}
use Rattle.smt_laws.proofs.Registers.Below.{destination-below}
use Rattle.smt_laws.proofs.{Fates.Choosing.hart_there, Events.SquashedRegisters.flight-rises}
use Rattle.smt_model.proofs.Lists.{Each, Rises}
use Rattle.smt_model.proofs.Fates.Moves.{stage_of, fate_at}
use Rattle.smt_model.proofs.Fates.Numbers.{first_of_hart}
use Rattle.core_state.specs.Answers.{AllowsNone}
use Rattle.core_parts.specs.{Agree.IsStage}
use Rattle.core_steps.specs.Retirement.{CanRetire, NoneCanRetire, IsOldestActive, Retires, first_value, is_replay}
use Rattle.core_state.proofs.Steps.Retire.Look.{fetched_of, at_fetched, retires_now, RetiresBy, retires_by_tests}
use Rattle.core_state.proofs.Steps.Retire.Wanted.{Wants, retire_wants, refetch_wants}

some_inner : {A : Type 0} → (a b : A) → Some a ≡ Some b → a ≡ b
some_inner a b same = cc

pub is_its_own : (setup : Setup) (past : List Event) (h : ℕ) (x : Active) (o : Outcome)
    → CanRetire (picture setup past) h x o
    → is_of past h x.seq ≡ true
is_its_own setup past h x o can =
    at_fetched past x.seq (λ f. f.hart == h) (record { hart = h; pc = x.pc; word = x.word; predicted = x.predicted })
    can.is_active.fetched
    (grind (arith, nat_tests))

-- ---- What it changes

younger_each : (n : ℕ) (xs : List ℕ) → Each (λ y. n < y) xs → AllByRecursion (λ y. n < y) xs
younger_each n [] all = tt
younger_each n (x ∷ xs) all = (all.0, younger_each n xs all.1)

younger_than : (n : ℕ) (xs : List ℕ) → first xs ≡ Some n → Rises xs → AllByRecursion (λ y. n < y) (drop 1 xs)
younger_than n [] at rises = tt
younger_than n (x ∷ xs) at rises =
    let same : x ≡ n = some_inner x n at in
    subst (λ m. AllByRecursion (λ y. m < y) xs) same (younger_each x xs rises.0)

pub oldest_is : (setup : Setup) (past : List Event) → is_legal setup past → (h : ℕ) (x : Active) (o : Outcome)
    → CanRetire (picture setup past) h x o → IsOldestActive (picture setup past) h x
oldest_is setup past legal h x o can =
    let is_active = can.is_active in
    let op : x.op ≡ op_of_word x.word = is_active.op in
    record {
      is_active = is_active;
      completed = can.completed;
      rd = is_active.rd ∙ ap destination (op ∙ sym (ap op_of_fetched is_active.fetched));
      range = subst (λ d. d < 32) (sym (is_active.rd ∙ ap destination op)) (destination-below x.word);
      phys = is_active.phys;
      younger = younger_than x.seq (flight past h) can.oldest (flight-rises setup past legal h);
    }

-- The code's test of a second look that differs is the definitions'.
first_value_is : (p : Picture) (s : ℕ) (at : Stage) (o : Outcome) → p.fate s ≡ Completed → IsStage p s at
    → p.completion s ≡ Some o → first_value at ≡ o.value
first_value_is p s stages.Renamed o done is said = absurd (omega (arith, ap stage (sym is ∙ done)))
first_value_is p s stages.Issued o done is said = absurd (omega (arith, ap stage (sym is ∙ done)))
first_value_is p s (stages.Completed outcome) o done is said =
    ap (λ (x : Outcome). x.value) (some_inner outcome o (sym is.1 ∙ said))

replay_is : (setup : Setup) (past : List Event) (h : ℕ) (x : Active) (o : Outcome) (effect : Effect)
    → CanRetire (picture setup past) h x o → is_replay x effect ≡ is_replayed past x.seq effect
replay_is setup past h x o effect can =
    let op : op_at past x.seq ≡ x.op = ap op_of_fetched can.is_active.fetched ∙ sym can.is_active.op in
    let value = first_value_is (picture setup past) x.seq x.stage o can.completed can.is_active.stage can.outcome in
    let said : completion past x.seq ≡ Some o = can.outcome in
    rw (op, said, value) refl

replays_by : (setup : Setup) (past : List Event) (actor h n : ℕ) (effect : Effect) (pc : ℕ)
    → RetiresBy setup past actor h n effect → effect.next ≡ nexts.Pc pc → is_replayed past n effect ≡ true
    → IsReplay (picture setup past) (picture setup (Retire actor n effect ∷ past)) h n effect pc
replays_by setup past actor h n effect pc by at other =
    let goes : pc_after effect.next (fetch_pc setup past h) ≡ pc =
    ap (λ next. pc_after next (fetch_pc setup past h)) at in
    subst (IsReplay (picture setup past) (picture setup (Retire actor n effect ∷ past)) h n effect) goes
    (by.replays (ap is_last at) other)

-- Which of the three it is.
pub retires_by : (setup : Setup) (past : List Event) → is_legal setup past
    → registers_of setup ≤ most_registers → (actor h : ℕ)
    → is_actor setup actor ≡ true → (x : Active) (o : Outcome) (effect : Effect) → CanRetire (picture setup past) h x o
    → is_fresh setup past (fetched_of h x) ≡ true → effect ≡ effect_now setup past x.seq (fetched_of h x)
    → Retires (picture setup past) (picture setup (Retire actor x.seq effect ∷ past)) h x effect
retires_by setup past legal fit actor h there x o effect can fresh says =
    let by = retires_by_tests setup past legal fit actor h x.seq effect
    (retires_now setup past actor h there x o effect can fresh says) (is_its_own setup past h x o can) in
    let test = replay_is setup past h x o effect can in
    record {
      is_oldest = oldest_is setup past legal h x o can;
      goes_on = λ going same. by.commits going (sym test ∙ same);
      replays = λ pc at other. replays_by setup past actor h x.seq effect pc by at (sym test ∙ other);
      ends = by.ends;
    }

-- ---- Where none may

is_refused : (o : Option ℕ) → (o ≡ None → ⊥) → is_some o ≡ true
is_refused None never = absurd (never refl)
is_refused (Some n) never = refl

-- Nothing answers but a retirement or a refetch of hart h by this actor.
none_retires : (setup : Setup) (past : List Event) (actor h : ℕ)
    → ((s : ℕ) → is_of past h s ≡ true → Wants setup past actor s → ⊥) → AllowsNone setup (AskRetire actor h) past
none_retires setup past actor h never (Fetch k hart seq pc word predicted) asked = absurd (grind arith)
none_retires setup past actor h never (Decode k seq) asked = absurd (grind arith)
none_retires setup past actor h never (Rename k seq phys) asked = absurd (grind arith)
none_retires setup past actor h never (Issue k seq) asked = absurd (grind arith)
none_retires setup past actor h never (Complete k seq outcome) asked = absurd (grind arith)
none_retires setup past actor h never (Drop k seq) asked = absurd (grind arith)
none_retires setup past actor h never (Retire k seq effect) asked =
    let same : k ≡ actor = grind (arith, nat_tests) in
    let of_h : is_of past h seq ≡ true = grind (arith, nat_tests) in
    is_refused (refused setup past (Retire k seq effect))
    (λ ok. never seq of_h (subst (λ z. Wants setup past z seq) same (retire_wants setup past k seq effect ok)))
none_retires setup past actor h never (Refetch k seq) asked =
    let same : k ≡ actor = grind (arith, nat_tests) in
    let of_h : is_of past h seq ≡ true = grind (arith, nat_tests) in
    is_refused (refused setup past (Refetch k seq))
    (λ ok. never seq of_h (subst (λ z. Wants setup past z seq) same (refetch_wants setup past k seq ok)))

pub no_actor_retires : (setup : Setup) (past : List Event) (actor h : ℕ) → is_actor setup actor ≡ false
    → AllowsNone setup (AskRetire actor h) past
no_actor_retires setup past actor h stranger =
    none_retires setup past actor h
    (λ s of_h wants. let there = wants.actor_is in
    absurd (cc (stranger, there)))

pub none_completed : (setup : Setup) (past : List Event) → is_legal setup past → (actor h : ℕ)
    → (h < setup.harts → NoneCanRetire (picture setup past) h) → AllowsNone setup (AskRetire actor h) past
none_completed setup past legal actor h never =
    none_retires setup past actor h (λ s of_h wants.
    never (hart_there setup past legal h s of_h) s (first_of_hart past (flight past) h s of_h wants.oldest)
    (fate_at (fate past s) Completed (stage_of (fate past s) Completed wants.fated)))
