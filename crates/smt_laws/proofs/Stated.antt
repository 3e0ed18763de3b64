-- The laws as `specs/Laws` states them, from the lemmas that prove them.
use Rattle.std.specs.Prelude.{◌≡◌, ◌⊎◌, ℕ, ◌≤◌, true, ◌&&◌, List, ◌∷◌, Option, Some, None, is_some}
use Rattle.std.proofs.Common.{◌∙◌, refl, sym, ap, inl, inr, arith}
use Rattle.std.proofs.{lemmas.Bool.cases_Bool, lemmas.Bool.Decides.nat_tests}
use Rattle.events.specs.declared.event.Event.{Event}
use Rattle.smt_model.specs.{Basics.or_zero, Setup.Setup, Kinds.first_source, Kinds.second_source, Faults.computed_on}
use Rattle.smt_model.specs.{Outcomes.outcome_of, Rules.is_legal, Rules.computed_at}
use Rattle.smt_model.specs.Fates.{Fate, Unknown, InDecode, InRename, Renamed, Issued, Completed, Retired, Halted}
use Rattle.smt_model.specs.Fates.{Squashed, Fetched, stage, fate, is_in_flight, is_of, op_of_fetched}
use Rattle.smt_model.specs.Registers.{phys, source, committed, first_register, register_by, operand, reads}
use Rattle.smt_laws.specs.Histories.{may_become, place, MovesByStep, OneOfAKind, GoesInOrder, LeavesNothing}
use Rattle.smt_laws.specs.Histories.{SourcesStay, SourcesAreClaimed, IsOlderInFlight, ValuesStay, ClaimedOnce, FlightsHold}
use Rattle.smt_laws.specs.Histories.{CommittedHold, ResultsAreRules}
use Rattle.smt_model.proofs.{Fates.Moves.moves, Fates.Moves.stage_of, Fates.Sound.moved}
use Rattle.smt_laws.proofs.Fates.Order.{rank}
use Rattle.smt_laws.proofs.{Fates.Order.in_order, Registers.Held.is_held, Registers.Held.writer_named}
use Rattle.smt_laws.proofs.{Registers.Held.some_is, Registers.Counts.claims-once, Fates.Choosing.hart_there}
use Rattle.smt_laws.proofs.{Fates.Choosing.left, Registers.Values.completed-is}
use Rattle.smt_laws.proofs.Registers.Reading.{source_register-stays, value-stays}
use Rattle.smt_laws.proofs.{Registers.Operands.first_ready, Registers.Operands.second_ready, Fates.Once.one_of_a_kind}
use Rattle.smt_laws.proofs.Registers.Sources.{source-stays, source-committed, source-none, source-is}

-- ---- Steps

becomes : (old new : Fate) → moves (stage old) (stage new) ≡ true → may_become old new ≡ true
becomes Unknown new move = grind (arith, nat_tests)
becomes InDecode new move = grind (arith, nat_tests)
becomes InRename new move = grind (arith, nat_tests)
becomes Renamed new move = grind (arith, nat_tests)
becomes Issued new move = grind (arith, nat_tests)
becomes Completed new move = grind (arith, nat_tests)
becomes Retired new move = grind (arith, nat_tests)
becomes Halted new move = grind (arith, nat_tests)
becomes Squashed new move = grind (arith, nat_tests)

pub moves_by_step : MovesByStep
moves_by_step setup past legal e ok s = becomes (fate past s) (fate (e ∷ past) s) (moved setup past legal e ok s)

pub one_each : OneOfAKind
one_each = one_of_a_kind

-- ---- Order

place-is : (f : Fate) → place f ≡ rank (stage f)
place-is Unknown = refl
place-is InDecode = refl
place-is InRename = refl
place-is Renamed = refl
place-is Issued = refl
place-is Completed = refl
place-is Retired = refl
place-is Halted = refl
place-is Squashed = refl

pub goes_down_in_order : GoesInOrder
goes_down_in_order setup past legal h s t of_s of_t older lives =
    let order = in_order setup past legal h s t of_s of_t older (λ gone. absurd (grind (arith, nat_tests))) in
    let one = place-is (fate past s) in
    let two = place-is (fate past t) in
    omega arith

pub leaves_nothing : LeavesNothing
leaves_nothing setup past legal h s gone of_s = left setup past legal h gone s of_s

-- ---- Sources

pub sources_same : SourcesStay
sources_same setup past legal e ok h r s of_s was still = (
  source-stays setup past legal e ok h r s of_s was still,
  source_register-stays setup past legal e ok h r s of_s was still,
)

claimed_by : (setup : Setup) (past : List Event) → is_legal setup past → (h r s : ℕ) → 1 ≤ r → is_of past h s ≡ true
    → is_in_flight (fate past s) ≡ true → (o : Option ℕ) → source past h r s ≡ o
    → (register_by past (first_register h r) o ≡ committed past h r)
    ⊎ IsOlderInFlight past s (register_by past (first_register h r) o)
claimed_by setup past legal h r s low of_s flies None found =
    inl (sym (ap (register_by past (first_register h r)) (source-none setup past legal h r s of_s flies found)))
claimed_by setup past legal h r s low of_s flies (Some w) found =
    let at = source-is past h r s w found in
    elim (cases_Bool (is_in_flight (fate past w))) [
      | inl flies_too ↦
          let some = writer_named setup past legal h r w low at.writes_it (grind (arith, nat_tests))
          (grind (arith, nat_tests)) in
          inr (record { one = w; older = at.older; flies = flies_too; names = some_is (phys past w) some })
      | inr landed ↦
          inl
          (sym (ap (register_by past (first_register h r))
          (source-committed setup past legal h r s w of_s flies found landed)))
    ]

pub sources_claimed : SourcesAreClaimed
sources_claimed setup past legal h r s low high of_s flies =
    claimed_by setup past legal h r s low of_s flies (source past h r s) refl

pub values_same : ValuesStay
values_same setup past legal e ok h r s v low high of_s was still holds =
    value-stays setup past legal e ok h r s
    (record { hart = hart_there setup past legal h s of_s; low = low; high = high }) of_s was still v holds

-- ---- Claims

pub claimed_once : ClaimedOnce
claimed_once = claims-once

pub flights_hold : FlightsHold
flights_hold setup past legal s p flies names = (is_held setup past legal).flying s p flies names

pub committed_hold : CommittedHold
committed_hold setup past legal h r there low high =
    (is_held setup past legal).committing h r (record { hart = there; low = low; high = high })

-- ---- Results

both_some : (a b : Option ℕ) (m n : ℕ) → a ≡ Some m → b ≡ Some n → (is_some a && is_some b) ≡ true
both_some a b m n one two = rw (one, two) refl

same_computed : (setup : Setup) (past : List Event) (s : ℕ) (f : Fetched)
    → operand setup first_source past s ≡ reads setup first_source past s
    → operand setup second_source past s ≡ reads setup second_source past s
    → computed_at setup past s f
    ≡ computed_on setup (op_of_fetched (Some f)) f.pc (or_zero (reads setup first_source past s))
    (or_zero (reads setup second_source past s))
same_computed setup past s f one two =
    let op = op_of_fetched (Some f) in
    ap (λ a. computed_on setup op f.pc (or_zero a) (or_zero (operand setup second_source past s))) one
    ∙ ap (λ b. computed_on setup op f.pc (or_zero (reads setup first_source past s)) (or_zero b)) two

some-one : {A : Type 0} → (a b : A) → Some a ≡ Some b → a ≡ b
some-one a b same = cc

pub results_are : ResultsAreRules
results_are setup past legal s f completed found =
    let at : stage (fate past s) ≡ 5 = stage_of (fate past s) Completed completed in
    let done = completed-is setup past legal s at in
    let one = first_ready setup past legal s (omega arith) (omega arith) in
    let two = second_ready setup past legal s (omega arith) (omega arith) in
    let same_f : done.fetch ≡ f = some-one done.fetch f (sym done.fetched ∙ found) in
    let same =
    same_computed setup past s f (one.operand_is ∙ sym one.reading_is) (two.operand_is ∙ sym two.reading_is) in
    record {
      ready = both_some (reads setup first_source past s) (reads setup second_source past s) one.number two.number
          one.reading_is two.reading_is;
      look = done.look;
      outcome = done.outcome;
      said = done.completed;
      outcome_is =
          done.outcome_is
          ∙ (ap (λ g. outcome_of (op_of_fetched (Some g)) (computed_at setup past s g) (Some done.look)) same_f
          ∙ ap (λ c. outcome_of (op_of_fetched (Some f)) c (Some done.look)) same);
      holds = done.result_is;
    }
