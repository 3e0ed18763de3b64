-- Every run is shown, turn by turn, by the script of its order.
use Rattle.std.specs.Prelude.{◌≡◌, ℕ, ◌+◌, ◌*◌, ◌<◌, ◌≤◌, true, false, ◌&&◌, nat_lt, List, [], ◌∷◌}
use Rattle.std.specs.Prelude.{length, map, Some}
use Rattle.std.specs.List.{AllByRecursion}
use Rattle.std.proofs.Common.{◌∙◌, refl, sym, ap, subst, arith}
use Rattle.std.proofs.lemmas.Bool.Decides.{nat_tests}
use Rattle.elf_image.specs.Image.{code_writable}
use Rattle.events.specs.declared.event.Event.{Event}
use Rattle.smt_model.specs.{Setup.Setup, Jobs.is_actor, Asks.Ask, Rules.is_legal, Account.order, Memory.is_going}
use Rattle.smt_model.specs.Plain.{Run, run, step, start, advance, is_going_status, op_at_pc}
use Rattle.smt_laws.specs.Shown.{Predictor, HasUnit, CanShow, IsShown, EachRunIsShown, EachExecutionIsShown}
use Rattle.smt_laws.specs.{Shown.AcceptedCoresCanShow, Scripts.script, Scripts.turn_asks, Scripts.ScriptsShowRuns}
use Rattle.smt_laws.proofs.{Done.some_one, PlainLaws.run_before, PlainLaws.taken_true, Sequential.sequential}
use Rattle.smt_laws.proofs.{Executions.executions_are_runs}
use Rattle.smt_laws.proofs.Showing.{Units.HasUnitFor, Turning.IsAtRest, Turning.GoesOn, Turning.next-op}
use Rattle.smt_laws.proofs.Showing.{Turning.rest-wider, Turning.six_more}
use Rattle.smt_laws.proofs.Showing.{Turning.turned, Starting.at_start}

-- A hart goes in a history as it does in the run that has come as far.
pub goes-same : (setup : Setup) (harts : List ℕ) (before : Run) → run setup harts ≡ Some before
    → (h : ℕ) (past : List Event) → is_legal setup past → order past ≡ harts
    → is_going past h ≡ is_going_status (before.state.statuses h)
goes-same setup harts before runs h past legal in_order =
    let k = sequential setup past legal in
    let same : before ≡ k.ran = some_one before k.ran (sym runs ∙ (ap (run setup) (sym in_order) ∙ k.runs)) in
    ap is_going_status (sym (k.statuses h)) ∙ ap (λ z. is_going_status (z.state.statuses h)) (sym same)

-- One that takes a step goes.
pub goes_on : (setup : Setup) (harts : List ℕ) (before : Run) → run setup harts ≡ Some before
    → (h : ℕ) → is_going_status (before.state.statuses h) ≡ true → GoesOn setup harts h
goes_on setup harts before runs h going past legal in_order =
    goes-same setup harts before runs h past legal in_order ∙ going

-- At the start all go.
abbrev pub first_run : Setup → Run
first_run setup = record { records = []; state = start setup }

pub all_go : (setup : Setup) (h : ℕ) → h < setup.harts → GoesOn setup [] h
all_go setup h there = goes_on setup [] (first_run setup) refl h refl

pub record IsNeeded (setup : Setup) : Type 0 where
  pub spare : 1 ≤ setup.extra
  pub place : 1 ≤ setup.queue
  pub actors : 1 ≤ length setup.roles

pub first_actor : (setup : Setup) → IsNeeded setup → is_actor setup 0 ≡ true
first_actor setup needs = let some = needs.actors in grind (arith, nat_tests)

-- All turns.
at_rest : (setup : Setup) (predict : Predictor) → IsNeeded setup → code_writable setup.image ≡ false
    → (harts : List ℕ) (ran : Run) → run setup harts ≡ Some ran → AllByRecursion (HasUnit setup) ran.records
    → IsAtRest setup predict (script setup.harts setup.roles harts) harts (6 * length harts + setup.harts)
at_rest setup predict needs fixed [] ran runs units =
    rest-wider setup predict (script setup.harts setup.roles []) [] setup.harts (6 * 0 + setup.harts) (omega arith)
    (at_start setup predict (first_actor setup needs) (all_go setup)).rest
at_rest setup predict needs fixed (h ∷ harts) ran runs units =
    let last = run_before setup h (run setup harts) ran runs in
    let before = last.0 in
    let ran_before : run setup harts ≡ Some before = last.1.0 in
    let all : AllByRecursion (HasUnit setup) (advance setup h before).records =
    subst (λ z. AllByRecursion (HasUnit setup) z.records) (sym last.1.1) units in
    let test : (nat_lt h setup.harts && is_going_status (before.state.statuses h)) ≡ true =
    taken_true (nat_lt h setup.harts && is_going_status (before.state.statuses h)) (advance setup h before) ran
    (ap (step setup h) (sym ran_before) ∙ runs) in
    let under : h < setup.harts = grind (arith, nat_tests) in
    let going : is_going_status (before.state.statuses h) ≡ true = grind arith in
    let goes = goes_on setup harts before ran_before h going in
    let op = op_at_pc setup before.state h in
    let unit : HasUnitFor setup op = record { actor = all.0.actor; suits = all.0.suits } in
    let rest = at_rest setup predict needs fixed harts before ran_before all.1 in
    let most = 6 * length harts + setup.harts in
    let asks = script setup.harts setup.roles harts in
    rest-wider setup predict (turn_asks setup.roles h asks) (h ∷ harts) (six_more most)
    (6 * length (h ∷ harts) + setup.harts) (omega arith)
    (turned setup predict asks harts h most (first_actor setup needs) needs.spare needs.place fixed op unit
    (λ past n at legal in_order alone low high.
    next-op setup harts before ran_before h goes fixed past legal in_order n at alone low high)
    rest (rest.waiting h under (goes rest.past rest.so.legal rest.so.in_order)))

-- The history at rest shows the run.
unfoldable pub shown_at_rest : (setup : Setup) (predict : Predictor) (each : ℕ) (asks : List Ask) (harts : List ℕ)
    (ran : Run)
    → run setup harts ≡ Some ran → IsAtRest setup predict asks harts (each * length harts + setup.harts)
    → IsShown setup predict each harts ran.records
shown_at_rest setup predict each asks harts ran runs rest =
    let k = sequential setup rest.past rest.so.legal in
    let same : ran ≡ k.ran = some_one ran k.ran (sym runs ∙ (ap (run setup) (sym rest.so.in_order) ∙ k.runs)) in
    record {
      past = rest.past;
      legal = rest.so.legal;
      decided = rest.so.decided;
      short = rest.so.count;
      in_order = rest.so.in_order;
      retired = sym k.records ∙ ap (λ z. z.records) (sym same);
    }

pub scripts_show_runs : ScriptsShowRuns
unfolding shown_at_rest
scripts_show_runs setup predict harts ran fixed runs can =
    let needs : IsNeeded setup = record { spare = can.spare; place = can.place; actors = can.actors } in
    let rest = at_rest setup predict needs fixed harts ran runs can.units in
    record {
      shown = shown_at_rest setup predict 6 (script setup.harts setup.roles harts) harts ran runs rest;
      replied = rest.so.replied;
    }

pub each_run_is_shown : EachRunIsShown
each_run_is_shown setup predict harts ran fixed runs can =
    (scripts_show_runs setup predict harts ran fixed runs can).shown

pub each_execution_is_shown : EachExecutionIsShown
each_execution_is_shown setup predict all fixed execution can =
    let told = executions_are_runs setup all execution in
    subst (λ rs. IsShown setup predict 6 (map (λ r. r.hart) all) rs) told.records
    (each_run_is_shown setup predict (map (λ r. r.hart) all) told.ran fixed told.runs
    (subst (CanShow setup) (sym told.records) can))

pub accepted_cores_can_show : AcceptedCoresCanShow
accepted_cores_can_show setup limit accepted all units =
    record {
      spare = grind (arith, nat_tests);
      place = grind (arith, nat_tests);
      actors = grind (arith, nat_tests);
      units = units;
    }
