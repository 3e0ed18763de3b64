-- Every run is shown by the turns of its order, in twelve events an instruction, whether or not the code may be
-- written.
use Rattle.std.specs.Prelude.{◌≡◌, ℕ, ◌+◌, ◌*◌, ◌<◌, true, ◌&&◌, nat_lt, List, [], ◌∷◌, length, Some}
use Rattle.std.proofs.Common.{◌∙◌, refl, sym, ap, arith}
use Rattle.std.proofs.lemmas.Bool.Decides.{nat_tests}
use Rattle.smt_model.specs.{Setup.Setup}
use Rattle.smt_model.specs.Plain.{Run, run, step, advance, is_going_status}
use Rattle.smt_laws.specs.Shown.{Predictor, HasEachKind, EachRunIsShownInTwelve}
use Rattle.smt_laws.specs.Scripts.{fetch_asks, turns_of, turns_script, TurnsShowRuns}
use Rattle.smt_laws.proofs.{PlainLaws.run_before, PlainLaws.taken_true}
use Rattle.smt_laws.proofs.Showing.{Turning.rest-wider, Turning.six_more, Starting.at_start}
use Rattle.smt_laws.proofs.Showing.Refetching.{IsReady, HoldsWords, ready-wider, latch_waits, stepped}
use Rattle.smt_laws.proofs.Showing.EachRun.{IsNeeded, first_actor, first_run, all_go, goes_on, shown_at_rest}

ready_first : (setup : Setup) (predict : Predictor) → IsNeeded setup
    → IsReady setup predict (fetch_asks setup.harts) [] (12 * 0 + setup.harts)
ready_first setup predict needs =
    let is_one = first_actor setup needs in
    let first = at_start setup predict is_one (all_go setup) in
    let rest = first.rest in
    ready-wider setup predict (fetch_asks setup.harts) [] setup.harts (12 * 0 + setup.harts) (omega arith)
    (record {
      rest = rest;
      holds = record {
        single = first.single;
        words = λ g n f there latch at.
            latch_waits setup predict (fetch_asks setup.harts) [] setup.harts is_one rest (first_run setup) refl g
            (all_go setup g there rest.past rest.so.legal rest.so.in_order) (first.fresh g) n f latch at;
      };
    })

-- All turns.
ready : (setup : Setup) (predict : Predictor) → IsNeeded setup → HasEachKind setup
    → (harts : List ℕ) (ran : Run) → run setup harts ≡ Some ran
    → IsReady setup predict (turns_script setup.harts setup.roles (turns_of setup harts)) harts
    (12 * length harts + setup.harts)
ready setup predict needs kinds [] ran runs = ready_first setup predict needs
ready setup predict needs kinds (h ∷ harts) ran runs =
    let last = run_before setup h (run setup harts) ran runs in
    let before = last.0 in
    let ran_before : run setup harts ≡ Some before = last.1.0 in
    let test : (nat_lt h setup.harts && is_going_status (before.state.statuses h)) ≡ true =
    taken_true (nat_lt h setup.harts && is_going_status (before.state.statuses h)) (advance setup h before) ran
    (ap (step setup h) (sym ran_before) ∙ runs) in
    let under : h < setup.harts = grind (arith, nat_tests) in
    let going : is_going_status (before.state.statuses h) ≡ true = grind arith in
    let goes = goes_on setup harts before ran_before h going in
    let most = 12 * length harts + setup.harts in
    ready-wider setup predict (turns_script setup.harts setup.roles (turns_of setup (h ∷ harts))) (h ∷ harts)
    (six_more (six_more most)) (12 * length (h ∷ harts) + setup.harts) (omega arith)
    (stepped setup predict (first_actor setup needs) needs.spare needs.place kinds harts h under before ran ran_before
    runs goes most (ready setup predict needs kinds harts before ran_before))

pub turns_show_runs : TurnsShowRuns
unfolding shown_at_rest
turns_show_runs setup predict harts ran kinds runs can =
    let needs : IsNeeded setup = record { spare = can.spare; place = can.place; actors = can.actors } in
    let rest = (ready setup predict needs kinds harts ran runs).rest in
    let asks = turns_script setup.harts setup.roles (turns_of setup harts) in
    record {
      shown = shown_at_rest setup predict 12 asks harts ran runs rest;
      replied = rest.so.replied;
    }

pub each_run_is_shown_in_twelve : EachRunIsShownInTwelve
each_run_is_shown_in_twelve setup predict harts ran kinds runs can =
    (turns_show_runs setup predict harts ran kinds runs can).shown
