use Rattle.std.proofs.Common.{subst, ◌∙◌, arith}
use Rattle.searches.specs.Sweeps.{found_by}
use Rattle.searches.specs.declared.origin.Origin.{Origin}
use Rattle.searches.specs.Dives.{IsNextTurn}
use Rattle.searches.proofs.Places.{read_at}
use Rattle.searches.proofs.Noting.{keeps, harts_stay, stands_inside}
use Rattle.searches.proofs.Tracing.{traced_grown, noted_traced}
use Rattle.searches.proofs.diving.go_on.Goals as goal

pub returns-in-None-clause-traced : goal.returns-in-None-clause-traced
returns-in-None-clause-traced g c =
    let m = c.args.machine.now in
    let n = c.next_turn.new.machine in
    let knows = g.M.Machine.Knows in
    let steps = g.M.Machine.Steps in
    let grows = c.in_ok-next_turn.ensures.grows in
    let found = found_by c.args.sweep.now in
    let traced = traced_grown (knows m) (knows n) (steps m) (steps n) (λ s k. g.met.M.Machine.still_known m n s grows k)
    (λ s h next k l e. g.met.M.Machine.still_true m n s h next grows k l e) found c.requires.traced in
    traced

pub returns-in-None-clause-gone : goal.returns-in-None-clause-gone
returns-in-None-clause-gone g c =
    let m = c.args.machine.now in
    let n = c.next_turn.new.machine in
    let knows = g.M.Machine.Knows in
    let steps = g.M.Machine.Steps in
    let grows = c.in_ok-next_turn.ensures.grows in
    let found = found_by c.args.sweep.now in
    let traced = traced_grown (knows m) (knows n) (steps m) (steps n) (λ s k. g.met.M.Machine.still_known m n s grows k)
    (λ s h next k l e. g.met.M.Machine.still_true m n s h next grows k l e) found c.requires.traced in
    let keys = c.args.sweep.now.states.keys in
    let state = c.index-as_slice-place.result in
    let at = read_at keys c.as_slice.result.now c.args.place state c.as_slice.ensures.keys c.requires.inside
    c.index-as_slice-place.is in
    let harts = c.requires.harts ∙ g.met.M.Machine.same_harts m n grows in
    let none = subst (IsNextTurn (knows n) (steps n) state 0 (g.M.Machine.harts n)) c.in-None.is
    c.in_ok-next_turn.ensures.turn in
    (state, at, λ h below. none h (omega arith) (omega (arith, below, harts)))

pub returns-in_ok-found-in-Some-clause-traced : goal.returns-in_ok-found-in-Some-clause-traced
returns-in_ok-found-in-Some-clause-traced g c =
    let m = c.args.machine.now in
    let n = c.next_turn.new.machine in
    let knows = g.M.Machine.Knows in
    let steps = g.M.Machine.Steps in
    let grows = c.in_ok-next_turn.ensures.grows in
    let found = found_by c.args.sweep.now in
    let traced = traced_grown (knows m) (knows n) (steps m) (steps n) (λ s k. g.met.M.Machine.still_known m n s grows k)
    (λ s h next k l e. g.met.M.Machine.still_true m n s h next grows k l e) found c.requires.traced in
    let keys = c.args.sweep.now.states.keys in
    let state = c.index-as_slice-place.result in
    let at = read_at keys c.as_slice.result.now c.args.place state c.as_slice.ensures.keys c.requires.inside
    c.index-as_slice-place.is in
    let harts = c.requires.harts ∙ g.met.M.Machine.same_harts m n grows in
    let turn = subst (IsNextTurn (knows n) (steps n) state 0 (g.M.Machine.harts n)) c.in-Some.is
    c.in_ok-next_turn.ensures.turn in
    noted_traced g.M.State.PartialEq.eq g.met.M.State.Eq.laws (knows n) (steps n) found traced c.args.place
    c.in-Some.turn.hart (omega (arith, turn.0, harts)) state at c.in-Some.turn.step.state c.in-Some.turn.step.way turn.1
    turn.2 (found_by c.note.new.self) c.in_ok-found-in-Some.found c.in_ok-found-in-Some.ensures.noted

pub returns-in_ok-found-in-Some-clause-kept : goal.returns-in_ok-found-in-Some-clause-kept
returns-in_ok-found-in-Some-clause-kept g c =
    keeps g.M.State.PartialEq.eq (found_by c.args.sweep.now) c.in-Some.turn.step.state
    (record { parent = c.args.place; hart = c.in-Some.turn.hart; way = c.in-Some.turn.step.way })
    (found_by c.note.new.self) c.in_ok-found-in-Some.found c.in_ok-found-in-Some.ensures.noted

pub returns-in_ok-found-in-Some-clause-gone : goal.returns-in_ok-found-in-Some-clause-gone
returns-in_ok-found-in-Some-clause-gone g c =
    let m = c.args.machine.now in
    let n = c.next_turn.new.machine in
    let knows = g.M.Machine.Knows in
    let steps = g.M.Machine.Steps in
    let grows = c.in_ok-next_turn.ensures.grows in
    let found = found_by c.args.sweep.now in
    let traced = traced_grown (knows m) (knows n) (steps m) (steps n) (λ s k. g.met.M.Machine.still_known m n s grows k)
    (λ s h next k l e. g.met.M.Machine.still_true m n s h next grows k l e) found c.requires.traced in
    let keys = c.args.sweep.now.states.keys in
    let state = c.index-as_slice-place.result in
    let at = read_at keys c.as_slice.result.now c.args.place state c.as_slice.ensures.keys c.requires.inside
    c.index-as_slice-place.is in
    let harts = c.requires.harts ∙ g.met.M.Machine.same_harts m n grows in
    let turn = subst (IsNextTurn (knows n) (steps n) state 0 (g.M.Machine.harts n)) c.in-Some.is
    c.in_ok-next_turn.ensures.turn in
    let origin : Origin g.row.M-Way.Denot =
    record { parent = c.args.place; hart = c.in-Some.turn.hart; way = c.in-Some.turn.step.way } in
    let eq = g.M.State.PartialEq.eq in
    let noted = c.in_ok-found-in-Some.ensures.noted in (
      stands_inside eq found c.in-Some.turn.step.state origin (found_by c.note.new.self) c.in_ok-found-in-Some.found
          noted,
      omega (
        arith,
        harts_stay eq found c.in-Some.turn.step.state origin (found_by c.note.new.self) c.in_ok-found-in-Some.found
            noted,
        turn.0,
        harts,
      ),
    )
