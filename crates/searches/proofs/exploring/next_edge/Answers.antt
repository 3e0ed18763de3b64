use Rattle.std.proofs.Common.{subst, None}
use Rattle.std.specs.Prelude.{IfSome}
use Rattle.searches.specs.Sweeps.{found_by}
use Rattle.searches.proofs.Adding.{follows_old}
use Rattle.searches.proofs.Noting.{noted, keeps, one_more}
use Rattle.searches.proofs.Growing.{grown}
use Rattle.searches.proofs.exploring.next_edge.Goals as goal

pub returns-in-None-clause-swept : goal.returns-in-None-clause-swept
returns-in-None-clause-swept g c =
    let m = c.args.machine.now in
    let n = c.step.new.self in
    let knows = g.M.Machine.Knows in
    let steps = g.M.Machine.Steps in
    let grows = c.in_ok-step.ensures.grows in
    let swept = grown (knows m) (knows n) (steps m) (steps n) (λ s k. g.met.M.Machine.still_known m n s grows k)
    (λ s h next k l e. g.met.M.Machine.still_true m n s h next grows k l e) c.args.place c.args.hart
    (found_by c.args.sweep.now) c.requires.swept in
    follows_old (knows n) (steps n) c.args.place c.args.hart (found_by c.args.sweep.now) swept c.requires.present
    c.args.state c.requires.here None
    (subst (λ next. steps n c.args.state c.args.hart next) c.in-None.is c.in_ok-step.ensures.steps)

pub returns-in_ok-found-in-Some-clause-swept : goal.returns-in_ok-found-in-Some-clause-swept
returns-in_ok-found-in-Some-clause-swept g c =
    let m = c.args.machine.now in
    let n = c.step.new.self in
    let knows = g.M.Machine.Knows in
    let steps = g.M.Machine.Steps in
    let grows = c.in_ok-step.ensures.grows in
    let swept = grown (knows m) (knows n) (steps m) (steps n) (λ s k. g.met.M.Machine.still_known m n s grows k)
    (λ s h next k l e. g.met.M.Machine.still_true m n s h next grows k l e) c.args.place c.args.hart
    (found_by c.args.sweep.now) c.requires.swept in
    noted g.M.State.PartialEq.eq g.met.M.State.Eq.laws g.met.M.Machine.same (knows n) (steps n) c.args.place
    c.args.hart
    (found_by c.args.sweep.now) swept c.args.state c.requires.here c.in-Some.step.state c.in-Some.step.way
    (subst (λ next. steps n c.args.state c.args.hart next) c.in-Some.is c.in_ok-step.ensures.steps) c.requires.present
    (subst (λ next. IfSome next (λ step. knows n step.state)) c.in-Some.is c.in_ok-step.ensures.knows)
    (found_by c.note.new.self) c.in_ok-found-in-Some.found c.in_ok-found-in-Some.ensures.noted

pub returns-in_ok-found-in-Some-clause-kept : goal.returns-in_ok-found-in-Some-clause-kept
returns-in_ok-found-in-Some-clause-kept g c =
    keeps g.M.State.PartialEq.eq (found_by c.args.sweep.now) c.in-Some.step.state
    (record { parent = c.args.place; hart = c.args.hart; way = c.in-Some.step.way }) (found_by c.note.new.self)
    c.in_ok-found-in-Some.found
    c.in_ok-found-in-Some.ensures.noted

pub returns-in_ok-found-in-Some-clause-one : goal.returns-in_ok-found-in-Some-clause-one
returns-in_ok-found-in-Some-clause-one g c =
    one_more g.M.State.PartialEq.eq (found_by c.args.sweep.now) c.in-Some.step.state
    (record { parent = c.args.place; hart = c.args.hart; way = c.in-Some.step.way }) (found_by c.note.new.self)
    c.in_ok-found-in-Some.found
    c.in_ok-found-in-Some.ensures.noted
