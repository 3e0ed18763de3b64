use Rattle.std.proofs.Common.{[], ◌≡◌, true, sym, ◌∙◌}
use Rattle.litmus_runs.proofs.Gathering.{next_rounds, all_by_rounds, closed_by, all_known}
use Rattle.litmus_runs.proofs.Closed.{needed_listed}
use Rattle.litmus_runs.specs.Rounds.{AreAllClosed}
use Rattle.litmus_runs.proofs.runs.gathered_runs.Goals as goal

pub rounds-init : goal.rounds-init
rounds-init c = record {
  known = c.in_ok-known.ensures.known;
  rounds = λ _. record { earlier = []; rounds = c.in_ok-known.ensures.initial };
}

pub rounds-preserved : goal.rounds-preserved
rounds-preserved c = record {
  known = c.into_known-known.ensures.known;
  rounds = λ whole. next_rounds c.args.test.now c.rounds.known c.in_ok-gathered.gathered.written.known
      c.into_known-known.result c.in_ok-gathered.gathered.harts.items c.in_ok-gathered.ensures.kept
      c.in_ok-gathered.ensures.told (sym c.into_known-known.ensures.whole ∙ whole) c.into_known-known.ensures.held
      c.rounds.invariant.rounds;
}

pub returns-then-has_nothing_new-clause-all : goal.returns-then-has_nothing_new-clause-all
returns-then-has_nothing_new-clause-all c = λ whole. rw c.into_runs.ensures.harts
    (all_by_rounds c.args.test.now c.rounds.known c.in_ok-gathered.gathered.written.known
    c.in_ok-gathered.gathered.harts.items c.in_ok-gathered.ensures.kept c.in_ok-gathered.ensures.told
    (sym c.into_runs.ensures.whole ∙ whole) c.rounds.invariant.rounds)

-- Nothing new was written.
closed : (c : goal.After-drop-known-then-has_nothing_new) → c.into_runs.result.is_whole ≡ true
    → AreAllClosed c.args.test.now c.into_runs.result.harts.items
closed c whole = rw c.into_runs.ensures.harts
    (closed_by c.args.test.now c.rounds.known c.in_ok-gathered.gathered.written.known
    c.in_ok-gathered.gathered.harts.items c.in_ok-gathered.ensures.kept c.in_ok-gathered.ensures.told
    (sym c.into_runs.ensures.whole ∙ whole)
    (all_known c.deref.result.now c.deref-in-rounds.result.now c.rounds.known.held.items
    c.in_ok-gathered.gathered.written.known.held.items c.deref.ensures.value c.deref-in-rounds.ensures.value
    (c.has_nothing_new.ensures c.if-has_nothing_new.true)) c.rounds.invariant.rounds)

pub returns-then-has_nothing_new-clause-closed : goal.returns-then-has_nothing_new-clause-closed
returns-then-has_nothing_new-clause-closed c = λ whole _. closed c whole

pub returns-then-has_nothing_new-clause-needed : goal.returns-then-has_nothing_new-clause-needed
returns-then-has_nothing_new-clause-needed c = λ whole _.
    needed_listed c.args.test.now c.into_runs.result.harts.items (closed c whole)

pub returns-then-is_over-clause-all : goal.returns-then-is_over-clause-all
returns-then-is_over-clause-all c = λ whole. rw c.into_runs-then-is_over.ensures.harts
    (all_by_rounds c.args.test.now c.rounds.known c.in_ok-gathered.gathered.written.known
    c.in_ok-gathered.gathered.harts.items c.in_ok-gathered.ensures.kept c.in_ok-gathered.ensures.told
    (sym c.into_runs-then-is_over.ensures.whole ∙ whole) c.rounds.invariant.rounds)
