use Rattle.std.proofs.Common.{arith}
use Rattle.searches.proofs.Places.{keeps_long}
use Rattle.searches.proofs.diving.dive.Goals as goal

pub dive_from-requires-clause-inside : goal.dive_from-requires-clause-inside
dive_from-requires-clause-inside g c =
    let long = keeps_long c.args.sweep.now.states.keys c.loop-number.sweep.states.keys c.loop-number.invariant.kept in
    omega (arith, c.saturating_sub-start.ensures, c.len-found.ensures.len, long, c.requires.beyond)

pub returns-then-branch-clause-kept : goal.returns-then-branch-clause-kept
returns-then-branch-clause-kept g c place x at =
    c.in_ok-dive_from.ensures.kept place x (c.loop-number.invariant.kept place x at)

pub returns-clause-ended : goal.returns-clause-ended
returns-clause-ended g c =
    let long = keeps_long c.args.sweep.now.states.keys c.loop-number.sweep.states.keys c.loop-number.invariant.kept in
    omega (arith, long, c.requires.beyond)
