use Rattle.condensed_machine.proofs.LosersInTurn.{HaveFollowed}
use Rattle.condensed_machine.proofs.machine.CondensedMachine.follow_losers.Given as goal

-- The harts so far have followed.
abbrev pub invariant-loop-other : goal.invariant-loop-other
invariant-loop-other l = HaveFollowed l.fn.self l.self l.fn.state l.now l.turns l.other
