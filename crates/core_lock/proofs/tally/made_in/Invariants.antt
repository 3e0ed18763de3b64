use Rattle.std.specs.Prelude.{reverse, take}
use Rattle.core_lock.specs.Tallies.{AreMade}
use Rattle.core_lock.proofs.tally.made_in.Given as goal

-- what the events so far hold of each actor
abbrev pub invariant-loop-place : goal.invariant-loop-place
invariant-loop-place l = AreMade (reverse (take l.place l.history.items)) l.history.items l.made
