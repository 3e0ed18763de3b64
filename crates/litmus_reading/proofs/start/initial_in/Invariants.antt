use Rattle.std.proofs.Common.{◌≡◌, drop}
use Rattle.litmus_reading.specs.Starts.{initial_in}
use Rattle.litmus_reading.proofs.start.initial_in.Given as goal

-- none so far
abbrev pub invariant-loop-entry : goal.invariant-loop-entry
invariant-loop-entry l = initial_in l.entries l.location ≡ initial_in (drop l.entry-index l.entries) l.location
