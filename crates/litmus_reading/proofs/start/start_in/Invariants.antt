use Rattle.std.proofs.Common.{◌≡◌, drop}
use Rattle.litmus_reading.specs.Starts.{start_in}
use Rattle.litmus_reading.proofs.start.start_in.Given as goal

-- none so far
abbrev pub invariant-loop-entry : goal.invariant-loop-entry
invariant-loop-entry l = start_in l.entries l.hart l.register
    ≡ start_in (drop l.entry-index l.entries) l.hart l.register
