use Rattle.std.proofs.Common.{All, Contains, take}
use Rattle.litmus_runs.proofs.known.has_nothing_new.Given as goal

abbrev pub invariant-loop-held : goal.invariant-loop-held
invariant-loop-held l = All (Contains l.known) (take l.held-index l.written)
