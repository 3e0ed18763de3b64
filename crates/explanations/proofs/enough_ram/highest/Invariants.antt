use Rattle.std.proofs.Common.{take}
use Rattle.explanations.proofs.EnoughRam.{IsHighestSoFar}
use Rattle.explanations.proofs.enough_ram.highest.Given as goal

-- so many bytes are those of the segments so far
abbrev pub invariant-loop-header : goal.invariant-loop-header
invariant-loop-header l = IsHighestSoFar l.headers l.header-index l.bytes
