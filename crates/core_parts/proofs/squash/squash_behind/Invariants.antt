use Rattle.std.proofs.Common.{length}
use Rattle.core_parts.proofs.Squashing.Registers.{IsGiving}
use Rattle.core_parts.proofs.squash.squash_behind.Given as goal

abbrev pub invariant-loop-young : goal.invariant-loop-young
invariant-loop-young l = IsGiving l.after l.fn.active l.active l.fn.free l.free

abbrev pub decreases-loop-young : goal.decreases-loop-young
decreases-loop-young l = length l.active
