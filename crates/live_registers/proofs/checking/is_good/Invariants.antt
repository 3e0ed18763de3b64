use Rattle.live_registers.specs.Table.{AreGoodBelow}
use Rattle.live_registers.proofs.checking.is_good.Given as goal

-- The rows looked at so far are good.
abbrev pub invariant-loop-index : goal.invariant-loop-index
invariant-loop-index l = AreGoodBelow l.index l.targets l.table l.code
