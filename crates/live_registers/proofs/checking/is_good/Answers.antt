use Rattle.std.proofs.Common.{arith}
use Rattle.live_registers.specs.Table.{IsGoodAt}
use Rattle.live_registers.proofs.Below.{one_more}
use Rattle.live_registers.proofs.checking.is_good.Goals as goal

pub loop-index-preserved : goal.loop-index-preserved
loop-index-preserved c =
    one_more (IsGoodAt c.args.targets.now c.args.table.now c.args.code.now) c.loop-index.index c.loop-index.invariant
    (c.is_good_at.ensures (grind arith))
