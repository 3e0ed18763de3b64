use Rattle.std.proofs.Common.{arith}
use Rattle.live_registers.proofs.Good.{good}
use Rattle.live_registers.proofs.table.LiveTable.of_words.Goals as goal

pub returns-then-is_good-clause-good : goal.returns-then-is_good-clause-good
returns-then-is_good-clause-good c =
    λ image fixed is.
    good image c.args.code.now c.args.targets.now c.in_ok-table.table fixed is c.in_ok-table.ensures
    (c.is_good.ensures (grind arith))
