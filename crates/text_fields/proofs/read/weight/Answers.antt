use Rattle.text_fields.proofs.DigitTable.{digit_at}
use Rattle.std.proofs.Common.{arith}
use Rattle.text_fields.proofs.read.weight.Goals as goal

pub returns : goal.returns
returns c = digit_at c.args.byte (omega arith)
