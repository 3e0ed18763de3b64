use Rattle.std.proofs.Common.{◌/◌, arith}
use Rattle.text_fields.proofs.PairLemmas.{high_at, glyph_small}
use Rattle.text_fields.proofs.pairs.high_digit.Goals as goal

pub returns-clause-spelled : goal.returns-clause-spelled
returns-clause-spelled c = high_at c.args.byte (omega arith)

pub returns-clause-ascii : goal.returns-clause-ascii
returns-clause-ascii c = rw (high_at c.args.byte (omega arith)) (glyph_small (c.args.byte / 16) (omega arith))
