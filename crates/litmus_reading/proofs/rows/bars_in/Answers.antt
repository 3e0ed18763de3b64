use Rattle.litmus_reading.proofs.Cells.{bar_column, same_columns}
use Rattle.litmus_reading.proofs.rows.bars_in.Goals as goal

pub returns-then-is_mark-clause-parts : goal.returns-then-is_mark-clause-parts
returns-then-is_mark-clause-parts c = λ words. bar_column c.args.word words (c.is_mark.ensures.is c.if-is_mark.true)

pub returns-clause-parts : goal.returns-clause-parts
returns-clause-parts c = λ words. same_columns c.args.word words (c.is_mark.ensures.other c.if-is_mark.false)
