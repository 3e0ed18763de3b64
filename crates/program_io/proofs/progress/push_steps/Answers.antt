use Rattle.std.specs.Prelude.{codes}
use Rattle.std.specs.Fmt.{decimal}
use Rattle.program_io.proofs.Pieces.{four_pieces}
use Rattle.program_io.proofs.progress.push_steps.Goals as goal

pub returns-clause-spelled : goal.returns-clause-spelled
returns-clause-spelled c =
    four_pieces c.args.line.now.bytes c.push_decimal.new.text.bytes c.push_str.new.self.bytes
    c.push_decimal-2.new.text.bytes c.push_str-2.new.self.bytes (decimal c.args.steps) (codes " steps, ")
    (decimal c.args.going) (codes " harts going, ") c.push_decimal.ensures.spelled c.push_str.ensures.bytes
    c.push_decimal-2.ensures.spelled c.push_str-2.ensures.bytes
