use Rattle.std.proofs.Common.{rules}
use Rattle.program_io.proofs.words.print.Goals as goal

pub returns : goal.returns
returns g c = search rules
