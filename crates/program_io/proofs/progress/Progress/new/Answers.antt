use Rattle.std.proofs.Common.{rules}
use Rattle.program_io.proofs.progress.Progress.new.Goals as goal

pub returns : goal.returns
returns g c = search rules
