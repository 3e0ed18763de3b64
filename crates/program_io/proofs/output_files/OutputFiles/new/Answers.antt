use Rattle.std.proofs.Common.{refl}
use Rattle.program_io.proofs.output_files.OutputFiles.new.Goals as goal

pub returns-clause-works : goal.returns-clause-works
returns-clause-works g c = refl

pub returns-clause-finished : goal.returns-clause-finished
returns-clause-finished g c = refl
