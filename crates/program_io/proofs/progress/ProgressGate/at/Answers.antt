use Rattle.std.proofs.Common.{refl}
use Rattle.program_io.proofs.progress.ProgressGate.at.Goals as goal

pub returns-then-eq : goal.returns-then-eq
returns-then-eq g c = refl

pub returns-else-is_some : goal.returns-else-is_some
returns-else-is_some g c = refl
