use Rattle.scripts.proofs.Lines.{lines_are_scripts}
use Rattle.scripts.proofs.laws.lines_are_scripts.Goals as goal

pub returns : goal.returns
returns c = record { lines = lines_are_scripts }
