use Rattle.scripts.proofs.Unambiguous.{scripts_are_unambiguous}
use Rattle.scripts.proofs.laws.scripts_are_unambiguous.Goals as goal

pub returns : goal.returns
returns c = record { one = scripts_are_unambiguous }
