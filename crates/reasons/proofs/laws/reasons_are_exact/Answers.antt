use Rattle.reasons.proofs.Exact.{are_exact}
use Rattle.reasons.proofs.laws.reasons_are_exact.Goals as goal

pub returns : goal.returns
returns c = record { exact = are_exact }
