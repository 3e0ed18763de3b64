use Rattle.std.proofs.Common.{arith, rules}
use Rattle.std.proofs.lemmas.Grind.{common_steps}
use Rattle.reasons.proofs.looks.fetchable.Goals as goal

pub loop-hart-preserved : goal.loop-hart-preserved
loop-hart-preserved c = first_of (search rules, grind (arith, common_steps))
