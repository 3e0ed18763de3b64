use Rattle.std.proofs.Common.{arith, rules}
use Rattle.std.proofs.lemmas.Grind.{common_steps}
use Rattle.load_store.specs.Looks.{seen}
use Rattle.load_store.proofs.look.seen_byte.Goals as goal

pub loop-store-preserved : goal.loop-store-preserved
unfolding seen
loop-store-preserved c = first_of (search rules, grind (arith, common_steps))

pub returns : goal.returns
unfolding seen
returns c = first_of (search rules, grind (arith, common_steps))
