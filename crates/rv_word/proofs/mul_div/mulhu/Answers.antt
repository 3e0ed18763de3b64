use Rattle.std.proofs.Common.{rules}
use Rattle.rv_word.specs.Word.{high_product_of}
use Rattle.rv_word.proofs.mul_div.mulhu.Goals as goal

pub returns : goal.returns
unfolding high_product_of
returns c = search rules
