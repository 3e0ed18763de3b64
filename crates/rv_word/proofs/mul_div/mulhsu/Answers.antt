use Rattle.std.proofs.Common.{rules}
use Rattle.rv_word.specs.Word.{mixed_high_product_of}
use Rattle.rv_word.proofs.mul_div.mulhsu.Goals as goal

pub returns : goal.returns
unfolding mixed_high_product_of
returns c = search rules
