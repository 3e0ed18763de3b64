use Rattle.std.proofs.Common.{rules}
use Rattle.rv_word.specs.Word.{product_of}
use Rattle.rv_word.proofs.mul_div.mul.Goals as goal

pub returns : goal.returns
unfolding product_of
returns c = search rules
