use Rattle.std.proofs.Common.{rules}
use Rattle.rv_word.specs.Word.{less_of}
use Rattle.rv_word.proofs.base.sltu.Goals as goal

pub returns : goal.returns
unfolding less_of
returns c = search rules
