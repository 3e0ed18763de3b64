use Rattle.std.proofs.Common.{rules}
use Rattle.rv_word.specs.Word.{sum_of}
use Rattle.rv_word.proofs.base.add.Goals as goal

pub returns : goal.returns
unfolding sum_of
returns c = search rules
