use Rattle.std.proofs.Common.{rules}
use Rattle.rv_word.specs.Word.{difference_of}
use Rattle.rv_word.proofs.base.sub.Goals as goal

pub returns : goal.returns
unfolding difference_of
returns c = search rules
