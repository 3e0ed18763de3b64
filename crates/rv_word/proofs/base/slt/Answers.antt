use Rattle.std.proofs.Common.{rules}
use Rattle.rv_word.specs.Word.{signed_less_of}
use Rattle.rv_word.proofs.base.slt.Goals as goal

pub returns : goal.returns
unfolding signed_less_of
returns c = search rules
