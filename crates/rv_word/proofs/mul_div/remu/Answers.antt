use Rattle.std.proofs.Common.{rules}
use Rattle.rv_word.specs.Word.{remainder_of}
use Rattle.rv_word.proofs.mul_div.remu.Goals as goal

pub returns-else-b-eq0 : goal.returns-else-b-eq0
unfolding remainder_of
returns-else-b-eq0 c = search rules

pub returns-then-b-eq0 : goal.returns-then-b-eq0
unfolding remainder_of
returns-then-b-eq0 c = search rules
