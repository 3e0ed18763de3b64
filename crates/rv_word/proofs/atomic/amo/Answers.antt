use Rattle.std.proofs.Common.{rules}
use Rattle.rv_word.specs.Word.{atomic_result_of}
use Rattle.rv_word.proofs.atomic.amo.Goals as goal

pub returns-else-cast_signed : goal.returns-else-cast_signed
unfolding atomic_result_of
returns-else-cast_signed c = search rules

pub returns-in-Add : goal.returns-in-Add
unfolding atomic_result_of
returns-in-Add c = search rules

pub returns-in-And : goal.returns-in-And
unfolding atomic_result_of
returns-in-And c = search rules

pub returns-in-Maxu : goal.returns-in-Maxu
unfolding atomic_result_of
returns-in-Maxu c = search rules

pub returns-in-Minu : goal.returns-in-Minu
unfolding atomic_result_of
returns-in-Minu c = search rules

pub returns-in-Or : goal.returns-in-Or
unfolding atomic_result_of
returns-in-Or c = search rules

pub returns-in-Swap : goal.returns-in-Swap
unfolding atomic_result_of
returns-in-Swap c = search rules

pub returns-in-Xor : goal.returns-in-Xor
unfolding atomic_result_of
returns-in-Xor c = search rules

pub returns-then-cast_signed : goal.returns-then-cast_signed
unfolding atomic_result_of
returns-then-cast_signed c = search rules
