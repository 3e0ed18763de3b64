use Rattle.std.proofs.Common.{length, take, All}
use Rattle.litmus_tests.specs.WellFormed.{IsValue}
use Rattle.litmus_reading.proofs.sound.are_initials.Given as goal

abbrev pub invariant-loop-word : goal.invariant-loop-word
invariant-loop-word l = All (IsValue (length l.words)) (take l.word-index l.words)
