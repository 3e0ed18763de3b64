use Rattle.std.proofs.Common.{take}
use Rattle.litmus_images.specs.Image.{SpellEach}
use Rattle.litmus_images.proofs.image.words_of.Given as goal

abbrev pub invariant-loop-instruction : goal.invariant-loop-instruction
invariant-loop-instruction l = SpellEach l.words.items (take l.instruction-index l.code)
