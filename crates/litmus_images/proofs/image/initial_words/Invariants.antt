use Rattle.std.proofs.Common.{◌≡◌, take}
use Rattle.litmus_images.specs.Image.{initial_words}
use Rattle.litmus_images.proofs.image.initial_words.Given as goal

abbrev pub invariant-loop-value : goal.invariant-loop-value
invariant-loop-value l = l.words.items ≡ initial_words (take l.value-index l.values)
