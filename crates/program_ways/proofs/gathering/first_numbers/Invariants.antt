use Rattle.std.proofs.Common.{◌≡◌, take, map}
use Rattle.elf_image.specs.Image.{word_in}
use Rattle.program_ways.proofs.gathering.first_numbers.Given as goal

abbrev pub invariant-loop-index : goal.invariant-loop-index
invariant-loop-index l = l.first.items ≡ map (word_in l.program.memory.image) (take l.index l.words)
