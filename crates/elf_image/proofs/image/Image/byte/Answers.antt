use Rattle.std.proofs.Common.{rules}
use Rattle.elf_image.specs.{Image.byte_in}
use Rattle.elf_image.proofs.image.Image.byte.Goals as goal

pub returns-clause-in_ram : goal.returns-clause-in_ram
unfolding byte_in
returns-clause-in_ram c = search rules
