use Rattle.std.proofs.Common.{rules}
use Rattle.elf_image.proofs.image.Image.ram.Goals as goal

pub returns-clause-value : goal.returns-clause-value
returns-clause-value c = search rules
