use Rattle.std.proofs.Common.{rules}
use Rattle.elf_image.proofs.image.Image.code.Goals as goal

pub returns-clause-size : goal.returns-clause-size
returns-clause-size c = search rules
