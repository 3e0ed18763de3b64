use Rattle.std.proofs.{Common.arith, lemmas.Grind.common_steps}
use Rattle.elf_image.proofs.loader.read_segment.Goals as goal

pub returns : goal.returns
returns c = grind (arith, common_steps)
