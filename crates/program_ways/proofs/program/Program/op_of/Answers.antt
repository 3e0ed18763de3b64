use Rattle.elf_image.specs.Image.{byte_in}
use Rattle.program_ways.proofs.program.Program.op_of.Goals as goal

pub returns-clause-in_range : goal.returns-clause-in_range
returns-clause-in_range c =
    let image = c.args.self.now.memory.image in c.op_at.ensures.in_range image (byte_in image) c.requires.code
