use Rattle.program_ways.proofs.Bytes.{first_below}
use Rattle.program_ways.proofs.program.Program.first_number.Goals as goal

pub returns-then-word-lt-RAM_START : goal.returns-then-word-lt-RAM_START
returns-then-word-lt-RAM_START c =
    first_below c.args.self.now c.requires c.args.word c.if-word-lt-RAM_START.true
