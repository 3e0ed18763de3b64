use Rattle.std.proofs.Common.{rules}
use Rattle.program_io.proofs.words.unread_words.Goals as goal

pub returns-in-OutOfMemory : goal.returns-in-OutOfMemory
returns-in-OutOfMemory c = search rules
