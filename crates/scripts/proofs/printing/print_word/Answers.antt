use Rattle.std.proofs.Common.{rules}
use Rattle.scripts.proofs.printing.print_word.Goals as goal

pub returns-then-word-eq1 : goal.returns-then-word-eq1
returns-then-word-eq1 c = search rules
