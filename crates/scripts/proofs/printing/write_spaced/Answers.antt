use Rattle.std.proofs.Common.{rules}
use Rattle.scripts.proofs.printing.write_spaced.Goals as goal

pub returns-in_err-write_all : goal.returns-in_err-write_all
returns-in_err-write_all c = search rules
