use Rattle.std.proofs.Common.{rules}
use Rattle.scripts.proofs.printing.write_line.Goals as goal

pub returns-in_default : goal.returns-in_default
returns-in_default c = search rules

pub returns-in_err-write_all : goal.returns-in_err-write_all
returns-in_err-write_all c = search rules

pub returns-in_err-write_others : goal.returns-in_err-write_others
returns-in_err-write_others c = search rules
