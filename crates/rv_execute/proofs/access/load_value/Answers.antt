use Rattle.std.proofs.Common.{rules}
use Rattle.rv_execute.proofs.access.load_value.Goals as goal

pub returns-in-Lb : goal.returns-in-Lb
returns-in-Lb c = search rules

pub returns-in-Lh : goal.returns-in-Lh
returns-in-Lh c = search rules

pub returns-in-Lw : goal.returns-in-Lw
returns-in-Lw c = search rules
