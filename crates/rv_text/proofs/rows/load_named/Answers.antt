use Rattle.std.proofs.Common.{rules}
use Rattle.rv_text.proofs.rows.load_named.Goals as goal

pub returns-in_default-clause-none : goal.returns-in_default-clause-none
returns-in_default-clause-none c = search rules
