use Rattle.std.proofs.Common.{rules}
use Rattle.rv_text.proofs.mnemonic.load_name.Goals as goal

pub returns-in-Lw-clause-name : goal.returns-in-Lw-clause-name
returns-in-Lw-clause-name c = search rules
