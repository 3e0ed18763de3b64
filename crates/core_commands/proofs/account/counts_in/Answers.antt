use Rattle.std.proofs.Common.{subst, sym}
use Rattle.smt_model.specs.Rules.{is_legal}
use Rattle.core_commands.proofs.account.counts_in.Goals as goal

pub counts_of-requires : goal.counts_of-requires
counts_of-requires c = (
  c.args.core.now.setup,
  subst (is_legal c.args.core.now.setup) (sym c.history.ensures.events) c.history.ensures.legal,
)
