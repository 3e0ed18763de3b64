use Rattle.core_commands.proofs.OfAccount.{idle_is}
use Rattle.core_commands.proofs.account.idle_of.Goals as goal

pub returns : goal.returns
returns c = idle_is c.args.core.now c.config.result.now c.args.idle.now _ c.len-actors.ensures.value
    c.config.ensures.value
