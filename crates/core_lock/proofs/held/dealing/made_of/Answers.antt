use Rattle.core_lock.proofs.Tallying.{made_so}
use Rattle.core_lock.proofs.held.dealing.made_of.Goals as goal

pub returns : goal.returns
returns c =
    made_so c.args.core.now.past c.history.result.now.items c.made_in.result c.history.ensures.events c.made_in.ensures
