use Rattle.std.proofs.Common.{rules}
use Rattle.load_store.proofs.queues.LoadStore.second_look.Goals as goal

pub returns : goal.returns
returns c = search rules
