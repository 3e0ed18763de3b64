use Rattle.std.proofs.Common.{rules}
use Rattle.load_store.proofs.hart_queues.HartQueues.remove_load.Goals as goal

pub returns : goal.returns
returns c = search rules
