use Rattle.std.proofs.Common.{rules}
use Rattle.load_store.proofs.hart_queues.HartQueues.stores_full.Goals as goal

pub returns-clause-full : goal.returns-clause-full
returns-clause-full c = search rules
