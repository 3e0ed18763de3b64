use Rattle.std.proofs.Common.{rules}
use Rattle.load_store.proofs.queues.LoadStore.retire_store.Goals as goal

pub returns-clause-memory : goal.returns-clause-memory
returns-clause-memory c = search rules
