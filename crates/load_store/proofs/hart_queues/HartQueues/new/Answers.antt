use Rattle.std.proofs.Common.{rules}
use Rattle.load_store.proofs.hart_queues.HartQueues.new.Goals as goal

pub returns : goal.returns
returns c = search rules
