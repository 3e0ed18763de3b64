use Rattle.std.proofs.Common.{◌≡◌, ◌++◌, map, take, drop}
use Rattle.load_store.specs.Queues.{resolved}
use Rattle.load_store.proofs.hart_queues.resolve.Given as goal

abbrev pub invariant-loop-store : goal.invariant-loop-store
invariant-loop-store l =
    l.stores ≡ map (resolved l.seq l.write) (take l.store-index l.initial.stores) ++ drop l.store-index l.initial.stores
