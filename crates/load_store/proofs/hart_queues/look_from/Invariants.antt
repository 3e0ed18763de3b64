use Rattle.std.proofs.Common.{◌≡◌, ◌++◌, map, take, drop}
use Rattle.load_store.specs.Queues.{looking}
use Rattle.load_store.proofs.hart_queues.look_from.Given as goal

abbrev pub invariant-loop-load : goal.invariant-loop-load
invariant-loop-load l =
    l.loads ≡ map (looking l.seq l.look) (take l.load-index l.initial.loads) ++ drop l.load-index l.initial.loads
