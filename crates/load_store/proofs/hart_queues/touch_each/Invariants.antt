use Rattle.std.proofs.Common.{◌≡◌, ◌++◌, map, take, drop}
use Rattle.load_store.specs.Queues.{touched_load}
use Rattle.load_store.proofs.hart_queues.touch_each.Given as goal

abbrev pub invariant-loop-load : goal.invariant-loop-load
invariant-loop-load l =
    l.loads ≡ map (touched_load l.write) (take l.load-index l.initial.loads) ++ drop l.load-index l.initial.loads
