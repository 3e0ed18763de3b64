use Rattle.std.proofs.Common.{◌≡◌, drop}
use Rattle.load_store.specs.Queues.{needs_look}
use Rattle.load_store.proofs.hart_queues.is_touched.Given as goal

-- the answer is that of the loads that are left
abbrev pub invariant-loop-load : goal.invariant-loop-load
invariant-loop-load l = needs_look l.seq l.loads ≡ needs_look l.seq (drop l.load-index l.loads)
