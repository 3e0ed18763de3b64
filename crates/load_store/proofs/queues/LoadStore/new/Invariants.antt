use Rattle.std.proofs.Common.{◌≡◌, ℕ, length}
use Rattle.load_store.specs.Queues.{queues_of, empty}
use Rattle.load_store.proofs.queues.LoadStore.new.Given as goal

-- as many harts are there as were counted, and none has a load or a store
abbrev pub invariant-loop-hart : goal.invariant-loop-hart
invariant-loop-hart l = (length l.each.items ≡ l._hart) × ((h : ℕ) → queues_of l.each.items h ≡ empty)
