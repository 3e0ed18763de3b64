use Rattle.std.proofs.Common.{◌≡◌, ℕ, length}
use Rattle.std.specs.Prelude.{nat_lt, if◌then◌else◌}
use Rattle.load_store.specs.Queues.{queues_of, with_touch}
use Rattle.load_store.proofs.queues.LoadStore.touch.Given as goal

-- the harts below this one are touched, the others are as they were
abbrev pub invariant-loop-hart : goal.invariant-loop-hart
invariant-loop-hart l =
    (length l.self-inside.harts.items ≡ length l.initial.self-inside.harts.items)
    × ((h : ℕ) → queues_of l.self-inside.harts.items h
    ≡ (if nat_lt h l.hart then with_touch l.write (queues_of l.initial.self-inside.harts.items h)
    else queues_of l.initial.self-inside.harts.items h))
