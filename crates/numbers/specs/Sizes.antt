-- How many of each part a core may have.
use Rattle.std.specs.Prelude.{ℕ, ◌+◌, ◌*◌, ◌/◌, Bool, ◌&&◌, nat_le}

-- harts, and the physical registers beyond those that the harts begin with
abbrev pub most_harts : ℕ
most_harts = 16

abbrev pub most_extra : ℕ
most_extra = 528

-- the entries that the issue queue has room for
abbrev pub fewest_queued : ℕ
fewest_queued = 4

abbrev pub most_queued : ℕ
most_queued = 64

abbrev pub most_actors : ℕ
most_actors = 32

-- the registers that a hart begins with: x1 to x31, each with a physical register of its own
abbrev pub renamed_registers : ℕ
renamed_registers = 31

-- physical registers: those that all harts begin with and the extra ones, rounded up to whole words
-- of 64 flags
abbrev pub most_registers : ℕ
most_registers = (renamed_registers * most_harts + most_extra + 63) / 64 * 64

-- a hart's fetched instructions, and its decoded ones
abbrev pub latch_room : ℕ
latch_room = 8

-- a hart's instructions in flight; and of these the loads, and the stores
abbrev pub most_in_flight : ℕ
most_in_flight = 64

abbrev pub most_accesses : ℕ
most_accesses = 16

-- the events of a history
abbrev pub most_events : ℕ
most_events = 16777216

-- The sizes of a core: at least one hart, one extra register and one actor, and no more of each
-- than there may be.
abbrev pub are_core_sizes : ℕ → ℕ → ℕ → ℕ → Bool
are_core_sizes harts extra queue actors =
    (nat_le 1 harts && nat_le harts most_harts) && ((nat_le 1 extra && nat_le extra most_extra)
    && ((nat_le fewest_queued queue && nat_le queue most_queued)
    && (nat_le 1 actors && nat_le actors most_actors)))
