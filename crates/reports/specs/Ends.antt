-- Which instruction a hart has stopped at: the last of its retired ones.
use Rattle.std.specs.Prelude.{ℕ, Bool, ◌==◌}
use Rattle.events.specs.{declared.effect.Record.Record}

abbrev pub is_last_of : ℕ → Record → Bool
is_last_of hart r = r.hart == hart
