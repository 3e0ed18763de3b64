-- What is appended is no longer than the room for it.

use Rattle.std.proofs.Common.{ℕ, ◌+◌, ◌≤◌, arith}

pub shorter : (old new most room : ℕ) → new ≤ old + most → most ≤ room → new ≤ old + room
shorter old new most room is fits = omega (arith, is, fits)
