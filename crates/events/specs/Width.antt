-- How many bytes a write puts.

use Rattle.std.specs.Prelude.{◌≡◌, ℕ, ◌⊎◌}
use Rattle.events.specs.declared.effect.Written.{Written}

-- a byte, a halfword or a word
abbrev pub IsWidth : ℕ → Type 0
IsWidth n = (n ≡ 1) ⊎ (n ≡ 2) ⊎ (n ≡ 4)

abbrev pub HasWidth : Written → Type 0
HasWidth w = IsWidth w.n
