-- What is looked at in an end.
use Rattle.std.specs.Prelude.{◌≡◌, ℕ, Bool, true, false, ◌&&◌, nat_lt, Some, slice_get}
use Rattle.watched_outcomes.specs.declared.watch.Watch.{Watch}
use Rattle.watched_outcomes.specs.declared.watch.WatchedRegister.{WatchedRegister}
use Rattle.watched_outcomes.specs.declared.watch.Width.{Width}
use Rattle.watched_outcomes.specs.declared.watch.Width.TheVariants.{Byte, Half, Word}

-- How many bytes a number is of.
abbrev pub bytes_of : Width → ℕ
bytes_of Byte = 1
bytes_of Half = 2
bytes_of Word = 4

-- It is a register, x1 to x31, of one of so many harts.
abbrev pub is_register_there : ℕ → WatchedRegister → Bool
is_register_there harts w = nat_lt w.hart harts && (nat_lt 0 w.register && nat_lt w.register 32)

-- All registers that are watched are such.
abbrev pub AreThere : ℕ → Watch → Type 0
AreThere harts watch = (k : ℕ) (w : WatchedRegister) → slice_get watch.registers.items k ≡ Some w
    → is_register_there harts w ≡ true

-- The register that is watched at an index isn't one of so many harts.
abbrev pub IsAbsentRegister : ℕ → Watch → ℕ → Type 0
IsAbsentRegister harts watch index =
    (w : WatchedRegister) × (slice_get watch.registers.items index ≡ Some w) × (is_register_there harts w ≡ false)
