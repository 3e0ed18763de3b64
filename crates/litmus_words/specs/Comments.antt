-- Comments `(* .. *)`, in which comments may stand.
use Rattle.std.specs.Prelude.{◌≡◌, ℕ, ◌+◌, ◌≤◌, List, slice_index}

-- At this byte a comment opens, or one closes.
abbrev pub Opens : List ℕ → ℕ → Type 0
Opens text at = (slice_index text at ≡ 40) × (slice_index text (at + 1) ≡ 42)

abbrev pub Closes : List ℕ → ℕ → Type 0
Closes text at = (slice_index text at ≡ 42) × (slice_index text (at + 1) ≡ 41)

-- From the one byte to the other stands the rest of what so many comments are open in, up to the end of the outermost.
pub data IsRestOf (text : List ℕ) : ℕ → ℕ → ℕ → Type 0 where
  closes_last : (at : ℕ) → Closes text at → IsRestOf text 1 at (at + 2)
  closes : (depth at to : ℕ) → 1 ≤ depth → Closes text at → IsRestOf text depth (at + 2) to
      → IsRestOf text (depth + 1) at to
  opens : (depth at to : ℕ) → Opens text at → IsRestOf text (depth + 1) (at + 2) to → IsRestOf text depth at to
  passes : (depth at to : ℕ) → (Opens text at → ⊥) → (Closes text at → ⊥) → IsRestOf text depth (at + 1) to
      → IsRestOf text depth at to
