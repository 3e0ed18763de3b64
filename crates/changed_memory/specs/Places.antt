-- Where the change of an address stands in a list of changes.
use Rattle.std.specs.Prelude.{◌≡◌, ℕ, ◌<◌, ◌≤◌, List, length, take, slice_get, slice_index_or}
use Rattle.std.specs.Prelude.{Some}
use Rattle.changed_memory.specs.declared.change.Change.{Change}
use Rattle.changed_memory.specs.Shared.{changed}

-- No change before the place is of the address.
abbrev pub IsClear : List Change → ℕ → ℕ → Type 0
IsClear changes addr place = (before : ℕ) → changed (take place changes) addr before ≡ before

-- The change at the place is the first of the address.
pub record IsAt (changes : List Change) (addr place : ℕ) : Type 0 where
  pub within : place < length changes
  pub same : (d : Change) → (slice_index_or changes place d).addr ≡ addr
  pub clear : IsClear changes addr place

-- Each change before the place is of a lower address.
abbrev pub AreLower : List Change → ℕ → ℕ → Type 0
AreLower changes addr place = (k : ℕ) (c : Change) → k < place → slice_get changes k ≡ Some c → c.addr < addr

-- A change of the address can be put in at the place, between those of lower and of higher addresses.
pub record IsPlace (changes : List Change) (addr place : ℕ) : Type 0 where
  pub within : place ≤ length changes
  pub clear : IsClear changes addr place
  pub lower : AreLower changes addr place
  pub higher : (c : Change) → slice_get changes place ≡ Some c → addr < c.addr
