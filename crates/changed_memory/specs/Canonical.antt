-- The one form in which the changes of a memory are kept, so that equal memories have equal lists of changes.
use Rattle.std.specs.Prelude.{◌≡◌, ◌≢◌, ℕ, ◌+◌, ◌≤◌, List, [], ◌∷◌, length}
use Rattle.numbers.specs.Sizes.{most_harts}
use Rattle.elf_image.specs.Image.{ProgramImage, byte_in}
use Rattle.changed_memory.specs.declared.change.Change.{Change}
use Rattle.changed_memory.specs.Shared.{Shared, byte_at}

-- The changes rise by address, from `least` on, so that each address has one at most; and none is the byte that was
-- first there.
abbrev pub RiseFrom : (ℕ → ℕ) → ℕ → List Change → Type 0
RiseFrom first least [] = Unit {0}
RiseFrom first least (c ∷ changes) =
    (least ≤ c.addr) × (c.byte ≢ first c.addr) × RiseFrom first (c.addr + 1) changes

-- The changes of a memory that first had these bytes are as few as tell what it has now, by rising address.
pub record AreCanonical (first : ℕ → ℕ) (changes : List Change) : Type 0 where
  pub rise : RiseFrom first 0 changes

-- So are those of what the harts of an image share, and there is room for a reservation of each hart that may be.
pub record IsCanonical (image : ProgramImage) (shared : Shared) : Type 0 where
  pub changes : AreCanonical (byte_in image) shared.changes
  pub room : length shared.reserved ≡ most_harts

-- Each memory of an image has one such list: where two tell the same bytes, they are equal.
abbrev pub EqualMemoriesAreOneList : Type 0
EqualMemoriesAreOneList = (image : ProgramImage) (s t : Shared) → IsCanonical image s → IsCanonical image t
    → ((a : ℕ) → byte_at image s a ≡ byte_at image t a) → s.changes ≡ t.changes
