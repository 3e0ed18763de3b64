-- What harts share, told as what has changed since the start of the image.
use Rattle.std.specs.Prelude.{ℕ, ◌==◌, if◌then◌else◌, List, [], ◌∷◌, Option, None, slice_index_or}
use Rattle.elf_image.specs.Image.{ProgramImage, byte_in}
use Rattle.changed_memory.specs.declared.change.Change.{Change}

-- The changes of bytes, of which the first of an address counts; by hart the address of the word
-- that it has reserved; the bytes put out. The changes are kept in one form (`specs/Canonical`).
pub record Shared : Type 0 where
  pub changes : List Change
  pub reserved : List (Option ℕ)
  pub output : List ℕ

-- The byte that a list of changes leaves at an address where `before` was.
abbrev pub changed : List Change → ℕ → ℕ → ℕ
changed [] addr before = before
changed (c ∷ changes) addr before =
    if c.addr == addr then c.byte else changed changes addr before

abbrev pub byte_at : ProgramImage → Shared → ℕ → ℕ
byte_at image shared addr = changed shared.changes addr (byte_in image addr)

abbrev pub reserved_at : Shared → ℕ → Option ℕ
reserved_at shared h = slice_index_or shared.reserved h None
