-- What has which number in a table.
use Rattle.std.specs.Prelude.{◌≡◌, ℕ, Bool, List, Some, slice_get}
use Rattle.elf_image.specs.Image.{ProgramImage}
use Rattle.changed_memory.specs.Shared.{Shared}
use Rattle.condensed_machine.specs.Executing.{SharedAfter}
use Rattle.condensed_machine.specs.declared.executed.Executed.{Executed}

-- The number is that of x.
abbrev pub HasNumber : {A : Type 0} → List A → A → ℕ → Type 0
HasNumber table x number = slice_get table number ≡ Some x

-- The number is that of the shared parts behind an instruction of hart h.
pub record IsSharedAfter (image : ProgramImage) (h : ℕ) (e : Executed) (kept : Bool) (old : Shared)
    (table : List Shared) (number : ℕ) : Type 0 where
  pub after : Shared
  pub has : HasNumber table after number
  pub is : SharedAfter image h e kept old after
