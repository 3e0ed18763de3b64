-- What a memory means: the image that it started from, a byte for each address of RAM, and one
-- reservation a hart.
use Rattle.std.specs.Prelude.{◌≡◌, ℕ, ◌-◌, nat_le, if◌then◌else◌, List, slice_index, slice_index_or}
use Rattle.std.specs.Prelude.{Option, Some, None}
use Rattle.elf_image.specs.Image.{ProgramImage, ram_start, byte_in}
use Rattle.events.specs.declared.effect.Written.{Written}
use Rattle.smt_model.specs.Faults.{read_fault, write_fault}
use Rattle.smt_model.specs.Bytes.{byte_after}
use Rattle.smt_model.specs.Reservations.{reservation_after_write}
use Rattle.rv_execute.specs.Access.{IsSize}
use Rattle.shared_memory.specs.declared.access.AccessKind.{AccessKind}
use Rattle.shared_memory.specs.declared.access.AccessKind.TheVariants.{Load, Store}

-- RAM's bytes by rising address, and by hart the address of the word that it has reserved.
pub record Contents : Type 0 where
  pub image : ProgramImage
  pub bytes : List ℕ
  pub reserved : List (Option ℕ)

-- The byte at an address; 0 outside RAM.
unfoldable pub byte_of : Contents → ℕ → ℕ
byte_of m addr = if nat_le ram_start addr then slice_index m.bytes (addr - ram_start) else 0

-- The address that hart h has reserved.
abbrev pub reserved_of : Contents → ℕ → Option ℕ
reserved_of m h = slice_index_or m.reserved h None

-- The cause for which an access faults, where it does.
abbrev pub access_fault : AccessKind → ProgramImage → ℕ → ℕ → Option ℕ
access_fault Load image addr n = read_fault image addr n
access_fault Store image addr n = write_fault image addr n

-- Memory as it is at the start of an image: its bytes, and no reservation.
pub record IsStart (image : ProgramImage) (m : Contents) : Type 0 where
  pub same : m.image ≡ image
  pub bytes : (addr : ℕ) → byte_of m addr ≡ byte_in image addr
  pub reserved : (h : ℕ) → reserved_of m h ≡ None

-- A write of a size that an access has, where a store has no fault.
pub record CanWrite (image : ProgramImage) (w : Written) : Type 0 where
  pub size : IsSize w.n
  pub no_fault : write_fault image w.addr w.n ≡ None

-- Memory after a write.
pub record IsWritten (w : Written) (before : Contents) (m : Contents) : Type 0 where
  pub same : m.image ≡ before.image
  pub bytes : (addr : ℕ) → byte_of m addr ≡ byte_after (Some w) addr (byte_of before addr)
  pub reserved : (h : ℕ) → reserved_of m h ≡ reservation_after_write (Some w) (reserved_of before h)
