-- The image that a file is loaded as. [ELF32, "Program Loading"]
use Rattle.std.specs.Prelude.{◌≡◌, ℕ, ◌+◌, ◌-◌, ◌%◌, ◌<◌, ◌≤◌, ◌⊎◌, List, ◌++◌, take, drop, map}
use Rattle.std.specs.Prelude.{replicate, slice_index, All, IsPermutation}
use Rattle.std.specs.List.Sorted.{IsNonDecreasingBy}
use Rattle.elf_image.specs.{declared.program_header.ProgramHeader.ProgramHeader}
use Rattle.elf_image.specs.Image.{ProgramSegment, ProgramImage, byte_in}
use Rattle.elf_image.specs.{Layout.entry_of, Layout.loadable}

-- The segment of a header: its bytes in the file, zeros up to its size in memory, and the flags'
-- low three bits.
abbrev pub segment_of : List ℕ → ProgramHeader → ProgramSegment
segment_of file h = record {
  address = h.address;
  bytes = take h.file_size (drop h.offset file) ++ replicate (h.memory_size - h.file_size) 0;
  flags = h.flags % 8;
}

-- The image of headers in this order, in a RAM of so many bytes.
abbrev pub image_from : List ℕ → ℕ → List ProgramHeader → ProgramImage
image_from file ram order =
    record { ram = ram; entry = entry_of file; segments = map (segment_of file) order }

-- The address is none of those that the segment has bytes for in the file.
abbrev pub IsOutside : ℕ → ProgramHeader → Type 0
IsOutside addr h = (addr < h.address) ⊎ (h.address + h.file_size ≤ addr)

-- The image is the file's: its segments are those of the loadable headers, by rising address.
pub record IsImageOf (file : List ℕ) (ram : ℕ) (image : ProgramImage) : Type 0 where
  pub order : List ProgramHeader
  pub all : IsPermutation (loadable file) order
  pub rising : IsNonDecreasingBy (λ h. h.address) order
  pub same : image ≡ image_from file ram order
  -- so memory begins with the file's bytes where the headers put them, and with zeros elsewhere
  pub from_file : All (λ h. (i : ℕ) → i < h.file_size
      → byte_in image (h.address + i) ≡ slice_index file (h.offset + i)) (loadable file)
  pub elsewhere : (addr : ℕ) → All (IsOutside addr) (loadable file) → byte_in image addr ≡ 0
