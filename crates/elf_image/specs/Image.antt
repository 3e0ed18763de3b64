-- What a program image means: the memory, the code and the entry that every hart starts from.
use Rattle.std.specs.Prelude.{◌≡◌, ℕ, ◌+◌, ◌-◌, ◌*◌, ◌/◌, ◌%◌, ◌^◌, ◌<◌, ◌≤◌, Bool, false, ◌==◌}
use Rattle.std.specs.Prelude.{nat_lt, nat_le, ◌&&◌, IsTrue, if◌then◌else◌, min, max, List, length}
use Rattle.std.specs.Prelude.{slice_index, find, All, AllPairs, count_by, Option, Some, None}
use Rattle.std.specs.Option.{option_map_or}

-- A loadable segment: where it starts, its bytes in memory (the part from the file, then zeros up
-- to the memory size), and the permission flags of its program header, X 1, W 2 and R 4. [ELF32,
-- program header]
pub record ProgramSegment : Type 0 where
  pub address : ℕ
  pub bytes : List ℕ
  pub flags : ℕ

-- An image: the size of RAM in bytes, the address of the first instruction, and the segments by
-- rising address.
pub record ProgramImage : Type 0 where
  pub ram : ℕ
  pub entry : ℕ
  pub segments : List ProgramSegment

-- The first address of RAM. [this project's own choice]
abbrev pub ram_start : ℕ
ram_start = 0x80000000

-- A size that RAM may have, in bytes. [this project's own choice]
abbrev pub IsRamSize : ℕ → Type 0
IsRamSize ram = (ram % 4096 ≡ 0) × (4096 ≤ ram) × (ram ≤ 16777216)

-- The n bytes from the address lie in RAM.
abbrev pub in_ram : ProgramImage → ℕ → ℕ → Bool
in_ram image addr n = nat_le ram_start addr && nat_le (addr + n) (ram_start + image.ram)

-- The address is one of the segment's.
abbrev pub covers : ProgramSegment → ℕ → Bool
covers segment addr =
    nat_le segment.address addr && nat_lt addr (segment.address + length segment.bytes)

-- The byte of a segment at an address that it covers.
abbrev pub segment_byte : ProgramSegment → ℕ → ℕ
segment_byte segment addr = slice_index segment.bytes (addr - segment.address)

-- The byte at an address: that of the segment which covers it, and 0 where none does.
abbrev pub byte_among : List ProgramSegment → ℕ → ℕ
byte_among segments addr = option_map_or (λ segment. segment_byte segment addr)
    (find (λ segment. covers segment addr) segments) 0

-- The byte that memory holds at the start.
unfoldable pub byte_in : ProgramImage → ℕ → ℕ
byte_in image addr = byte_among image.segments addr

-- The segment may be executed: flag X is the lowest bit. [ELF32, segment flags]
abbrev pub is_code_segment : ProgramSegment → Bool
is_code_segment segment = segment.flags % 2 == 1

-- The segment may be written: flag W is the next bit. [ELF32, segment flags]
abbrev pub is_writable_segment : ProgramSegment → Bool
is_writable_segment segment = segment.flags / 2 % 2 == 1

-- The one segment that may be executed.
unfoldable pub code_segment : ProgramImage → Option ProgramSegment
code_segment image = find is_code_segment image.segments

-- Where the code starts, and how many bytes it has.
unfoldable pub code_start : ProgramImage → ℕ
code_start image = option_map_or (λ segment. segment.address) (code_segment image) 0

unfoldable pub code_size : ProgramImage → ℕ
code_size image = option_map_or (λ segment. length segment.bytes) (code_segment image) 0

-- The byte at the address is part of the code.
abbrev pub in_code : ProgramImage → ℕ → Bool
in_code image addr =
    nat_le (code_start image) addr && nat_lt addr (code_start image + code_size image)

-- Some of the n bytes from the address is part of the code.
abbrev pub touches_code : ProgramImage → ℕ → ℕ → Bool
touches_code image addr n =
    nat_lt (max addr (code_start image)) (min (addr + n) (code_start image + code_size image))

-- The code may be written: the segment that may be executed has flag W.
unfoldable pub code_writable : ProgramImage → Bool
code_writable image = option_map_or is_writable_segment (code_segment image) false

-- The four bytes from the address as a number, the lowest first, where memory holds these bytes.
-- [RISC-V Unprivileged ISA, little-endian memory]
unfoldable pub word_of : (ℕ → ℕ) → ℕ → ℕ
word_of bytes addr =
    bytes addr + 2 ^ 8 * bytes (addr + 1) + 2 ^ 16 * bytes (addr + 2) + 2 ^ 24 * bytes (addr + 3)

-- That number at the start.
abbrev pub word_in : ProgramImage → ℕ → ℕ
word_in image addr = word_of (byte_in image) addr

-- There is an instruction word at the pc: it is a multiple of 4 and all four bytes are part of the
-- code.
abbrev pub has_code_word : ProgramImage → ℕ → Bool
has_code_word image pc = pc % 4 == 0 && nat_le (code_start image) pc
    && nat_le (pc + 4) (code_start image + code_size image)

-- The instruction word at the pc, where there is one and memory holds these bytes.
unfoldable pub word_now : ProgramImage → (ℕ → ℕ) → ℕ → Option ℕ
word_now image bytes pc = if has_code_word image pc then Some (word_of bytes pc) else None

-- The one that the image has there.
abbrev pub code_word : ProgramImage → ℕ → Option ℕ
code_word image pc = word_now image (byte_in image) pc

-- What is so of every image that was loaded.
pub record IsWellFormed (image : ProgramImage) : Type 0 where
  pub ram : IsRamSize image.ram
  -- there are 1 to 8 segments, none of them empty, and all lie in RAM
  pub count : (0 < length image.segments) × (length image.segments ≤ 8)
  pub filled : All (λ s. 0 < length s.bytes) image.segments
  pub within : All
      (λ s. (ram_start ≤ s.address) × (s.address + length s.bytes ≤ ram_start + image.ram))
      image.segments
  -- each ends where the next begins or before it
  pub rising : AllPairs (λ s t. s.address + length s.bytes ≤ t.address) image.segments
  pub flags : All (λ s. s.flags < 8) image.segments
  -- one segment may be executed
  pub one_code : count_by is_code_segment image.segments ≡ 1
  pub code_within : (ram_start ≤ code_start image)
      × (code_start image + code_size image ≤ ram_start + image.ram)
  pub code_aligned : (code_start image % 4 ≡ 0) × (code_size image % 4 ≡ 0)
  pub entry_aligned : image.entry % 4 ≡ 0
  pub entry_in_code : IsTrue (in_code image image.entry)
