-- The text of an image that is refused. (This project's own choice.)
use Rattle.std.specs.Prelude.{◌≡◌, ℕ, ◌+◌, ◌-◌, ◌^◌, ◌≤◌, ◌&&◌}
use Rattle.std.specs.Prelude.{nat_le, nat_lt, if◌then◌else◌, false, List, [], ◌∷◌, ◌++◌}
use Rattle.std.specs.Prelude.{codes, length, take, slice_index, All, flat_map, Option, Some, None}
use Rattle.std.specs.Fmt.{decimal, digits, padded_integral, format_spec}
use Rattle.text_fields.specs.Each.{each_from}
use Rattle.elf_image.specs.{Image.ram_start, Image.IsRamSize, Checks.is_executable}
use Rattle.elf_image.specs.Layout.{half_at, word_at, entry_of, table_offset, table_count, loadable}
use Rattle.elf_image.specs.declared.program_header.ProgramHeader.{ProgramHeader}
use Rattle.elf_image.specs.declared.refusal.LoadRefused.{LoadRefused}
use Rattle.elf_image.specs.declared.refusal.LoadRefused.TheVariants as check
use Rattle.elf_image.specs.Refusal.{reason_number}
use Rattle.explanations.specs.ImageText.{ram_line, segment_line, segment_lines, entry_line}

-- What is said of a file that fails the check.
unfoldable pub check_words : LoadRefused → List ℕ
check_words check.TooShort = codes "the file is shorter than an ELF header"
check_words check.NotElf = codes "the file does not begin as an ELF file does"
check_words check.NotClass32 = codes "the file is not a 32-bit one"
check_words check.NotLittleEndian = codes "the file is not little-endian"
check_words check.WrongVersion = codes "the file's version is not 1"
check_words check.NotExecutable = codes "the file is not an executable one"
check_words check.NotRiscV = codes "the file is not for RISC-V"
check_words check.WrongHeaderSize = codes "a header has another size than ELF32 gives it"
check_words check.TableOutsideFile = codes "the table of program headers is past the end of the file"
check_words check.WrongSegmentCount = codes "the number of loadable segments is not 1 to 8"
check_words check.SegmentOutsideFile = codes "a segment's bytes are past the end of the file"
check_words check.WrongMemorySize = codes "a segment's memory size is 0 or below its file size"
check_words check.SegmentOutsideRam = codes "a segment is not wholly in RAM"
check_words check.SegmentsOverlap = codes "two segments overlap"
check_words check.WrongCodeSegment = codes "there is not exactly one executable segment"
check_words check.MisalignedCode = codes "the code's address or size is not a multiple of 4"
check_words check.WrongEntry = codes "the entry is not a multiple of 4 in the code"
check_words check.OutOfMemory = codes "out of memory"

-- What was expected, and what usually mends it; of segments outside RAM that is said with the size of RAM.
unfoldable pub mended : LoadRefused → List ℕ
mended check.TooShort = codes "usually: an empty file, or another one than the linked program\n"
mended check.NotElf = codes "expected: 7f 45 4c 46\n"
    ++ codes "usually: a source, or what objcopy made of it: take what the linker has written\n"
mended check.NotClass32 = codes "expected: 1, for 32 bits\n"
    ++ codes "usually: compiled for this machine, or for RV64: `-march=rv32ima -mabi=ilp32`\n"
mended check.NotLittleEndian = codes "expected: 1, for little-endian\n"
    ++ codes "usually: compiled for this machine: take a cross compiler for RISC-V\n"
mended check.WrongVersion = codes "expected: 1 and 1\nusually: the file is damaged: link the program again\n"
mended check.NotExecutable = codes "expected: 2, an executable\n"
    ++ codes "usually: 1 is an object file: link it; 3 is for any address: link without `-pie`\n"
mended check.NotRiscV = codes "expected: 243, RISC-V\n"
    ++ codes "usually: compiled for this machine: take a cross compiler for RISC-V\n"
mended check.WrongHeaderSize = codes "expected: 52 and 32\nusually: the file is damaged: link the program again\n"
mended check.TableOutsideFile = codes "expected: all of the table, 32 bytes a header, within the file\n"
    ++ codes "usually: the file was cut: link the program again\n"
mended check.WrongSegmentCount = codes "usually: an object file, which has none: link it; or a segment for "
    ++ codes "each section: link by `examples/start/program.ld`\n"
mended check.SegmentOutsideFile = codes "usually: the file was cut: link the program again\n"
mended check.WrongMemorySize = codes "expected: a byte in memory at least, and no fewer than in the file\n"
    ++ codes "usually: a segment of an empty section: leave it out of the linker script\n"
mended check.SegmentOutsideRam = []
mended check.SegmentsOverlap = codes "expected: no address in two of them\n"
    ++ codes "usually: two sections at one address in the linker script\n"
mended check.WrongCodeSegment = codes "expected: X on one of them alone\n"
    ++ codes "usually: code in two segments: put it into one by `examples/start/program.ld`\n"
mended check.MisalignedCode = codes "expected: an address and a size in memory that are multiples of 4\n"
    ++ codes "usually: no `. = ALIGN(4)` behind the code in the linker script\n"
mended check.WrongEntry = codes "expected: a multiple of 4 in the segment with X\n"
    ++ codes "usually: no `_start`, or no `ENTRY(_start)` in the linker script\n"
mended check.OutOfMemory = []

-- ---- What the file header has

unfoldable pub length_line : ℕ → List ℕ
length_line bytes = codes "the file has " ++ (decimal bytes ++ codes " bytes\n")

-- A byte as two hexadecimal digits, behind a space.
unfoldable pub byte_text : ℕ → List ℕ
byte_text byte = codes " " ++ padded_integral (format_spec 32 0 4 2 (2 ^ 64 - 1)) false [] (digits 16 false byte)

unfoldable pub first_bytes_lead : List ℕ
first_bytes_lead = codes "the first bytes are"

abbrev pub first_bytes_line : List ℕ → List ℕ
first_bytes_line bytes = first_bytes_lead ++ (flat_map byte_text bytes ++ 10 ∷ [])

unfoldable pub byte_line : ℕ → ℕ → List ℕ
byte_line place byte = codes "byte " ++ (decimal place ++ (codes " is " ++ (decimal byte ++ 10 ∷ [])))

unfoldable pub version_line : ℕ → ℕ → List ℕ
version_line byte version =
    codes "byte 6 is " ++ (decimal byte ++ (codes ", the version " ++ (decimal version ++ 10 ∷ [])))

unfoldable pub type_line : ℕ → List ℕ
type_line kind = codes "the type is " ++ (decimal kind ++ 10 ∷ [])

unfoldable pub machine_line : ℕ → List ℕ
machine_line machine = codes "the machine is " ++ (decimal machine ++ 10 ∷ [])

unfoldable pub header_sizes_line : ℕ → ℕ → List ℕ
header_sizes_line file_header program_header = codes "the file header has " ++ (decimal file_header
    ++ (codes " bytes, a program header " ++ (decimal program_header ++ 10 ∷ [])))

unfoldable pub table_line : ℕ → ℕ → ℕ → List ℕ
table_line offset count bytes = codes "the table is at " ++ (decimal offset ++ (codes ", of " ++ (decimal count
    ++ (codes " headers; the file has " ++ (decimal bytes ++ codes " bytes\n")))))

-- ---- The segments that fail the check

unfoldable pub count_line : ℕ → List ℕ
count_line count = codes "the file has " ++ (decimal count ++ 10 ∷ [])

unfoldable pub begins_line : ℕ → List ℕ
begins_line offset = codes "its bytes in the file begin at " ++ (decimal offset ++ 10 ∷ [])

unfoldable pub within_line : ℕ → List ℕ
within_line bytes = codes "expected: all of them within the file, of " ++ (decimal bytes ++ codes " bytes\n")

abbrev pub outside_file : ℕ → ℕ → ProgramHeader → List ℕ
outside_file bytes number header = if nat_le (header.offset + header.file_size) bytes then []
    else segment_line number header ++ begins_line header.offset

abbrev pub wrong_size : ℕ → ProgramHeader → List ℕ
wrong_size number header =
    if nat_lt 0 header.memory_size && nat_le header.file_size header.memory_size then [] else segment_line number header

abbrev pub outside_ram : ℕ → ℕ → ProgramHeader → List ℕ
outside_ram ram number header =
    if nat_le ram_start header.address && nat_le (header.address + header.memory_size) (ram_start + ram) then []
    else segment_line number header

abbrev pub code_line : ℕ → ProgramHeader → List ℕ
code_line number header = if is_executable header then segment_line number header else []

-- The least size of RAM in which all of them would be; or no size has them.
abbrev pub AreWithin : List ProgramHeader → ℕ → Type 0
AreWithin headers ram =
    All (λ h. (ram_start ≤ h.address) × (h.address + h.memory_size ≤ ram_start + ram)) headers

pub record IsLeastRam (headers : List ProgramHeader) (ram : ℕ) : Type 0 where
  pub size : IsRamSize ram
  pub within : AreWithin headers ram
  pub least : (other : ℕ) → IsRamSize other → AreWithin headers other → ram ≤ other

-- So many bytes from the start of RAM on are those of all segments, and no fewer.
pub record IsHighest (headers : List ProgramHeader) (bytes : ℕ) : Type 0 where
  pub some : 1 ≤ bytes
  pub bound : bytes ≤ 2 ^ 33
  pub within : AreWithin headers bytes
  pub least : (other : ℕ) → 1 ≤ other → AreWithin headers other → bytes ≤ other

abbrev pub HasNone : List ProgramHeader → Type 0
HasNone headers = (other : ℕ) → IsRamSize other → AreWithin headers other → ⊥

abbrev pub IsEnough : List ProgramHeader → Option ℕ → Type 0
IsEnough headers (Some ram) = IsLeastRam headers ram
IsEnough headers None = HasNone headers

-- What is said of that.
unfoldable pub ram_wanted : ℕ → List ℕ
ram_wanted ram = ram_line (codes "expected: within") ram

unfoldable pub would_do_line : ℕ → List ℕ
would_do_line ram = codes "usually: `ram` is too small: `ram = " ++ (decimal ram ++ codes "` would do\n")

unfoldable pub before_code_line : List ℕ
before_code_line = codes "usually: the headers of the file lie before the code: link with `-z "
    ++ codes "max-page-size=4` by `examples/start/program.ld`\n"

abbrev pub enough_line : Option ℕ → List ℕ
enough_line (Some ram) = would_do_line ram
enough_line None = before_code_line

-- ---- All of it

-- What the file has where the check looks, or the segments that fail it. These are its loadable headers, and so much
-- RAM would do.
abbrev pub found_text : List ℕ → List ProgramHeader → ℕ → Option ℕ → LoadRefused → List ℕ
found_text file headers ram enough check.TooShort = length_line (length file)
found_text file headers ram enough check.NotElf = first_bytes_line (take 4 file)
found_text file headers ram enough check.NotClass32 = byte_line 4 (slice_index file 4)
found_text file headers ram enough check.NotLittleEndian = byte_line 5 (slice_index file 5)
found_text file headers ram enough check.WrongVersion = version_line (slice_index file 6) (word_at file 20)
found_text file headers ram enough check.NotExecutable = type_line (half_at file 16)
found_text file headers ram enough check.NotRiscV = machine_line (half_at file 18)
found_text file headers ram enough check.WrongHeaderSize = header_sizes_line (half_at file 40) (half_at file 42)
found_text file headers ram enough check.TableOutsideFile =
    table_line (table_offset file) (table_count file) (length file)
found_text file headers ram enough check.WrongSegmentCount = count_line (length headers)
found_text file headers ram enough check.SegmentOutsideFile =
    each_from (outside_file (length file)) 0 headers ++ within_line (length file)
found_text file headers ram enough check.WrongMemorySize = each_from wrong_size 0 headers
found_text file headers ram enough check.SegmentOutsideRam =
    each_from (outside_ram ram) 0 headers ++ (ram_wanted ram ++ enough_line enough)
found_text file headers ram enough check.SegmentsOverlap = segment_lines headers
found_text file headers ram enough check.WrongCodeSegment = segment_lines headers
found_text file headers ram enough check.MisalignedCode = each_from code_line 0 headers
found_text file headers ram enough check.WrongEntry = entry_line (entry_of file) ++ each_from code_line 0 headers
found_text file headers ram enough check.OutOfMemory = []

abbrev pub fault_text : List ℕ → List ProgramHeader → ℕ → Option ℕ → LoadRefused → List ℕ
fault_text file headers ram enough check =
    check_words check ++ 10 ∷ (found_text file headers ram enough check ++ mended check)

-- What is told of RAM is so, where segments are outside it.
abbrev pub IsEnoughFor : LoadRefused → List ProgramHeader → Option ℕ → Type 0
IsEnoughFor check.SegmentOutsideRam headers enough = IsEnough headers enough
IsEnoughFor check headers enough = Unit {0}

-- The first line, with the number of the check.
abbrev pub refused_line : ℕ → List ℕ
refused_line number = codes "image refused " ++ (decimal number ++ codes "\n")

-- All that is said of a file that fails this check first.
pub record IsImageRefusedText (file : List ℕ) (ram : ℕ) (check : LoadRefused) (text : List ℕ) : Type 0 where
  pub enough : Option ℕ
  pub is_enough : IsEnoughFor check (loadable file) enough
  pub whole : text ≡ refused_line (reason_number check) ++ fault_text file (loadable file) ram enough check
