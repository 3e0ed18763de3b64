-- The numbers of the refusals.
use Rattle.std.specs.Prelude.{ℕ}
use Rattle.elf_image.specs.declared.refusal.LoadRefused.{LoadRefused}
use Rattle.elf_image.specs.declared.refusal.LoadRefused.TheVariants.{TooShort, NotElf, NotClass32}
use Rattle.elf_image.specs.declared.refusal.LoadRefused.TheVariants.{NotLittleEndian, WrongVersion}
use Rattle.elf_image.specs.declared.refusal.LoadRefused.TheVariants.{NotExecutable, NotRiscV}
use Rattle.elf_image.specs.declared.refusal.LoadRefused.TheVariants.{WrongHeaderSize}
use Rattle.elf_image.specs.declared.refusal.LoadRefused.TheVariants.{TableOutsideFile}
use Rattle.elf_image.specs.declared.refusal.LoadRefused.TheVariants.{WrongSegmentCount}
use Rattle.elf_image.specs.declared.refusal.LoadRefused.TheVariants.{SegmentOutsideFile}
use Rattle.elf_image.specs.declared.refusal.LoadRefused.TheVariants.{WrongMemorySize}
use Rattle.elf_image.specs.declared.refusal.LoadRefused.TheVariants.{SegmentOutsideRam}
use Rattle.elf_image.specs.declared.refusal.LoadRefused.TheVariants.{SegmentsOverlap}
use Rattle.elf_image.specs.declared.refusal.LoadRefused.TheVariants.{WrongCodeSegment}
use Rattle.elf_image.specs.declared.refusal.LoadRefused.TheVariants.{MisalignedCode, WrongEntry}
use Rattle.elf_image.specs.declared.refusal.LoadRefused.TheVariants.{OutOfMemory}

-- Each check has its place in the order, from 1 on; 18 is want of memory, which is answered after
-- all of them.
abbrev pub reason_number : LoadRefused → ℕ
reason_number TooShort = 1
reason_number NotElf = 2
reason_number NotClass32 = 3
reason_number NotLittleEndian = 4
reason_number WrongVersion = 5
reason_number NotExecutable = 6
reason_number NotRiscV = 7
reason_number WrongHeaderSize = 8
reason_number TableOutsideFile = 9
reason_number WrongSegmentCount = 10
reason_number SegmentOutsideFile = 11
reason_number WrongMemorySize = 12
reason_number SegmentOutsideRam = 13
reason_number SegmentsOverlap = 14
reason_number WrongCodeSegment = 15
reason_number MisalignedCode = 16
reason_number WrongEntry = 17
reason_number OutOfMemory = 18
