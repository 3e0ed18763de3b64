-- What is written byte by byte over memory that is told as its changes.
use Rattle.std.proofs.Common.{◌≡◌, ℕ, ◌+◌, ◌*◌, ◌/◌, ◌^◌, ◌%◌, ◌<◌, ◌==◌, if◌then◌else◌, None, arith}
use Rattle.std.proofs.lemmas.Bool.Decides.{nat_tests}
use Rattle.elf_image.specs.Image.{ProgramImage}
use Rattle.smt_model.specs.Bytes.{written_byte, write_of}
use Rattle.smt_model.specs.Faults.{read_fault, write_fault}

-- Where a write has no fault, each of its bytes can be read.
pub byte_read : (image : ProgramImage) (addr n k : ℕ) → write_fault image addr n ≡ None → k < n
    → read_fault image (addr + k) 1 ≡ None
byte_read image addr n k none inside = grind (arith, nat_tests)

-- One more byte of a number.
pub written_more : (addr k datum a before : ℕ)
    → (if addr + k == a then datum / 2 ^ (8 * k) % 2 ^ 8 else written_byte (write_of addr k datum) a before)
    ≡ written_byte (write_of addr (k + 1) datum) a before
written_more addr k datum a before = grind (arith, nat_tests)
