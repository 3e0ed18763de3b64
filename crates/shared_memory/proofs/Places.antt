-- The places of RAM's bytes in their list, and their addresses.
use Rattle.std.proofs.Common.{◌≡◌, ℕ, zero, suc, ◌+◌, ◌-◌, ◌<◌, ◌≤◌, Some, None, slice_index, refl, sym, ap, ◌∙◌, arith}
use Rattle.std.proofs.Common.{inl, inr}
use Rattle.std.proofs.lemmas.Bool.{cases_lt}
use Rattle.std.proofs.lemmas.Bool.Decides.{nat_tests}
use Rattle.elf_image.specs.Image.{ProgramImage, ram_start, word_of}
use Rattle.smt_model.specs.Bytes.{number_at, written_byte, byte_after, write_of}
use Rattle.smt_model.specs.Faults.{read_fault, write_fault}
use Rattle.shared_memory.specs.Contents.{Contents, byte_of}

pub byte_there : (m : Contents) (addr : ℕ) → ram_start ≤ addr → byte_of m addr ≡ slice_index m.bytes (addr - ram_start)
unfolding byte_of
byte_there m addr within = grind arith

pub byte_below : (m : Contents) (addr : ℕ) → addr < ram_start → byte_of m addr ≡ 0
unfolding byte_of
byte_below m addr below = grind arith

pub number_there : (m : Contents) (addr place n : ℕ) → ram_start + place ≡ addr
    → number_at (byte_of m) addr n ≡ number_at (slice_index m.bytes) place n
number_there m addr place zero at = refl
number_there m addr place (suc n) at =
    let later = number_there m (addr + 1) (place + 1) n (omega arith) in
    let here = byte_there m addr (omega arith) in
    let same : addr - ram_start ≡ place = omega arith in
    rw (here, same, later) refl

-- A word is the number of its four bytes.
pub word_there : (m : Contents) (addr place : ℕ) → ram_start + place ≡ addr
    → word_of (byte_of m) addr ≡ number_at (slice_index m.bytes) place 4
unfolding word_of
word_there m addr place at =
    let two : addr + 1 + 1 ≡ addr + 2 = omega arith in
    let three : addr + 1 + 1 + 1 ≡ addr + 3 = omega arith in
    let third = ap (byte_of m) two in
    let fourth = ap (byte_of m) three in
    rw (sym (number_there m addr place 4 at)) (omega (arith, third, fourth))

pub written_there : (addr place n datum a k before : ℕ) → ram_start + place ≡ addr → ram_start + k ≡ a
    → written_byte (write_of place n datum) k before ≡ written_byte (write_of addr n datum) a before
written_there addr place n datum a k before at there = grind arith

-- A write of no bytes changes nothing.
pub nothing_written : (place datum k before : ℕ) → before ≡ written_byte (write_of place 0 datum) k before
nothing_written place datum k before = grind (arith, nat_tests)

-- Where a read or a write has no fault, its first byte is in RAM.
pub read_within : (image : ProgramImage) (addr n : ℕ) → read_fault image addr n ≡ None → ram_start ≤ addr
read_within image addr n none = grind (arith, nat_tests)

pub read_inside : (image : ProgramImage) (addr n : ℕ) → read_fault image addr n ≡ None
    → addr + n ≤ ram_start + image.ram
read_inside image addr n none = grind (arith, nat_tests)

pub write_within : (image : ProgramImage) (addr n : ℕ) → write_fault image addr n ≡ None → ram_start ≤ addr
write_within image addr n none = grind (arith, nat_tests)

-- A write below RAM would change nothing there.
written_below : (addr n datum a : ℕ) → ram_start ≤ addr → a < ram_start → written_byte (write_of addr n datum) a 0 ≡ 0
written_below addr n datum a within below = grind (arith, nat_tests)

module _ (before after : Contents) (addr place n datum : ℕ) (at : ram_start + place ≡ addr)
    (written : (k : ℕ) → slice_index after.bytes k
    ≡ written_byte (write_of place n datum) k (slice_index before.bytes k)) where
  pub byte_written : (a : ℕ) → byte_of after a ≡ byte_after (Some (write_of addr n datum)) a (byte_of before a)
  byte_written a =
      let from : ram_start ≤ addr = omega (arith, at) in
      elim (cases_lt a ram_start) [
        | inl below ↦ rw (byte_below after a below, byte_below before a below)
            (sym (written_below addr n datum a from below))
        | inr within ↦ let there : ram_start + (a - ram_start) ≡ a = omega (arith, within) in
            byte_there after a within ∙ written (a - ram_start)
            ∙ written_there addr place n datum a (a - ram_start) _ at there
            ∙ ap (written_byte (write_of addr n datum) a) (sym (byte_there before a within))
      ]
