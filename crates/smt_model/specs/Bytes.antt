-- Memory is a byte for each address; numbers are little-endian. [RISC-V Unprivileged ISA, "RV32I"]
use Rattle.std.specs.Prelude.{ℕ, zero, suc, ◌+◌, ◌-◌, ◌*◌, ◌/◌, ◌%◌, ◌^◌, ◌&&◌, nat_le, nat_lt}
use Rattle.std.specs.Prelude.{if◌then◌else◌, Option, Some, None}
use Rattle.rv_word.specs.Word.{sign_extended}
use Rattle.rv_instr.specs.{declared.instr.LoadOp.LoadOp, declared.instr.LoadOp.TheVariants.Lb}
use Rattle.rv_instr.specs.{declared.instr.LoadOp.TheVariants.Lh}
use Rattle.smt_model.specs.Words.{Op, Known, Instr, Load, Written}
use Rattle.smt_model.specs.Kinds.{access_size}

-- The number that the n bytes from an address are.
abbrev pub number_at : (ℕ → ℕ) → ℕ → ℕ → ℕ
number_at bytes addr zero = 0
number_at bytes addr (suc n) = bytes addr + 2 ^ 8 * number_at bytes (addr + 1) n

abbrev pub write_of : ℕ → ℕ → ℕ → Written
write_of addr n datum = record { addr = addr; n = n; datum = datum }

-- The byte at an address after a write, where `before` was there.
abbrev pub written_byte : Written → ℕ → ℕ → ℕ
written_byte w addr before =
    if nat_le w.addr addr && nat_lt addr (w.addr + w.n)
    then w.datum / 2 ^ (8 * (addr - w.addr)) % 2 ^ 8
    else before

abbrev pub byte_after : Option Written → ℕ → ℕ → ℕ
byte_after None addr before = before
byte_after (Some w) addr before = written_byte w addr before

-- LB and LH extend the sign of what they read, the others don't.
abbrev pub load_value : LoadOp → ℕ → ℕ
load_value Lb n = sign_extended n 8
load_value Lh n = sign_extended n 16
load_value _ n = n

abbrev pub read_value_of : Instr → ℕ → ℕ
read_value_of (Load op _ _ _) n = load_value op n
read_value_of _ n = n

-- What an instruction makes of the number that it has read.
unfoldable pub read_value : Op → ℕ → ℕ
read_value (Known i) n = read_value_of i n
read_value _ n = n

-- The number that an instruction's access at this address gives.
abbrev pub read : Op → (ℕ → ℕ) → ℕ → ℕ
read op bytes addr = read_value op (number_at bytes addr (access_size op))
