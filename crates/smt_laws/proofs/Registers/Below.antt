-- The registers that an instruction names are below 32.
use Rattle.std.specs.Prelude.{ℕ, ◌<◌, Option, Some, None, IfSome}
use Rattle.std.proofs.Common.{arith}
use Rattle.rv_instr.specs.{Decode.op_of_word, Registers.op_rd, Registers.op_rs1, Registers.op_rs2}
use Rattle.rv_instr.proofs.DecodedLemmas.{op_of_word_in_range, op_rd_below, op_rs1_below, op_rs2_below}
use Rattle.smt_model.specs.{Basics.or_zero, Kinds.destination, Kinds.first_source, Kinds.second_source}

or_zero-below : (o : Option ℕ) → IfSome o (λ r. r < 32) → or_zero o < 32
or_zero-below None under = omega arith
or_zero-below (Some r) under = under

pub destination-below : (word : Option ℕ) → destination (op_of_word word) < 32
unfolding destination
destination-below word =
    or_zero-below (op_rd (op_of_word word)) (op_rd_below (op_of_word word) (op_of_word_in_range word))

pub first_source-below : (word : Option ℕ) → first_source (op_of_word word) < 32
unfolding first_source
first_source-below word =
    or_zero-below (op_rs1 (op_of_word word)) (op_rs1_below (op_of_word word) (op_of_word_in_range word))

pub second_source-below : (word : Option ℕ) → second_source (op_of_word word) < 32
unfolding second_source
second_source-below word =
    or_zero-below (op_rs2 (op_of_word word)) (op_rs2_below (op_of_word word) (op_of_word_in_range word))
