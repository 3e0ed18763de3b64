-- The static predictor: a jump whose target stands in its word goes there, and so does a branch
-- backwards; after all else the instruction behind is expected. [Smith 1981, "A Study of Branch
-- Prediction Strategies"]
use Rattle.std.specs.Prelude.{ℕ, pos, int_lt, if◌then◌else◌, Option, Some}
use Rattle.rv_word.specs.Word.{sum_of}
use Rattle.rv_instr.specs.declared.instr.Instr.{Instr}
use Rattle.rv_instr.specs.declared.instr.Instr.TheVariants as instr
use Rattle.smt_model.specs.Exec.{extended, next_pc}

-- Where the instruction at a pc goes on by the predictor; none where its word is illegal.
abbrev pub static_guess : ℕ → Option Instr → ℕ
static_guess pc (Some (instr.Jal rd offset)) = sum_of pc (extended offset)
static_guess pc (Some (instr.Branch op rs1 rs2 offset)) =
    if int_lt offset (pos 0) then sum_of pc (extended offset) else next_pc pc
static_guess pc _ = next_pc pc
