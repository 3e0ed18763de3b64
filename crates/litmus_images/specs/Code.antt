-- The code of a litmus test: each hart goes to its own block by its number, which it finds in x10 (x11 has the number
-- of harts, the other registers 0).
use Rattle.std.specs.Prelude.{ℕ, ◌+◌, ◌-◌, ◌*◌, pos, negsuc, List, [], ◌∷◌, ◌++◌, length, take, flat_map}
use Rattle.rv_instr.specs.declared.instr.{Instr.Instr, BranchOp.TheVariants.Bne, ImmediateOp.TheVariants.Addi}
use Rattle.rv_instr.specs.declared.instr.Instr.TheVariants as instr
use Rattle.smt_model.specs.Basics.{below}
use Rattle.litmus_tests.specs.declared.test.{LitmusTest.LitmusTest, RegisterStart.RegisterStart, Thread.Thread}
use Rattle.litmus_tests.specs.Conditions.{number_of}
use Rattle.litmus_images.specs.{Words.constant_words, Words.jump_words, Steps.steps_words}

abbrev pub start_words : RegisterStart → List Instr
start_words start = constant_words start.register (number_of start.value)

-- The block of a hart. x10 is 0 where it begins; so is x11 behind its first word. It ends with EBREAK, which stops the
-- hart and changes no register, where ECALL would want a number in x17 and a status in x10.
unfoldable pub thread_words : Thread → List Instr
thread_words thread =
    instr.Immediate Addi 11 0 (pos 0) ∷ []
    ++ flat_map start_words thread.starts.items
    ++ steps_words thread.steps.items
    ++ instr.Ebreak ∷ []

-- How many words stand before the block of a hart: three for each hart but the last, one for the last, and the blocks
-- of the harts before it.
unfoldable pub block_place : List Thread → ℕ → ℕ
block_place threads hart =
    3 * (length threads - 1) + 1 + length (flat_map thread_words (take hart threads))

-- Hart 0 has 0 in x10 and goes to its block; the others go on with one less.
abbrev pub turn_words : List Thread → ℕ → List Instr
turn_words threads hart =
    instr.Branch Bne 10 0 (pos 8) ∷ []
    ++ jump_words (3 * hart + 1) (block_place threads hart)
    ++ instr.Immediate Addi 10 10 (negsuc 0) ∷ []

unfoldable pub dispatch_words : List Thread → List Instr
dispatch_words threads =
    let last = length threads - 1 in
    flat_map (turn_words threads) (below last)
    ++ jump_words (3 * last) (block_place threads last)

unfoldable pub code_of : LitmusTest → List Instr
code_of test = dispatch_words test.threads.items ++ flat_map thread_words test.threads.items
