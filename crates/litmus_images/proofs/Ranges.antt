-- What a well-formed test's code has is in range.
use Rattle.std.proofs.Common.{ℕ, zero, suc, ◌+◌, ◌-◌, ◌*◌, ◌≤◌, ◌<◌, List, [], ◌∷◌, ◌++◌, length, get_or, All}
use Rattle.std.proofs.Common.{sym, subst, arith, rules, Option, append-nil, pos, negsuc}
use Rattle.std.specs.Prelude.{flat_map}
use Rattle.std.specs.Option.{option_map_or}
use Rattle.std.proofs.lemmas.List.Elements.{All-nil, All-cons, All-head, All-tail, All-append, All-get_or, All-weaker}
use Rattle.std.proofs.lemmas.List.Concat.{flat_map-append}
use Rattle.std.proofs.lemmas.Option.{slice_get-get_or}
use Rattle.numbers.specs.Sizes.{most_harts}
use Rattle.rv_instr.specs.declared.instr.{Instr.Instr, BranchOp.TheVariants.Bne, ImmediateOp.TheVariants.Addi}
use Rattle.rv_instr.specs.declared.instr.Instr.TheVariants as instr
use Rattle.rv_instr.specs.Table.{IsSigned, IsDistance, IsUpper, IsInstructionInRange}
use Rattle.smt_model.specs.Basics.{below}
use Rattle.litmus_tests.specs.Conditions.{number_of}
use Rattle.litmus_tests.specs.declared.step.LitmusStep.{LitmusStep}
use Rattle.litmus_tests.specs.declared.step.LitmusStep.TheVariants.{Straight, Constant, Branch, Fence}
use Rattle.litmus_tests.specs.declared.test.{LitmusTest.LitmusTest, Thread.Thread}
use Rattle.litmus_tests.specs.WellFormed.{IsStart, IsStep, IsThread, IsWellFormed}
use Rattle.litmus_images.specs.{Words.lower_part, Words.upper_part, Words.constant_words}
use Rattle.litmus_images.specs.{Words.distance, Words.jump_reach, Words.jump_words}
use Rattle.litmus_images.proofs.{Lengths.place_small, Lengths.block_place_small, Sound.threads_sound}
use Rattle.litmus_images.specs.{Steps.step_place, Steps.step_words, Steps.words_at, Steps.steps_words}
use Rattle.litmus_images.specs.{Code.start_words, Code.thread_words, Code.block_place, Code.turn_words}
use Rattle.litmus_images.specs.{Code.dispatch_words, Code.code_of}

-- each of many lists
flat_in_range : {X : Type 0} (f : X → List Instr) (xs : List X) → All (λ x. All IsInstructionInRange (f x)) xs
    → All IsInstructionInRange (flat_map f xs)
flat_in_range f [] each = All-nil IsInstructionInRange
flat_in_range f (x ∷ xs) each = All-append IsInstructionInRange (f x) (flat_map f xs)
    (All-head (λ y. All IsInstructionInRange (f y)) x xs each)
    (flat_in_range f xs (All-tail (λ y. All IsInstructionInRange (f y)) x xs each))

below_in_range : (f : ℕ → List Instr) (n : ℕ) → ((k : ℕ) → k < n → All IsInstructionInRange (f k))
    → All IsInstructionInRange (flat_map f (below n))
below_in_range f zero each = All-nil IsInstructionInRange
below_in_range f (suc n) each =
    let before = below_in_range f n (λ k low. each k (omega arith)) in
    let last : All IsInstructionInRange (f n) = each n (omega arith) in
    subst (All IsInstructionInRange) (sym (flat_map-append f (below n) (n ∷ [])))
    (All-append IsInstructionInRange (flat_map f (below n)) (f n ++ []) before
    (subst (All IsInstructionInRange) (sym (append-nil (f n))) last))

-- constants and distances
lower_in_range : (value : ℕ) → IsSigned 12 (lower_part value)
lower_in_range value = search rules

upper_in_range : (value : ℕ) → IsUpper (upper_part value)
upper_in_range value = (omega arith, omega arith)

branch_in_range : (here there : ℕ) → here ≤ 1000 → there ≤ 1000 → IsDistance 13 (distance here there)
branch_in_range here there low high = search rules

jump_in_range : (here there : ℕ) → here ≤ jump_reach → there ≤ jump_reach → IsDistance 21 (distance here there)
jump_in_range here there low high = search rules

constant_in_range : (register value : ℕ) → register < 32 → All IsInstructionInRange (constant_words register value)
unfolding constant_words
constant_in_range register value there =
    let lui = instr.Lui register (upper_part value) in
    let addi = instr.Immediate Addi register register (lower_part value) in
    All-cons IsInstructionInRange lui (addi ∷ []) (there, upper_in_range value)
    (All-cons IsInstructionInRange addi [] (there, there, lower_in_range value) (All-nil IsInstructionInRange))

one_in_range : (instruction : Instr) → IsInstructionInRange instruction → All IsInstructionInRange (instruction ∷ [])
one_in_range instruction sound = All-cons IsInstructionInRange instruction [] sound (All-nil IsInstructionInRange)

-- the steps of a hart
step_in_range : (steps : List LitmusStep) (index : ℕ) → length steps ≤ 500 → (step : LitmusStep)
    → IsStep (length steps) step
    → All IsInstructionInRange (step_words steps index step)
step_in_range steps index few (Straight instruction) sound = one_in_range instruction sound.0
step_in_range steps index few (Constant register value) sound = constant_in_range register value sound
step_in_range steps index few (Branch op left right target) sound =
    one_in_range (instr.Branch op left right
    (distance (step_place steps index) (step_place steps target))) (
      sound.0,
      sound.1,
      branch_in_range (step_place steps index) (step_place steps target)
          (place_small steps index few) (place_small steps target few),
    )
step_in_range steps index few (Fence fence) sound = one_in_range instr.Fence tt

steps_in_range : (steps : List LitmusStep) → length steps ≤ 500 → All (IsStep (length steps)) steps
    → All IsInstructionInRange (steps_words steps)
unfolding steps_words
steps_in_range steps few sound =
    let none : LitmusStep = Straight instr.Ebreak in
    below_in_range (words_at steps) (length steps) (λ k low.
    subst (λ (o : Option LitmusStep). All IsInstructionInRange (option_map_or (λ step. step_words steps k step) o []))
    (sym (slice_get-get_or steps k none low))
    (step_in_range steps k few (get_or steps k none) (All-get_or (IsStep (length steps)) steps k none low sound)))

-- the block of a hart
thread_in_range : (thread : Thread) → IsThread 64 thread → All IsInstructionInRange (thread_words thread)
unfolding thread_words
thread_in_range thread sound =
    let P = IsInstructionInRange in
    let first : List Instr = instr.Immediate Addi 11 0 (pos 0) ∷ [] in
    let starts = flat_map start_words thread.starts.items in
    let steps = steps_words thread.steps.items in
    let ranges : All P first =
    one_in_range (instr.Immediate Addi 11 0 (pos 0)) (omega arith, omega arith, search rules) in
    let ranged : All P starts = flat_in_range start_words thread.starts.items
    (All-weaker (IsStart 64) (λ start. All P (start_words start))
    (λ start is. constant_in_range start.register (number_of start.value) is.1) thread.starts.items sound.starts) in
    let stepped : All P steps = steps_in_range thread.steps.items sound.short sound.steps in
    All-append P (first ++ starts ++ steps) (instr.Ebreak ∷ [])
    (All-append P (first ++ starts) steps (All-append P first starts ranges ranged) stepped)
    (one_in_range instr.Ebreak tt)

-- the jumps to the blocks
jump_words_in_range : (here there : ℕ) → here ≤ jump_reach → there ≤ jump_reach → All IsInstructionInRange (jump_words here there)
jump_words_in_range here there low high =
    one_in_range (instr.Jal 0 (distance here there)) (omega arith, jump_in_range here there low high)

turn_in_range : (threads : List Thread) (hart : ℕ) → All (IsThread 64) threads → length threads ≤ most_harts
    → hart < length threads
    → All IsInstructionInRange (turn_words threads hart)
turn_in_range threads hart sound few there =
    let P = IsInstructionInRange in
    let branch = instr.Branch Bne 10 0 (pos 8) in
    let add = instr.Immediate Addi 10 10 (negsuc 0) in
    let jump = jump_words (3 * hart + 1) (block_place threads hart) in
    let small = block_place_small threads hart sound few in
    All-append P (branch ∷ [] ++ jump) (add ∷ [])
    (All-append P (branch ∷ []) jump (one_in_range branch (omega arith, omega arith, search rules))
    (jump_words_in_range (3 * hart + 1) (block_place threads hart) (omega arith) (omega (arith, small))))
    (one_in_range add (omega arith, omega arith, search rules))

pub code_in_range : (test : LitmusTest) → IsWellFormed test → All IsInstructionInRange (code_of test)
unfolding code_of dispatch_words
code_in_range test sound =
    let P = IsInstructionInRange in
    let threads = test.threads.items in
    let last = length threads - 1 in
    let each = threads_sound test sound in
    let some : 1 ≤ length threads = sound.harts.0 in
    let few : length threads ≤ most_harts = sound.harts.1 in
    let turns = flat_map (turn_words threads) (below last) in
    let jump = jump_words (3 * last) (block_place threads last) in
    let small = block_place_small threads last each few in
    All-append P (turns ++ jump) (flat_map thread_words threads)
    (All-append P turns jump
    (below_in_range (turn_words threads) last (λ k low. turn_in_range threads k each few (omega arith)))
    (jump_words_in_range (3 * last) (block_place threads last) (omega arith) (omega (arith, small))))
    (flat_in_range thread_words threads
    (All-weaker (IsThread 64) (λ thread. All P (thread_words thread)) thread_in_range threads each))
