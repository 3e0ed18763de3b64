-- How many words blocks have.
use Rattle.std.proofs.Common.{◌≡◌, ℕ, zero, suc, ◌+◌, ◌-◌, ◌*◌, ◌≤◌, ◌<◌, List, [], ◌∷◌, ◌++◌, length, take, get_or}
use Rattle.std.proofs.Common.{refl, sym, ap, ◌∙◌, arith, length-append, append-nil, add-one, Option, Some, All}
use Rattle.std.specs.Prelude.{flat_map, sum_by, slice_get}
use Rattle.std.proofs.Math.Seq.{take-length}
use Rattle.std.proofs.lemmas.List.Elements.{All-take}
use Rattle.std.proofs.lemmas.List.Concat.{flat_map-append, flat_map-cons}
use Rattle.std.specs.Option.{option_map_or}
use Rattle.std.proofs.lemmas.{List.Sums.sum_by_more, List.Sums.sum_by-take-le}
use Rattle.std.proofs.lemmas.{List.Sums.sum_by-cons, Option.slice_get-get_or}
use Rattle.numbers.specs.Sizes.{most_harts}
use Rattle.rv_instr.specs.declared.instr.Instr.TheVariants as instr
use Rattle.smt_model.specs.Basics.{below}
use Rattle.litmus_tests.specs.declared.step.LitmusStep.{LitmusStep}
use Rattle.litmus_tests.specs.declared.step.LitmusStep.TheVariants.{Straight, Constant, Branch, Fence}
use Rattle.litmus_tests.specs.declared.test.{LitmusTest.LitmusTest, RegisterStart.RegisterStart, Thread.Thread}
use Rattle.litmus_tests.specs.{Limits.most_thread_words, WellFormed.IsThread, WellFormed.IsWellFormed}
use Rattle.litmus_tests.specs.WellFormed.{step_length, thread_length}
use Rattle.litmus_tests.proofs.Lengths.{steps_small, threads_small}
use Rattle.litmus_images.specs.{Code.block_place, Code.turn_words, Code.dispatch_words, Code.code_of, Words.jump_words}
use Rattle.litmus_images.specs.{Words.constant_words, Steps.step_place, Steps.step_words}
use Rattle.litmus_images.specs.{Steps.words_at, Steps.steps_words, Code.start_words, Code.thread_words}

step_length_is : (steps : List LitmusStep) (index : ℕ) (step : LitmusStep)
    → length (step_words steps index step) ≡ step_length step
unfolding constant_words
step_length_is steps index (Straight instruction) = refl
step_length_is steps index (Constant register value) = refl
step_length_is steps index (Branch op left right target) = refl
step_length_is steps index (Fence fence) = refl

starts_length : (starts : List RegisterStart) → length (flat_map start_words starts) ≡ 2 * length starts
unfolding constant_words
starts_length [] = refl
starts_length (start ∷ starts) = let so_far = starts_length starts in
    ap length (flat_map-cons start_words start starts) ∙ length-append (start_words start) (flat_map start_words starts)
    ∙ omega (arith, so_far)

words_length : (steps : List LitmusStep) (n : ℕ) → n ≤ length steps
    → length (flat_map (words_at steps) (below n)) ≡ step_place steps n
unfolding step_place
words_length steps zero inside = refl
words_length steps (suc n) inside =
    let here : n < length steps = omega arith in
    let none : LitmusStep = Straight instr.Ebreak in
    let found : slice_get steps n ≡ Some (get_or steps n none) = slice_get-get_or steps n none here in
    let word : length (words_at steps n) ≡ step_length (get_or steps n none) =
    ap (λ (o : Option LitmusStep). length (option_map_or (λ step. step_words steps n step) o [])) found
    ∙ step_length_is steps n (get_or steps n none) in
    let before = words_length steps n (omega arith) in
    let more : sum_by step_length (take (suc n) steps)
    ≡ sum_by step_length (take n steps) + step_length (get_or steps n none) =
    ap (λ k. sum_by step_length (take k steps)) (sym (add-one n)) ∙ sum_by_more step_length steps n none here in
    ap length (flat_map-append (words_at steps) (below n) (n ∷ []))
    ∙ length-append (flat_map (words_at steps) (below n)) (words_at steps n ++ [])
    ∙ ap (λ l. length (flat_map (words_at steps) (below n)) + length l) (append-nil (words_at steps n))
    ∙ omega (arith, word, before, more)

pub block_length : (thread : Thread) → length (thread_words thread) ≡ thread_length thread
unfolding thread_words steps_words step_place
block_length thread =
    let all = thread.steps.items in
    let starts = starts_length thread.starts.items in
    let steps : length (flat_map (words_at all) (below (length all))) ≡ sum_by step_length all =
    words_length all (length all) (omega arith) ∙ ap (sum_by step_length) (take-length all) in
    simp length-append (omega (arith, starts, steps))

-- Together they have as many as the test's threads.
pub blocks_length : (threads : List Thread) → length (flat_map thread_words threads) ≡ sum_by thread_length threads
blocks_length [] = refl
blocks_length (thread ∷ threads) =
    let one = block_length thread in
    let others = blocks_length threads in
    let both = length-append (thread_words thread) (flat_map thread_words threads) in
    let sum = sum_by-cons thread_length thread threads in
    ap length (flat_map-cons thread_words thread threads) ∙ omega (arith, one, others, both, sum)

-- places are small
pub place_small : (steps : List LitmusStep) (n : ℕ) → length steps ≤ 500 → step_place steps n ≤ 1000
unfolding step_place
place_small steps n few =
    let all = steps_small steps in let part = sum_by-take-le step_length steps n in omega (arith, all, part)

pub blocks_small : (threads : List Thread) → All (IsThread 64) threads
    → length (flat_map thread_words threads) ≤ most_thread_words * length threads
blocks_small threads sound =
    let all = blocks_length threads in let few = threads_small 64 threads sound in omega (arith, all, few)

take_few : {X : Type 0} (n : ℕ) (xs : List X) → length (take n xs) ≤ length xs
take_few zero xs = omega arith
take_few (suc n) [] = omega arith
take_few (suc n) (x ∷ xs) = let part = take_few n xs in omega (arith, part)

pub block_place_small : (threads : List Thread) (hart : ℕ) → All (IsThread 64) threads → length threads ≤ most_harts
    → block_place threads hart ≤ (3 + most_thread_words) * most_harts
unfolding block_place
block_place_small threads hart sound few =
    let blocks = blocks_small (take hart threads) (All-take (IsThread 64) hart threads sound) in
    let part = take_few hart threads in omega (arith, blocks, part)

-- how many instructions a test has
turns_length : (threads : List Thread) (n : ℕ) → length (flat_map (turn_words threads) (below n)) ≡ 3 * n
turns_length threads zero = refl
turns_length threads (suc n) =
    let before = turns_length threads n in
    let both = length-append (flat_map (turn_words threads) (below n)) (turn_words threads n ++ []) in
    ap length (flat_map-append (turn_words threads) (below n) (n ∷ [])) ∙ omega (arith, before, both)

pub code_length : (test : LitmusTest) → IsWellFormed test
    → (1 ≤ length (code_of test)) × (length (code_of test) ≤ 3 * most_harts + 16000)
unfolding code_of dispatch_words
code_length test sound =
    let threads = test.threads.items in
    let last = length threads - 1 in
    let turns = turns_length threads last in
    let few : length threads ≤ most_harts = sound.harts.1 in
    let short : sum_by thread_length threads ≤ 16000 = sound.short in
    let blocks = blocks_length threads in
    let jump = jump_words (3 * last) (block_place threads last) in
    let first = length-append (flat_map (turn_words threads) (below last)) jump in
    let all = length-append (flat_map (turn_words threads) (below last) ++ jump) (flat_map thread_words threads) in
    (omega (arith, turns, first, all), omega (arith, turns, blocks, short, few, first, all))
