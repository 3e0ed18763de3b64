-- How long the code of harts is at most.
use Rattle.std.proofs.Common.{ℕ, ◌+◌, ◌*◌, ◌≤◌, List, [], ◌∷◌, length, arith, All}
use Rattle.std.specs.Prelude.{sum_by}
use Rattle.std.proofs.lemmas.List.Elements.{All-head, All-tail}
use Rattle.std.proofs.lemmas.List.Sums.{sum_by-cons}
use Rattle.litmus_tests.specs.declared.step.LitmusStep.{LitmusStep}
use Rattle.litmus_tests.specs.declared.step.LitmusStep.TheVariants.{Straight, Constant, Branch, Fence}
use Rattle.litmus_tests.specs.declared.test.Thread.{Thread}
use Rattle.litmus_tests.specs.WellFormed.{IsThread, step_length, thread_length}

pub steps_small : (steps : List LitmusStep) → sum_by step_length steps ≤ 2 * length steps
steps_small [] = omega arith
steps_small (step ∷ steps) =
    let more = sum_by-cons step_length step steps in let so_far = steps_small steps in
    let one = one_small step in omega (arith, more, so_far, one)
  where
    one_small : (step : LitmusStep) → step_length step ≤ 2
    one_small (Straight instruction) = omega arith
    one_small (Constant register value) = omega arith
    one_small (Branch op left right target) = omega arith
    one_small (Fence fence) = omega arith

pub thread_small : (locations : ℕ) (thread : Thread) → IsThread locations thread → thread_length thread ≤ 1064
thread_small locations thread sound =
    let few : length thread.starts.items ≤ 31 = sound.few in
    let short : length thread.steps.items ≤ 500 = sound.short in
    let steps = steps_small thread.steps.items in omega (arith, few, short, steps)

pub threads_small : (locations : ℕ) (threads : List Thread) → All (IsThread locations) threads
    → sum_by thread_length threads ≤ 1064 * length threads
threads_small locations [] sound = omega arith
threads_small locations (thread ∷ threads) sound =
    let one = thread_small locations thread (All-head (IsThread locations) thread threads sound) in
    let others = threads_small locations threads (All-tail (IsThread locations) thread threads sound) in
    let both = sum_by-cons thread_length thread threads in omega (arith, one, others, both)
