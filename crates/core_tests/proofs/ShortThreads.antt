-- One hart of a litmus test, or two, have no more code than memory has room for.
use Rattle.std.proofs.Common.{◌≡◌, ℕ, ◌≤◌, List, length, arith, All}
use Rattle.std.specs.Prelude.{sum_by}
use Rattle.litmus_tests.specs.declared.test.Thread.{Thread}
use Rattle.litmus_tests.specs.WellFormed.{IsThread, thread_length}
use Rattle.litmus_tests.proofs.Lengths.{threads_small}

pub one_short : (locations : ℕ) (threads : List Thread) → All (IsThread locations) threads → length threads ≡ 1
    → sum_by thread_length threads ≤ 16000
one_short locations threads sound one = let few = threads_small locations threads sound in omega (arith, few, one)

pub two_short : (locations : ℕ) (threads : List Thread) → All (IsThread locations) threads → length threads ≡ 2
    → sum_by thread_length threads ≤ 16000
two_short locations threads sound two = let few = threads_small locations threads sound in omega (arith, few, two)
