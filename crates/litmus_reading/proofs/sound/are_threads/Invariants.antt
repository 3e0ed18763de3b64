use Rattle.std.proofs.Common.{take, All}
use Rattle.litmus_tests.specs.WellFormed.{IsThread}
use Rattle.litmus_reading.proofs.sound.are_threads.Given as goal

abbrev pub invariant-loop-thread : goal.invariant-loop-thread
invariant-loop-thread l = All (IsThread l.words) (take l.thread-index l.threads)
