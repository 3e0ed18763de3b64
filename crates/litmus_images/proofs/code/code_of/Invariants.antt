use Rattle.std.proofs.Common.{◌≡◌, ◌++◌, take}
use Rattle.std.specs.Prelude.{flat_map}
use Rattle.litmus_images.specs.Code.{thread_words, dispatch_words}
use Rattle.litmus_images.proofs.code.code_of.Given as goal

abbrev pub invariant-loop-thread : goal.invariant-loop-thread
invariant-loop-thread l = l.code.items
    ≡ dispatch_words l.test.threads.items ++ flat_map thread_words (take l.thread-index l.test.threads.items)
