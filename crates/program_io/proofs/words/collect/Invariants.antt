use Rattle.std.proofs.Common.{◌≡◌, ◌++◌, length}
use Rattle.std.specs.Vec.Iter.{into_iter_items, into_iter_len}
use Rattle.program_io.proofs.words.collect.Given as goal

-- the words so far, and those to come, are all of them
abbrev pub invariant-loop-word : goal.invariant-loop-word
invariant-loop-word l = record {
  all : l.all.items ++ into_iter_items l.word-iterator ≡ into_iter_items l.fn.words;
  coming : into_iter_len l.word-iterator ≡ length (into_iter_items l.word-iterator);
}
