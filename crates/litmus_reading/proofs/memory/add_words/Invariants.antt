use Rattle.std.proofs.Common.{◌≡◌, ◌-◌, ◌++◌}
use Rattle.litmus_reading.specs.Memory.{word_count, words_from, words_of}
use Rattle.litmus_reading.proofs.memory.add_words.Given as goal

-- those so far, and those of the rest, are all
abbrev pub invariant-loop-word : goal.invariant-loop-word
invariant-loop-word l = l.words.items ++ words_from (word_count l.declared - l.word) l.entries l.declared l.word
    ≡ l.initial.words.items ++ words_of l.entries l.declared
