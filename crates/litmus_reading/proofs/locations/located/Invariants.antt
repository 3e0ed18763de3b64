use Rattle.std.proofs.Common.{◌≡◌, ◌++◌, drop, map}
use Rattle.litmus_reading.specs.Names.{located_word}
use Rattle.litmus_reading.proofs.locations.located.Given as goal

-- those so far, and the rest, are all
abbrev pub invariant-loop-word : goal.invariant-loop-word
invariant-loop-word l = l.all.items ++ map (located_word l.text l.names) (drop l.word-index l.words)
    ≡ map (located_word l.text l.names) l.words
