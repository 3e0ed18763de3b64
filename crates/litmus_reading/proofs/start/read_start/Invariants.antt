use Rattle.std.proofs.Common.{List, [], ◌++◌, length}
use Rattle.litmus_words.specs.Tokens.{tokens}
use Rattle.litmus_reading.specs.declared.start.Entry.{Entry}
use Rattle.litmus_reading.specs.Starts.{AreEntries}
use Rattle.litmus_reading.proofs.EntriesLeft.{EntriesLeft}
use Rattle.litmus_reading.proofs.start.read_start.Given as goal

-- what the rest is are, behind what has been read, all entries; and of all entries that the words are, the rest is
-- those behind what has been read
abbrev pub invariant-loop-rest : goal.invariant-loop-rest
invariant-loop-rest l = ((others : List Entry) → AreEntries l.entries.items others (tokens l.rest)
    → AreEntries [] (l.entries.items ++ others) (tokens l.words))
    × ((all : List Entry) → AreEntries [] all (tokens l.words) → EntriesLeft all l.entries.items l.rest)

abbrev pub decreases-loop-rest : goal.decreases-loop-rest
decreases-loop-rest l = length l.rest
