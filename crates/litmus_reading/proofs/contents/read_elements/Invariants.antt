use Rattle.std.proofs.Common.{List}
use Rattle.litmus_words.specs.declared.word.Word.{Word}
use Rattle.litmus_reading.specs.declared.start.Entry.{Entry}
use Rattle.litmus_reading.specs.Starts.{ElementsTaken}
use Rattle.litmus_reading.proofs.ElementsLeft.{ElementsLeft}
use Rattle.litmus_reading.proofs.Entries.{ReadsOn}
use Rattle.litmus_reading.proofs.contents.read_elements.Given as goal

-- the elements that have been read stand before the rest; and of all elements that the words are, the rest is those
-- behind what has been read
abbrev pub invariant-loop-element : goal.invariant-loop-element
invariant-loop-element l =
    ReadsOn l.given l.declared l.words l.initial.entries.items l.entries.items l.element l.rest
    × ((after : List Entry) → (end : List Word)
    → ElementsTaken l.given l.declared l.words l.initial.entries.items after end
    → ElementsLeft l.given l.declared l.element l.rest l.entries.items after end)
