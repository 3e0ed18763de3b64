use Rattle.litmus_reading.proofs.Remembered.{words_all, words_told}
use Rattle.litmus_reading.proofs.memory.read_memory.Goals as goal

pub loop-name-preserved : goal.loop-name-preserved
loop-name-preserved c =
    words_told _ _ _ _ _ _ _ c.loop-name-test.true c.loop-name.invariant c.in_ok-add_words.ensures.added

pub returns-clause-words : goal.returns-clause-words
returns-clause-words c =
    words_all _ _ _ _ _ c.loop-name-test.false c.loop-name.invariant
