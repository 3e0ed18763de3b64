use Rattle.litmus_reading.proofs.Remembered.{no_word_more, word_more}
use Rattle.litmus_reading.proofs.memory.add_words.Goals as goal

pub loop-word-preserved : goal.loop-word-preserved
loop-word-preserved c =
    word_more _ _ _ _ _ _ _ _ _ c.word_count-count.ensures c.loop-word-test.true c.loop-word.invariant
    c.word_at.ensures c.in_ok-push.ensures.items

pub returns-clause-added : goal.returns-clause-added
returns-clause-added c =
    no_word_more _ _ _ _ _ _ _ c.word_count-count.ensures c.loop-word-test.false c.loop-word.invariant
