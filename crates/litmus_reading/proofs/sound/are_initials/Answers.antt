use Rattle.std.proofs.Common.{length}
use Rattle.std.proofs.lemmas.List.Elements.{All-more}
use Rattle.litmus_tests.specs.WellFormed.{IsValue}
use Rattle.litmus_reading.proofs.Told.{all_told}
use Rattle.litmus_reading.proofs.sound.are_initials.Goals as goal

pub loop-word-preserved : goal.loop-word-preserved
loop-word-preserved c =
    All-more (IsValue (length c.args.words.now)) c.args.words.now _ _ c.loop-word-test.true c.loop-word.invariant
    (c.is_value.ensures.yes c.if-not-is_value.false)

pub returns-clause-yes : goal.returns-clause-yes
returns-clause-yes c = λ is.
    all_told (IsValue (length c.args.words.now)) c.args.words.now c.loop-word.word-index c.loop-word-test.false c.loop-word.invariant

pub returns-then-not-is_value-clause-no : goal.returns-then-not-is_value-clause-no
returns-then-not-is_value-clause-no c = λ is all.
    c.is_value.ensures.no c.if-not-is_value.true (all c.loop-word.word-index _ c.loop-word-test.true)
