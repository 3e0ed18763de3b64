use Rattle.std.proofs.lemmas.List.Elements.{All-more}
use Rattle.litmus_tests.specs.WellFormed.{IsStart}
use Rattle.litmus_reading.proofs.Told.{all_told}
use Rattle.litmus_reading.proofs.sound.are_starts.Goals as goal

pub loop-start-preserved : goal.loop-start-preserved
loop-start-preserved c =
    All-more (IsStart c.args.words) c.args.starts.now _ _ c.loop-start-test.true c.loop-start.invariant
    (c.is_start.ensures.yes c.if-not-is_start.false)

pub returns-clause-yes : goal.returns-clause-yes
returns-clause-yes c = λ is.
    all_told (IsStart c.args.words) c.args.starts.now c.loop-start.start-index c.loop-start-test.false c.loop-start.invariant

pub returns-then-not-is_start-clause-no : goal.returns-then-not-is_start-clause-no
returns-then-not-is_start-clause-no c = λ is all.
    c.is_start.ensures.no c.if-not-is_start.true (all c.loop-start.start-index _ c.loop-start-test.true)
