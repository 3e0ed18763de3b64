use Rattle.std.proofs.lemmas.List.Elements.{All-more}
use Rattle.litmus_tests.specs.WellFormed.{IsObserved}
use Rattle.litmus_reading.proofs.Told.{all_told}
use Rattle.litmus_reading.proofs.sound.are_observed.Goals as goal

pub loop-one-preserved : goal.loop-one-preserved
loop-one-preserved c =
    All-more (IsObserved c.args.harts c.args.locations) c.args.observed.now _ _ c.loop-one-test.true c.loop-one.invariant
    (c.is_observed.ensures.yes c.if-not-is_observed.false)

pub returns-clause-yes : goal.returns-clause-yes
returns-clause-yes c = λ is.
    all_told (IsObserved c.args.harts c.args.locations) c.args.observed.now c.loop-one.one-index c.loop-one-test.false c.loop-one.invariant

pub returns-then-not-is_observed-clause-no : goal.returns-then-not-is_observed-clause-no
returns-then-not-is_observed-clause-no c = λ is all.
    c.is_observed.ensures.no c.if-not-is_observed.true (all c.loop-one.one-index _ c.loop-one-test.true)
