use Rattle.litmus_reading.proofs.Chains.{passed_on}
use Rattle.litmus_reading.proofs.Looking.{location_few, location_told, locations_told}
use Rattle.litmus_reading.proofs.observed.add_locations.Goals as goal

pub loop-index-preserved : goal.loop-index-preserved
loop-index-preserved c =
    location_told c.args.question.now.condition c.args.question.now.filter c.args.question.now.listed.observed.items
    _ _ _ _ _ c.loop-index-test.true c.loop-index.invariant c.in_ok-add_named.ensures.added

pub returns-clause-added : goal.returns-clause-added
returns-clause-added c =
    locations_told c.args.question.now.condition c.args.question.now.filter c.args.question.now.listed.observed.items
    _ _ _ _ c.loop-index-test.false c.loop-index.invariant

pub returns-in_err-add_named-clause-only : goal.returns-in_err-add_named-clause-only
returns-in_err-add_named-clause-only c = λ few.
    passed_on _ _ (λ _. Unit {0}) (λ _. Unit {0}) c.from_residual.ensures.1
    (c.in_err-add_named.ensures.only (location_few c.args.question.now.condition c.args.question.now.filter
    c.args.question.now.listed.observed.items _ _ _ _ c.loop-index-test.true c.loop-index.invariant few))
