use Rattle.litmus_reading.proofs.Wholes.{location_more, locations_all}
use Rattle.litmus_reading.proofs.test.read_locations.Goals as goal

pub loop-name-init : goal.loop-name-init
loop-name-init c =
    rw c.new-locations.ensures.items (λ more are. are)

pub loop-name-preserved : goal.loop-name-preserved
loop-name-preserved c =
    location_more _ _ _ _ _ _ _ c.loop-name-test.true c.loop-name.invariant c.in_ok-add_elements.ensures.added

pub returns-clause-are : goal.returns-clause-are
returns-clause-are c =
    locations_all _ _ _ _ _ c.loop-name-test.false c.loop-name.invariant
