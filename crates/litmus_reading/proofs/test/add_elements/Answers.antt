use Rattle.litmus_reading.proofs.Wholes.{all_elements, element_more, no_element}
use Rattle.litmus_reading.proofs.test.add_elements.Goals as goal

pub loop-index-init : goal.loop-index-init
loop-index-init c =
    no_element _ _ _ _

pub loop-index-preserved : goal.loop-index-preserved
loop-index-preserved c =
    element_more _ _ _ _ _ _ _ _ c.loop-index.invariant c.in_ok-location.ensures.is c.in_ok-push.ensures.items

pub returns-clause-added : goal.returns-clause-added
returns-clause-added c =
    all_elements _ _ _ _ _ _ _ c.loop-index.invariant c.elements_of-count.ensures.value c.loop-index.auto.index-end
    c.loop-index-test.false
