use Rattle.litmus_reading.proofs.Listing.{all_elements_listed, element_listed}
use Rattle.litmus_reading.proofs.question.list_elements.Goals as goal

pub loop-element-preserved : goal.loop-element-preserved
loop-element-preserved c =
    element_listed _ _ _ _ _ _ _ _ c.elements_of-count.ensures.value c.loop-element-test.true c.loop-element.invariant
    c.index_of.ensures c.in_ok-list_one.ensures.listed

pub returns-clause-listed : goal.returns-clause-listed
returns-clause-listed c =
    all_elements_listed _ _ _ _ _ _ c.elements_of-count.ensures.value c.loop-element-test.false c.loop-element.invariant
