use Rattle.litmus_reading.proofs.Listing.{list_inside, of_list}
use Rattle.litmus_reading.proofs.question.read_locations.Goals as goal

pub returns-clause-taken : goal.returns-clause-taken
returns-clause-taken c =
    of_list _ _ _ _ _ _ _ c.in_ok-behind.ensures.spelled c.in_ok-inside.ensures.spelled c.in_ok-rest.ensures.taken

pub returns-clause-only : goal.returns-clause-only
returns-clause-only c = λ list whole rest it.
    c.in_ok-rest.ensures.only list whole rest
    (list_inside _ _ _ _ rest list whole c.in_ok-behind.ensures.spelled c.in_ok-inside.ensures.spelled it)
