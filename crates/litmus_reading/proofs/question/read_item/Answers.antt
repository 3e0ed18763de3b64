use Rattle.std.proofs.Common.{refl}
use Rattle.litmus_reading.proofs.Listing.{one_taken, whole_taken}
use Rattle.litmus_reading.proofs.question.read_item.Goals as goal

pub returns-in-Some-clause-taken : goal.returns-in-Some-clause-taken
returns-in-Some-clause-taken c =
    whole_taken _ _ _ _ _ _ _ _ c.in-Some.ensures.taken c.in_ok-list_elements.ensures.listed c.in_ok-list_whole.ensures.kept

pub returns-clause-taken : goal.returns-clause-taken
returns-clause-taken c =
    one_taken _ _ _ _ _ _ _ _ c.in_ok-observed.ensures.taken c.in_ok-observed.ensures.there
    c.in_ok-list_one.ensures.listed refl

pub returns-in_err-observed-clause-only_one : goal.returns-in_err-observed-clause-only_one
returns-in_err-observed-clause-only_one c = λ one rest taken there no_index.
    absurd (c.in_err-observed.ensures.only one rest taken there no_index)
