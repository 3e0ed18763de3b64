use Rattle.std.proofs.Common.{◌∙◌, ap}
use Rattle.watched_outcomes.specs.{Endings.Ending}
use Rattle.litmus_text.specs.State.{first_told}
use Rattle.litmus_text.proofs.state.write_told.Goals as goal

pub returns : goal.returns
returns g c =
    let same = ap (λ (ending : Ending). ending.statuses) c.outcome.view_is in
    let one = c.as_slice.ensures.value ∙ same in
    let other = c.as_slice-2.ensures.value ∙ same in
    let first = c.first_told-first.ensures ∙ ap (first_told c.args.test.now) one in
    rw (first, other) at c.write_stops.ensures
