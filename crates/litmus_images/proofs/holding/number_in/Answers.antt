use Rattle.litmus_images.specs.Watching.{final_state}
use Rattle.litmus_images.proofs.holding.number_in.Goals as goal

pub returns-in-Register : goal.returns-in-Register
unfolding final_state
returns-in-Register c = rw (
  c.in-Register.is,
  ← c.outcome.view_is,
  c.number_at_place.ensures,
  c.as_slice.ensures.value,
  c.register_place-place.ensures,
  c.deref.ensures.value,
)

pub returns-in-Location : goal.returns-in-Location
unfolding final_state
returns-in-Location c = rw (
  c.in-Location.is,
  ← c.outcome.view_is,
  c.number_at_place-in-Location.ensures,
  c.as_slice-in-Location.ensures.value,
  c.location_place-place.ensures,
  c.deref-in-Location.ensures.value,
)
