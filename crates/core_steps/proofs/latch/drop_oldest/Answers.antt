use Rattle.std.proofs.Common.{◌-◌, ◌∙◌, length, take, drop, ap}
use Rattle.arrayvec.proofs.ArrayVecLemmas.{items-with_items}
use Rattle.core_steps.proofs.latch.drop_oldest.Goals as goal

pub returns : goal.returns
returns c =
    let moved = c.move_up.new.slots in
    let written = items-with_items c.args.latch.now moved (c.move_up.auto.slots ∙ ap length c.as_mut_slice.ensures.value) in
    c.pop.ensures.rest ∙ (λ j. take (length (written j) - 1) (written j))
    ∙ ap (λ n. take (n - 1) moved) c.move_up.auto.slots ∙ c.move_up.ensures
    ∙ ap (drop 1) c.as_mut_slice.ensures.value
