-- The hart that fetches agrees with the picture after it, and so does all that it leaves.
use Rattle.std.proofs.Common.{refl, ap}
use Rattle.core_parts.specs.Accesses.{accesses_of}
use Rattle.core_parts.proofs.Agreement.Checkpoints.{checkpoints_here, checkpoints_same, checkpoints_set}
use Rattle.core_parts.proofs.{Agreement.Harts.each_set, Agreement.Queues.accesses_still, Agreement.Rest.rest_kept}
use Rattle.core_steps.proofs.{Steps.Fetch.Parts.keeps_rest}
use Rattle.core_steps.proofs.{Steps.Fetch.Parts.own_fetch, Steps.Fetch.Parts.other_fetch}
use Rattle.core_steps.proofs.fetch.fetch_slot.Goals as goal

pub returns-clause-agrees : goal.returns-clause-agrees
returns-clause-agrees c = λ p q agrees step.
    let h = c.args.hart in
    let slot = c.args.slot in
    let x = c.index_mut.result.now in
    let y = c.enter_latch.new.state in
    rest_kept p q c.args.parts.now _ (keeps_rest p q h slot step) agrees
    (each_set p q c.args.parts.now.harts.items h x y c.requires.step.inside c.index_mut.ensures.value
    (own_fetch p q h slot x y c.requires.op step c.enter_latch.ensures)
    (λ g other z. other_fetch p q h slot g z other step) agrees.harts)
    refl refl refl refl
    (accesses_still p.touched c.args.parts.now.harts.items h x y c.args.parts.now.accesses c.requires.step.inside
    c.index_mut.ensures.value (ap (accesses_of p.touched) c.enter_latch.ensures.active) agrees.accesses)
    refl
    (checkpoints_set c.args.parts.now.harts.items h y c.requires.step.inside
    (checkpoints_same x y c.enter_latch.ensures.active c.enter_latch.ensures.maps
    (checkpoints_here c.args.parts.now.harts.items h x c.requires.step.inside c.index_mut.ensures.value agrees.checkpoints))
    agrees.checkpoints)
