-- The hart that decodes agrees with the picture after it, and so does all that it leaves.
use Rattle.std.proofs.Common.{◌<◌, length, refl, ap, subst, sym}
use Rattle.smt_model.specs.Steps.{IsDecode}
use Rattle.core_parts.specs.Accesses.{accesses_of}
use Rattle.core_parts.proofs.Agreement.Checkpoints.{checkpoints_here, checkpoints_same, checkpoints_set}
use Rattle.core_parts.proofs.{Agreement.Harts.each_set, Agreement.Queues.accesses_still, Agreement.Rest.rest_kept}
use Rattle.core_steps.proofs.{Steps.Decode.Parts.keeps_rest}
use Rattle.core_steps.proofs.{Steps.Decode.Parts.own_decode, Steps.Decode.Parts.other_decode}
use Rattle.core_steps.proofs.decode.decode_oldest.Goals as goal

pub returns-clause-agrees : goal.returns-clause-agrees
returns-clause-agrees c = λ p q agrees n step.
    let h = c.from.result in
    let same = sym c.from.ensures in
    let here = subst (λ k. IsDecode p q k n) same step in
    let inside = subst (λ k. k < length c.args.parts.now.harts.items) same c.requires.step.inside in
    let x = c.index_mut.result.now in
    let y = c.move_to_rename.new.state in
    rest_kept p q c.args.parts.now _ (keeps_rest p q h n here) agrees
    (each_set p q c.args.parts.now.harts.items h x y inside c.index_mut.ensures.value
    (own_decode p q h n x y here c.move_to_rename.ensures) (λ g other z. other_decode p q h n g z other here) agrees.harts)
    refl refl refl refl
    (accesses_still p.touched c.args.parts.now.harts.items h x y c.args.parts.now.accesses inside c.index_mut.ensures.value
    (ap (accesses_of p.touched) c.move_to_rename.ensures.active) agrees.accesses)
    refl
    (checkpoints_set c.args.parts.now.harts.items h y inside
    (checkpoints_same x y c.move_to_rename.ensures.active c.move_to_rename.ensures.maps
    (checkpoints_here c.args.parts.now.harts.items h x inside c.index_mut.ensures.value agrees.checkpoints))
    agrees.checkpoints)
