use Rattle.std.specs.{Prelude.slice_index_or, Vec.with_item}
use Rattle.std.proofs.Common.{◌≡◌, ◌∙◌, ap, subst}
use Rattle.rename_map.specs.Maps.{Maps}
use Rattle.core_parts.specs.{declared.hart.HartState.HartState, declared.parts.Parts.Parts}
use Rattle.core_steps.proofs.Steps.Complete.Map.{parts_restored}
use Rattle.core_steps.proofs.checkpoints.restore_map.Goals as goal

pub returns-clause-agrees : goal.returns-clause-agrees
returns-clause-agrees c p agrees =
    let old = c.args.parts.now in
    let x : HartState = c.index_mut.result.now in
    let at : x ≡ slice_index_or old.harts.items c.args.hart x =
    subst (λ i. x ≡ slice_index_or old.harts.items i x) c.from.ensures c.index_mut.ensures.value in
    let y : Maps → HartState = λ m. record x { maps = m } in
    let new : Parts = record old { harts = with_item old.harts c.from.result (y c.restore.new.self) } in
    rw c.restore.ensures.found
    (parts_restored p c.args.hart c.args.seq x old new c.requires at agrees
    (ap (λ i. record old { harts = with_item old.harts i (y c.restore.new.self) }) c.from.ensures
    ∙ ap (λ m. record old { harts = with_item old.harts c.args.hart (y m) }) c.restore.ensures.restored))
