use Rattle.std.proofs.Common.{◌∙◌, ◌<◌, sym, subst, length}
use Rattle.smt_model.specs.Picture.{picture}
use Rattle.core_state.proofs.Following.Counts.{loads_in_flight}
use Rattle.reasons.specs.Reasons.{is_load}
use Rattle.reasons.proofs.InParts.{crowded_is}
use Rattle.reasons.proofs.harts.are_loads_full.Goals as goal

pub returns : goal.returns
returns c =
    let v = c.args.core.now in
    let x = c.parts.result.0.now in
    let inside : c.args.hart < length x.harts.items =
    subst (λ n. c.args.hart < n) (sym c.parts.ensures.harts) c.requires in
    c.loads_full.ensures.full
    ∙ crowded_is v.past c.args.hart is_load _
    (loads_in_flight (picture v.setup v.past) x c.args.hart c.parts.ensures.agrees inside) c.loads_full.ensures.within
