use Rattle.std.proofs.Common.{◌∙◌, ◌<◌, sym, subst, length}
use Rattle.smt_model.specs.Picture.{picture}
use Rattle.core_state.proofs.Following.Counts.{stores_in_flight}
use Rattle.reasons.specs.Reasons.{is_store}
use Rattle.reasons.proofs.InParts.{crowded_is}
use Rattle.reasons.proofs.harts.are_stores_full.Goals as goal

pub returns : goal.returns
returns c =
    let v = c.args.core.now in
    let x = c.parts.result.0.now in
    let inside : c.args.hart < length x.harts.items =
    subst (λ n. c.args.hart < n) (sym c.parts.ensures.harts) c.requires in
    c.stores_full.ensures.full
    ∙ crowded_is v.past c.args.hart is_store _
    (stores_in_flight (picture v.setup v.past) x c.args.hart c.parts.ensures.agrees inside) c.stores_full.ensures.within
