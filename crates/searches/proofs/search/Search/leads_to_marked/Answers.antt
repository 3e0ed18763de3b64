use Rattle.std.proofs.Common.{ap, subst, length, slice_get, Some, ◌≡◌, ◌<◌, ℕ}
use Rattle.searches.specs.Found.{Found}
use Rattle.searches.proofs.Marking.{leads_inside}
use Rattle.searches.proofs.search.Search.leads_to_marked.Goals as goal

pub is_marked-requires : goal.is_marked-requires
is_marked-requires g c =
    leads_inside c.args.self.now
    (subst (λ (f : Found g.row.S.Denot g.row.W.Denot). (at q : ℕ) → slice_get f.edges at ≡ Some (Some q)
    → q < length f.states) c.self.view_is c.self.invariant.inside) (length c.args.marks.now) c.requires.paired
    c.args.place c.loop-hart.hart c.edge.result c.edge.ensures
