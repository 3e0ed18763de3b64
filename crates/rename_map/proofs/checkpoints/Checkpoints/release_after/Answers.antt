use Rattle.std.proofs.Common.{◌∙◌, nat_lt, sym, ap, subst, arith}
use Rattle.std.specs.List.{AllByRecursion}
use Rattle.rename_map.specs.{Maps.released_after, Places.kept_in, Places.IsWhole}
use Rattle.rename_map.proofs.Places.{whole_left, kept_released_after}
use Rattle.rename_map.proofs.checkpoints.Checkpoints.release_after.Goals as goal

pub returns : goal.returns
returns c =
    ap kept_in c.release_each_after.ensures ∙ kept_released_after c.args.seq c.self.inside.places
    ∙ ap (released_after c.args.seq) c.self.view_is

pub invariant_of-self : goal.invariant_of-self
invariant_of-self c = (
  omega (arith, c.release_each_after.auto.places, c.self.invariant.0),
  subst (AllByRecursion IsWhole) (sym c.release_each_after.ensures)
      (whole_left (λ s. nat_lt c.args.seq s) c.self.inside.places c.self.invariant.1),
)
