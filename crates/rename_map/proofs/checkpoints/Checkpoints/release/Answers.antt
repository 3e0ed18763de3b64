use Rattle.std.proofs.Common.{◌∙◌, ◌==◌, sym, ap, subst, arith}
use Rattle.std.specs.List.{AllByRecursion}
use Rattle.rename_map.specs.{Maps.released, Places.kept_in, Places.IsWhole}
use Rattle.rename_map.proofs.Places.{whole_left, kept_released}
use Rattle.rename_map.proofs.checkpoints.Checkpoints.release.Goals as goal

pub returns : goal.returns
returns c =
    ap kept_in c.release_each.ensures ∙ kept_released c.args.seq c.self.inside.places
    ∙ ap (released c.args.seq) c.self.view_is

pub invariant_of-self : goal.invariant_of-self
invariant_of-self c = (
  omega (arith, c.release_each.auto.places, c.self.invariant.0),
  subst (AllByRecursion IsWhole) (sym c.release_each.ensures)
      (whole_left (λ s. s == c.args.seq) c.self.inside.places c.self.invariant.1),
)
