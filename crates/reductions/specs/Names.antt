-- The reductions of a search, by their names, and which are left out. (This project's own choice.)
use Rattle.std.specs.Prelude.{◌≡◌, ◌≢◌, ℕ, Bool, true, List, codes}
use Rattle.reductions.specs.declared.reduction.Reduction.{Reduction}
use Rattle.reductions.specs.declared.reduction.Reduction.TheVariants.{Conditional, Jumps}
use Rattle.reductions.specs.declared.without.Without.{Without}

-- What a reduction is called.
abbrev pub name_of : Reduction → List ℕ
name_of Conditional = codes "RX"
name_of Jumps = codes "J"

-- The reduction is left out.
abbrev pub has : Without → Reduction → Bool
has without Conditional = without.conditional
has without Jumps = without.jumps

-- One more is left out, and no other one has changed.
pub record IsWith (old : Without) (reduction : Reduction) (new : Without) : Type 0 where
  pub has_it : has new reduction ≡ true
  pub others : (other : Reduction) → other ≢ reduction → has new other ≡ has old other
