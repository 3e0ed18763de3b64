-- Why a machine doesn't make a step.
use Rattle.searches.specs.declared.unmade.Unmade.{Unmade}
use Rattle.searches.specs.declared.unmade.Unmade.TheVariants.{Memory, Lacks}

-- What the machine says of each thing that it may lack. There may be no memory for any step.
abbrev pub MayBeUnmade : {L : Type 0} → (L → Type 0) → Unmade L → Type 0
MayBeUnmade MayLack Memory = Unit {0}
MayBeUnmade MayLack (Lacks what) = MayLack what
