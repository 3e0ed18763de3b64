-- What is looked at in store buffering: x8 of both harts.
use Rattle.std.specs.Prelude.{List, [], ◌∷◌}
use Rattle.litmus_tests.specs.declared.condition.Observed.{Observed}
use Rattle.litmus_tests.specs.declared.condition.Observed.TheVariants.{Register}

abbrev pub both_registers : List Observed
both_registers = Register 0 8 ∷ Register 1 8 ∷ []
