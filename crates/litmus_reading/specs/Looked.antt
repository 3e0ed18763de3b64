-- What tells final states apart: what is listed, and what the condition and the filter look at, each once, registers by
-- hart and number, then locations by index.
use Rattle.std.specs.Prelude.{ℕ, zero, suc, ◌+◌, ◌==◌, ◌&&◌, ◌||◌, Bool, false, List, [], ◌∷◌, ◌++◌}
use Rattle.std.specs.List.{list_any, filter}
use Rattle.litmus_tests.specs.declared.condition.Observed.{Observed}
use Rattle.litmus_tests.specs.declared.condition.Observed.TheVariants.{Register, Location}
use Rattle.litmus_tests.specs.declared.condition.Condition.{Condition, Always, Holds, Not', Both', Either', Implies', Equivalent'}
use Rattle.litmus_reading.specs.Questions.{elements_from}

abbrev pub is_same : Observed → Observed → Bool
is_same (Register hart register) (Register other number) = hart == other && register == number
is_same (Location index) (Location other) = index == other
is_same one other = false

-- A condition looks at it.
abbrev pub looks_at : Condition → Observed → Bool
looks_at Always one = false
looks_at (Holds term) one = is_same term.observed one
looks_at (Not' p condition) one = looks_at condition one
looks_at (Both' p first q second) one = looks_at first one || looks_at second one
looks_at (Either' p first q second) one = looks_at first one || looks_at second one
looks_at (Implies' p first q second) one = looks_at first one || looks_at second one
looks_at (Equivalent' p first q second) one = looks_at first one || looks_at second one

abbrev pub is_listed : List Observed → Observed → Bool
is_listed listed one = list_any (λ other. is_same other one) listed

abbrev pub is_named : Condition → Condition → List Observed → Observed → Bool
is_named condition filters listed one =
    looks_at condition one || (looks_at filters one || is_listed listed one)

-- All that can be looked at: of so many harts from this one on the registers x1 to x31, then so many locations.
abbrev pub registers_from : ℕ → ℕ → ℕ → List Observed
registers_from zero hart register = []
registers_from (suc more) hart register = Register hart register ∷ registers_from more hart (register + 1)

abbrev pub harts_from : ℕ → ℕ → List Observed
harts_from zero hart = []
harts_from (suc more) hart = registers_from 31 hart 1 ++ harts_from more (hart + 1)

-- Those of it that are named.
abbrev pub those_named : Condition → Condition → List Observed → List Observed → List Observed
those_named condition filters listed all = filter (is_named condition filters listed) all

abbrev pub looked_at : Condition → Condition → List Observed → ℕ → ℕ → List Observed
looked_at condition filters listed harts locations =
    those_named condition filters listed (harts_from harts 0 ++ elements_from locations 0)
