-- The list of a hart's instructions in flight, oldest first.
use Rattle.std.specs.Prelude.{ℕ, ◌<◌, ◌≤◌, ◌==◌, List, [], ◌∷◌, map, if◌then◌else◌}
use Rattle.std.specs.List.{AllByRecursion}
use Rattle.retire_squash.specs.{declared.active.Active.Active, declared.active.Stage.Stage}

-- the number is above those of all in the list
abbrev pub Above : ℕ → List Active → Type 0
Above seq xs = AllByRecursion (λ x. x.seq < seq) xs

-- no instruction of the list is younger than this number
abbrev pub Within : ℕ → List Active → Type 0
Within seq xs = AllByRecursion (λ x. x.seq ≤ seq) xs

-- each number is above those before it
abbrev pub AreActivesRising : List Active → Type 0
AreActivesRising [] = Unit {0}
AreActivesRising (x ∷ xs) = AllByRecursion (λ y. x.seq < y.seq) xs × AreActivesRising xs

-- the instruction of this number is at this stage, any other is as it was
abbrev pub staged : ℕ → Stage → Active → Active
staged seq stage x = if x.seq == seq then record x { stage = stage } else x

-- the list after that
abbrev pub with_stage : ℕ → Stage → List Active → List Active
with_stage seq stage xs = map (staged seq stage) xs
