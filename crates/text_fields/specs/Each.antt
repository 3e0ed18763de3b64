-- The texts of the members of a list, one after another.
use Rattle.std.specs.Prelude.{ℕ, ◌+◌, List, [], ◌∷◌, ◌++◌}

-- Each member's text, which may say its place; the first member is at this place.
abbrev pub each_from : {A : Type 0} → (ℕ → A → List ℕ) → ℕ → List A → List ℕ
each_from text place [] = []
each_from text place (one ∷ others) = text place one ++ each_from text (place + 1) others
