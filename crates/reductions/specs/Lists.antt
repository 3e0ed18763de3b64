-- Lists of reductions, as a command line has them. (This project's own choice.)
use Rattle.std.specs.Prelude.{◌≡◌, ◌≢◌, ℕ, true, List, [], ◌∷◌, ◌++◌, AllPairs, Contains, ◌↔◌}
use Rattle.reductions.specs.{Names.has, Names.name_of}
use Rattle.reductions.specs.declared.{reduction.Reduction.Reduction, without.Without.Without}

-- The names of reductions, with a comma between each and the next.
abbrev pub text_of : List Reduction → List ℕ
text_of [] = []
text_of (reduction ∷ []) = name_of reduction
text_of (reduction ∷ next ∷ others) = name_of reduction ++ 44 ∷ text_of (next ∷ others)

-- The text is a list of these: there is one at least, and none stands there twice.
pub record IsListOf (text : List ℕ) (listed : List Reduction) : Type 0 where
  pub some : listed ≢ []
  pub once : AllPairs (λ a b. a ≢ b) listed
  pub text_is : text ≡ text_of listed

-- It is a list of those that are left out.
pub record IsListed (text : List ℕ) (without : Without) : Type 0 where
  pub listed : List Reduction
  pub is : IsListOf text listed
  pub all : (reduction : Reduction) → (has without reduction ≡ true) ↔ Contains listed reduction

-- It is no list.
abbrev pub IsNoList : List ℕ → Type 0
IsNoList text = (listed : List Reduction) → IsListOf text listed → ⊥
