-- The tokens of words, and which registers and locations they can name.
use Rattle.std.specs.Prelude.{◌≡◌, ℕ, ◌<◌, List, [], ◌∷◌, ◌++◌}
use Rattle.litmus_words.specs.declared.word.Word.{Word}
use Rattle.litmus_words.specs.declared.word.Token.{Token}
use Rattle.litmus_words.specs.declared.word.Token.TheVariants.{Register, Location}

abbrev pub tokens : List Word → List Token
tokens [] = []
tokens (word ∷ others) = word.token ∷ tokens others

-- The register is one, and the location is one of so many.
abbrev pub IsTokenOf : ℕ → Token → Type 0
IsTokenOf locations (Register register) = register < 32
IsTokenOf locations (Location declared) = declared.first < locations
IsTokenOf locations token = Unit {0}

abbrev pub AreTokensOf : ℕ → List Token → Type 0
AreTokensOf locations [] = Unit {0}
AreTokensOf locations (token ∷ others) = IsTokenOf locations token × AreTokensOf locations others

-- The same of words.
pub record AreWordsOf (locations : ℕ) (words : List Word) : Type 0 where
  pub are : AreTokensOf locations (tokens words)

-- These tokens are those of the first words, and the rest stand behind.
abbrev pub Begin : List Token → List Word → List Word → Type 0
Begin [] words rest = words ≡ rest
Begin (token ∷ taken) [] rest = ⊥
Begin (token ∷ taken) (word ∷ words) rest = (word.token ≡ token) × Begin taken words rest

-- These tokens stand before the rest of the words. What follows of all tokens is said beside it.
pub record Takes (words : List Word) (taken : List Token) (rest : List Word) : Type 0 where
  pub so : Begin taken words rest
  pub spelled : tokens words ≡ taken ++ tokens rest
