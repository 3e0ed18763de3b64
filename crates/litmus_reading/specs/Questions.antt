-- What stands behind the rows: `locations [..]` and `filter C`, in either order and each once at the most, and the
-- question. Where the locations are listed, it may be left out, and is `forall (true)` then.
use Rattle.std.specs.Prelude.{◌≡◌, ◌≢◌, ◌⊎◌, ℕ, zero, suc, ◌+◌, Bool, true, false, List, [], ◌∷◌, ◌++◌}
use Rattle.litmus_tests.specs.declared.condition.Condition.{Condition, Always}
use Rattle.litmus_tests.specs.declared.condition.Observed.{Observed}
use Rattle.litmus_tests.specs.declared.condition.Observed.TheVariants as observed
use Rattle.litmus_tests.specs.declared.condition.Quantifier.{Quantifier}
use Rattle.litmus_tests.specs.declared.condition.Quantifier.TheVariants.{Exists, NotExists, ForAll}
use Rattle.litmus_words.specs.declared.word.{Word.Word, Declared.Declared}
use Rattle.litmus_words.specs.declared.word.Token.{Token}
use Rattle.litmus_words.specs.declared.word.Token.TheVariants.{Location, Mark as mark_token}
use Rattle.litmus_words.specs.declared.word.Mark.{Mark}
use Rattle.litmus_words.specs.declared.word.Mark.TheVariants as mark
use Rattle.litmus_words.specs.Parts.{SpellsObserved}
use Rattle.litmus_words.specs.Tokens.{Takes}
use Rattle.litmus_reading.specs.Fitting.{IsThere}
use Rattle.litmus_reading.specs.Grammar.{WholeCondition}
use Rattle.litmus_reading.specs.Names.{elements_of}

abbrev pub quantifier_tokens : Quantifier → List Token
quantifier_tokens Exists = mark_token mark.Exists ∷ []
quantifier_tokens NotExists = mark_token mark.Not ∷ mark_token mark.Exists ∷ []
quantifier_tokens ForAll = mark_token mark.ForAll ∷ []

-- So many locations, from this one on.
abbrev pub elements_from : ℕ → ℕ → List Observed
elements_from zero first = []
elements_from (suc more) first = observed.Location first ∷ elements_from more (first + 1)

-- What is listed: what a term can look at, or an array by its name alone, which lists each of its elements. Arrays
-- that are listed so are kept by the index of their first element.
pub record SpellsOne (harts : ℕ) (text : List Token) (listed : List Observed) (whole : List ℕ) : Type 0 where
  pub one : Observed
  pub spelled : SpellsObserved text one
  pub there : IsThere harts one
  pub lists : listed ≡ one ∷ []
  pub none : whole ≡ []

pub record SpellsWhole (text : List Token) (listed : List Observed) (whole : List ℕ) : Type 0 where
  pub declared : Declared
  pub spelled : text ≡ Location declared ∷ []
  pub array : declared.is_array ≡ true
  pub elements : listed ≡ elements_from (elements_of declared) declared.first
  pub first : whole ≡ declared.first ∷ []

abbrev pub SpellsItem : ℕ → List Token → List Observed → List ℕ → Type 0
SpellsItem harts text listed whole = SpellsOne harts text listed whole ⊎ SpellsWhole text listed whole

pub record WholeTaken (words : List Word) (declared : Declared) (rest : List Word) : Type 0 where
  pub array : declared.is_array ≡ true
  pub takes : Takes words (Location declared ∷ []) rest

-- One stands before the rest, and what it lists is behind what is listed so far.
pub record ItemTaken (harts : ℕ) (words : List Word) (before : List Observed) (whole_before : List ℕ)
    (after : List Observed) (whole_after : List ℕ) (rest : List Word) : Type 0 where
  pub text : List Token
  pub listed : List Observed
  pub whole : List ℕ
  pub spells : SpellsItem harts text listed whole
  pub added : after ≡ before ++ listed
  pub added_whole : whole_after ≡ whole_before ++ whole
  pub takes : Takes words text rest

-- `0:x7; x;`, of which the last may have no `;`.
pub data AreListed (harts : ℕ) : List Observed → List ℕ → List Token → Type 0 where
  listed_none : AreListed harts [] [] []
  listed_last : (text : List Token) (listed : List Observed) (whole : List ℕ) → SpellsItem harts text listed whole
      → AreListed harts listed whole text
  listed_more : (text others : List Token) (listed further : List Observed) (whole further_whole : List ℕ)
      → SpellsItem harts text listed whole → AreListed harts further further_whole others
      → AreListed harts (listed ++ further) (whole ++ further_whole) (text ++ mark_token mark.Semicolon ∷ others)

-- These, up to the bracket, stand before the rest.
pub record ListedTaken (harts : ℕ) (words : List Word) (listed : List Observed) (whole : List ℕ) (rest : List Word)
    : Type 0 where
  pub text : List Token
  pub spells : AreListed harts listed whole text
  pub takes : Takes words (text ++ mark_token mark.RightBracket ∷ []) rest

pub record ListTaken (harts : ℕ) (words : List Word) (listed : List Observed) (whole : List ℕ) (rest : List Word)
    : Type 0 where
  pub inside : List Word
  pub opens : Takes words (mark_token mark.Locations ∷ mark_token mark.LeftBracket ∷ []) inside
  pub are : ListedTaken harts inside listed whole rest

pub record FilterTaken (harts : ℕ) (words : List Word) (filter : Condition) (rest : List Word) : Type 0 where
  pub behind : List Word
  pub begins : Takes words (mark_token mark.Filter ∷ []) behind
  pub condition : WholeCondition harts behind filter rest

-- Each of them where it stands; no filter is `true`.
abbrev pub MayList : ℕ → List Word → Bool → List Observed → List ℕ → List Word → Type 0
MayList harts words has listed whole rest = ((has ≡ false) × (listed ≡ []) × (whole ≡ []) × (words ≡ rest))
    ⊎ ((has ≡ true) × ListTaken harts words listed whole rest)

abbrev pub MayFilter : ℕ → List Word → Condition → List Word → Type 0
MayFilter harts words filter rest = ((filter ≡ Always) × (words ≡ rest)) ⊎ FilterTaken harts words filter rest

abbrev pub IsBefore : ℕ → List Word → Bool → List Observed → List ℕ → Condition → List Word → Type 0
IsBefore harts words has listed whole filter rest = (between : List Word)
    × ((MayList harts words has listed whole between × MayFilter harts between filter rest)
    ⊎ (FilterTaken harts words filter between × MayList harts between has listed whole rest))

-- A quantifier, and a condition with nothing behind it.
pub record IsAsked (harts : ℕ) (words : List Word) (quantifier : Quantifier) (condition : Condition) : Type 0 where
  pub behind : List Word
  pub begins : Takes words (quantifier_tokens quantifier) behind
  pub asks : WholeCondition harts behind condition []

abbrev pub IsAskedAfter : ℕ → Bool → List Word → Quantifier → Condition → Type 0
IsAskedAfter harts has words quantifier condition = IsAsked harts words quantifier condition
    ⊎ ((has ≡ true) × (words ≡ []) × (quantifier ≡ ForAll) × (condition ≡ Always))

pub record SpellsQuestion (harts : ℕ) (words : List Word) (quantifier : Quantifier) (condition filter : Condition)
    (listed : List Observed) (whole : List ℕ) : Type 0 where
  pub has : Bool
  pub rest : List Word
  pub before : IsBefore harts words has listed whole filter rest
  pub asked : IsAskedAfter harts has rest quantifier condition

-- Words that don't begin with this mark.
abbrev pub BeginsOther : Mark → List Word → Type 0
BeginsOther sign [] = Unit {0}
BeginsOther sign (word ∷ words) = word.token ≢ mark_token sign
