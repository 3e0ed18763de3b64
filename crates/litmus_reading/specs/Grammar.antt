-- How conditions are written. [herd's conditions: `~` binds most, then `/\`, `\/`, `=>` to the right; that
-- `<=>` binds least is this project's own choice]
use Rattle.std.specs.Prelude.{◌≡◌, ℕ, ◌+◌, ◌≤◌, ◌<◌, max, List, [], ◌∷◌, ◌++◌}
use Rattle.litmus_tests.specs.declared.condition.Term.{Term}
use Rattle.litmus_tests.specs.declared.condition.Condition.{Condition, Always, Holds, Not', Both', Either', Implies', Equivalent'}
use Rattle.litmus_words.specs.declared.word.Word.{Word}
use Rattle.litmus_words.specs.declared.word.Token.{Token}
use Rattle.litmus_words.specs.declared.word.Token.TheVariants.{Mark}
use Rattle.litmus_words.specs.declared.word.Mark.TheVariants as mark
use Rattle.litmus_words.specs.Parts.{SpellsObserved, SpellsValue}
use Rattle.litmus_words.specs.Tokens.{Takes}
use Rattle.litmus_reading.specs.Fitting.{FitsIn, IsThere, width_at}

-- How many terms and `true` a condition may have, and how many levels may be nested in it. [this project's limits]
abbrev pub most_terms : ℕ
most_terms = 32

abbrev pub most_nested : ℕ
most_nested = 16

-- What is looked at, `=` or `!=`, and the value.
pub record SpellsTerm (sign : Token) (text : List Token) (term : Term) : Type 0 where
  pub left : List Token
  pub right : List Token
  pub spelled : text ≡ left ++ sign ∷ right
  pub observed : SpellsObserved left term.observed
  pub value : SpellsValue right term.value
  pub wide : term.width ≡ width_at left
  pub fits : FitsIn term.width right term.value

-- It stands before the rest.
pub record TermTaken (sign : Token) (words : List Word) (term : Term) (rest : List Word) : Type 0 where
  pub text : List Token
  pub spells : SpellsTerm sign text term
  pub takes : Takes words text rest

-- A condition with its parentheses. A leaf has the tokens of a term, and so has a differing one, with `!=` in it.
pub data Syntax : Type 0 where
  leaf : List Token → Syntax
  differing : List Token → Syntax
  always : Syntax
  negated : Syntax → Syntax
  grouped : Syntax → Syntax
  conjunction : Syntax → Syntax → Syntax
  disjunction : Syntax → Syntax → Syntax
  implication : Syntax → Syntax → Syntax
  equivalence : Syntax → Syntax → Syntax

-- Its tokens.
abbrev pub text_of : Syntax → List Token
text_of (leaf text) = text
text_of (differing text) = text
text_of always = Mark mark.True ∷ []
text_of (negated inner) = Mark mark.Not ∷ text_of inner
text_of (grouped inner) = Mark mark.LeftParenthesis ∷ text_of inner ++ Mark mark.RightParenthesis ∷ []
text_of (conjunction left right) = text_of left ++ Mark mark.And ∷ text_of right
text_of (disjunction left right) = text_of left ++ Mark mark.Or ∷ text_of right
text_of (implication left right) = text_of left ++ Mark mark.Implies ∷ text_of right
text_of (equivalence left right) = text_of left ++ Mark mark.Equivalent ∷ text_of right

-- What stands alone (level 0), what `/\` joins (1), `\/` (2), `=>` (3) and `<=>` (4): a lower level stands at a
-- higher one, and all stand in parentheses.
abbrev pub IsAtLevel : ℕ → Syntax → Type 0
IsAtLevel level (leaf text) = Unit {0}
IsAtLevel level (differing text) = Unit {0}
IsAtLevel level always = Unit {0}
IsAtLevel level (negated inner) = IsAtLevel 0 inner
IsAtLevel level (grouped inner) = IsAtLevel 4 inner
IsAtLevel level (conjunction left right) = (1 ≤ level) × IsAtLevel 1 left × IsAtLevel 0 right
IsAtLevel level (disjunction left right) = (2 ≤ level) × IsAtLevel 2 left × IsAtLevel 1 right
IsAtLevel level (implication left right) = (3 ≤ level) × IsAtLevel 2 left × IsAtLevel 3 right
IsAtLevel level (equivalence left right) = (4 ≤ level) × IsAtLevel 4 left × IsAtLevel 3 right

-- The condition that it is.
abbrev pub Means : Syntax → Condition → Type 0
Means (leaf text) (Holds term) = SpellsTerm (Mark mark.Equals) text term
Means (differing text) (Not' p condition) = (term : Term) × (condition ≡ Holds term)
    × SpellsTerm (Mark mark.Differs) text term
Means always Always = Unit {0}
Means (negated inner) (Not' p condition) = Means inner condition
Means (grouped inner) condition = Means inner condition
Means (conjunction left right) (Both' p first q second) = Means left first × Means right second
Means (disjunction left right) (Either' p first q second) = Means left first × Means right second
Means (implication left right) (Implies' p first q second) = Means left first × Means right second
Means (equivalence left right) (Equivalent' p first q second) = Means left first × Means right second
Means syntax condition = ⊥

-- How many terms and `true` it has, and how many levels of `not` and parentheses are nested in it.
abbrev pub leaves_of : Syntax → ℕ
leaves_of (leaf text) = 1
leaves_of (differing text) = 1
leaves_of always = 1
leaves_of (negated inner) = leaves_of inner
leaves_of (grouped inner) = leaves_of inner
leaves_of (conjunction left right) = leaves_of left + leaves_of right
leaves_of (disjunction left right) = leaves_of left + leaves_of right
leaves_of (implication left right) = leaves_of left + leaves_of right
leaves_of (equivalence left right) = leaves_of left + leaves_of right

abbrev pub nesting_of : Syntax → ℕ
nesting_of (leaf text) = 0
nesting_of (differing text) = 0
nesting_of always = 0
nesting_of (negated inner) = nesting_of inner + 1
nesting_of (grouped inner) = nesting_of inner + 1
nesting_of (conjunction left right) = max (nesting_of left) (nesting_of right)
nesting_of (disjunction left right) = max (nesting_of left) (nesting_of right)
nesting_of (implication left right) = max (nesting_of left) (nesting_of right)
nesting_of (equivalence left right) = max (nesting_of left) (nesting_of right)

-- What its terms look at is there.
abbrev pub AreThere : ℕ → Condition → Type 0
AreThere harts Always = Unit {0}
AreThere harts (Holds term) = IsThere harts term.observed
AreThere harts (Not' p inner) = AreThere harts inner
AreThere harts (Both' p first q second) = AreThere harts first × AreThere harts second
AreThere harts (Either' p first q second) = AreThere harts first × AreThere harts second
AreThere harts (Implies' p first q second) = AreThere harts first × AreThere harts second
AreThere harts (Equivalent' p first q second) = AreThere harts first × AreThere harts second

-- What goes on with a condition of which level: an index and an offset with what stands alone.
abbrev pub goes_on_with : Token → ℕ
goes_on_with (Mark mark.LeftBracket) = 0
goes_on_with (Mark mark.Plus) = 0
goes_on_with (Mark mark.And) = 1
goes_on_with (Mark mark.Or) = 2
goes_on_with (Mark mark.Implies) = 3
goes_on_with (Mark mark.Equivalent) = 4
goes_on_with token = 5

abbrev pub IsOver : ℕ → List Word → Type 0
IsOver level [] = Unit {0}
IsOver level (word ∷ words) = level < goes_on_with word.token

-- A condition can be read to its end: it isn't too long and not too deep, and what stands behind it is no part of it.
pub record CanBeRead (harts level room count : ℕ) (words : List Word) (syntax : Syntax) (condition : Condition)
    (rest : List Word) : Type 0 where
  pub stands : IsAtLevel level syntax
  pub means : Means syntax condition
  pub takes : Takes words (text_of syntax) rest
  pub few : count + leaves_of syntax ≤ most_terms
  pub shallow : nesting_of syntax ≤ room
  pub there : AreThere harts condition
  pub over : IsOver level rest

-- Conditions that say the same.
abbrev pub IsSame : Condition → Condition → Type 0
IsSame Always Always = Unit {0}
IsSame (Holds term) (Holds other) = term ≡ other
IsSame (Not' p inner) (Not' q other) = IsSame inner other
IsSame (Both' p a q b) (Both' r c s d) = IsSame a c × IsSame b d
IsSame (Either' p a q b) (Either' r c s d) = IsSame a c × IsSame b d
IsSame (Implies' p a q b) (Implies' r c s d) = IsSame a c × IsSame b d
IsSame (Equivalent' p a q b) (Equivalent' r c s d) = IsSame a c × IsSame b d
IsSame condition other = ⊥

-- What is read of it, when so many leaves had been read.
pub record IsReadAs (count : ℕ) (syntax : Syntax) (condition : Condition) (rest : List Word) (found : Condition)
    (behind : List Word) (now : ℕ) : Type 0 where
  pub same : IsSame found condition
  pub left : behind ≡ rest
  pub counted : now ≡ count + leaves_of syntax

-- A condition of a level stands before the rest of the words. With the leaves before it there are so many, which aren't
-- too many, it isn't nested deeper than there is room, and what it looks at is there.
pub record ConditionTaken (harts level room count : ℕ) (words : List Word) (condition : Condition) (rest : List Word)
    (now : ℕ) : Type 0 where
  pub syntax : Syntax
  pub stands : IsAtLevel level syntax
  pub means : Means syntax condition
  pub takes : Takes words (text_of syntax) rest
  pub counted : now ≡ count + leaves_of syntax
  pub few : now ≤ most_terms
  pub shallow : nesting_of syntax ≤ room
  pub there : AreThere harts condition

-- A whole condition, before which no leaf was read.
pub record WholeCondition (harts : ℕ) (words : List Word) (condition : Condition) (rest : List Word) : Type 0 where
  pub leaves : ℕ
  pub taken : ConditionTaken harts 4 most_nested 0 words condition rest leaves

-- A condition that is made of these.
abbrev pub IsNegation : Condition → Condition → Type 0
IsNegation inner (Not' p condition) = condition ≡ inner
IsNegation inner condition = ⊥

abbrev pub IsConjunction : Condition → Condition → Condition → Type 0
IsConjunction left right (Both' p first q second) = (first ≡ left) × (second ≡ right)
IsConjunction left right condition = ⊥

abbrev pub IsDisjunction : Condition → Condition → Condition → Type 0
IsDisjunction left right (Either' p first q second) = (first ≡ left) × (second ≡ right)
IsDisjunction left right condition = ⊥

abbrev pub IsImplication : Condition → Condition → Condition → Type 0
IsImplication left right (Implies' p first q second) = (first ≡ left) × (second ≡ right)
IsImplication left right condition = ⊥

abbrev pub IsEquivalence : Condition → Condition → Condition → Type 0
IsEquivalence left right (Equivalent' p first q second) = (first ≡ left) × (second ≡ right)
IsEquivalence left right condition = ⊥
