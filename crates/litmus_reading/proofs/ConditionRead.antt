-- A condition that can be read: which piece comes first, and what is read of it.
use Rattle.std.proofs.Common.{◌≡◌, ℕ, ◌+◌, ◌≤◌, ◌<◌, List, [], ◌∷◌, ◌++◌, Result, Ok, Err, refl, sym, ap, ◌∙◌, subst, inl, inr, arith}
use Rattle.std.specs.Prelude.{◌≢◌}
use Rattle.litmus_tests.specs.declared.condition.Term.{Term}
use Rattle.litmus_tests.specs.declared.condition.Observed.{Observed}
use Rattle.litmus_tests.specs.declared.condition.Observed.TheVariants as observed
use Rattle.litmus_tests.specs.declared.condition.Condition.{Condition, Always, Holds, Not', Both', Either', Implies', Equivalent'}
use denote.Bor.{Bor}
use Rattle.litmus_words.specs.Answered.{GivesOrMemory}
use Rattle.litmus_words.specs.declared.refused.Stop.{Stop}
use Rattle.litmus_words.specs.declared.refused.Stop.TheVariants.{Memory, Fault}
use Rattle.litmus_words.specs.declared.word.{Word.Word, Declared.Declared}
use Rattle.litmus_words.specs.declared.word.Token.{Token}
use Rattle.litmus_words.specs.declared.word.Token.TheVariants.{Location, Number, Register, Mark}
use Rattle.litmus_words.specs.declared.word.Mark.TheVariants as mark
use Rattle.litmus_words.specs.Parts.{NoIndex, NoOffset, SpellsIndex, SpellsObserved}
use Rattle.litmus_words.specs.Tokens.{Takes}
use Rattle.litmus_words.proofs.Taking.{same_first, same_rest}
use Rattle.litmus_reading.specs.Fitting.{IsThere}
use Rattle.litmus_reading.specs.Grammar.{Syntax, leaf, differing, always, negated, grouped, conjunction, disjunction, implication, equivalence}
use Rattle.litmus_reading.specs.Grammar.{AreThere, CanBeRead, IsNegation, IsOver, IsReadAs, IsSame, SpellsTerm, TermTaken, goes_on_with, leaves_of, most_terms}

-- what stands behind is no part of a value
no_less : 0 < 0 → ⊥
no_less h = absurd (omega (arith, h))

pub over_index : (rest : List Word) → IsOver 0 rest → NoIndex rest
over_index [] over = tt
over_index (word ∷ words) over = λ is. no_less (subst (λ (t : Token). 0 < goes_on_with t) is over)

pub over_offset : (rest : List Word) → IsOver 0 rest → NoOffset rest
over_offset [] over = tt
over_offset (word ∷ words) over = λ is. no_less (subst (λ (t : Token). 0 < goes_on_with t) is over)

pub some_leaf : (syntax : Syntax) → 1 ≤ leaves_of syntax
some_leaf (leaf text) = omega arith
some_leaf (differing text) = omega arith
some_leaf always = omega arith
some_leaf (negated inner) = some_leaf inner
some_leaf (grouped inner) = some_leaf inner
some_leaf (conjunction left right) = let one = some_leaf left in omega (arith, one)
some_leaf (disjunction left right) = let one = some_leaf left in omega (arith, one)
some_leaf (implication left right) = let one = some_leaf left in omega (arith, one)
some_leaf (equivalence left right) = let one = some_leaf left in omega (arith, one)

pub few_leaves : (harts level room count : ℕ) (words : List Word) (syntax : Syntax) (condition : Condition)
    (rest : List Word) → CanBeRead harts level room count words syntax condition rest → count < most_terms
few_leaves harts level room count words syntax condition rest it =
    let one = some_leaf syntax in let few = it.few in omega (arith, one, few)

-- an answer in other words
pub memory_so : {A : Type 0} (result : Result A Stop) (P Q : A → Type 0) → ((x : A) → P x → Q x)
    → GivesOrMemory result P → GivesOrMemory result Q
memory_so {A} (Ok x) P Q on it = on x it
memory_so {A} (Err Memory) P Q on it = tt
memory_so {A} (Err (Fault at fault)) P Q on it = it

-- a term begins with no mark of a condition
index_first : (declared : Declared) (index : ℕ) (text : List Token) → SpellsIndex declared text index
    → (first : Token) × (more : List Token) × (text ≡ first ∷ more)
    × (first ≢ Mark mark.True) × (first ≢ Mark mark.Not) × (first ≢ Mark mark.LeftParenthesis)
index_first declared index text (inl alone) =
    (Location declared, [], alone.0, (λ e. cc), (λ e. cc), (λ e. cc))
index_first declared index text (inr (inl bracketed)) = (
  Mark mark.LeftBracket,
  Location declared ∷ Mark mark.RightBracket ∷ [],
  bracketed.0,
  (λ e. cc),
  (λ e. cc),
  (λ e. cc),
)
index_first declared index text (inr (inr element)) = (
  Location declared,
  Mark mark.LeftBracket ∷ Number element.0 ∷ Mark mark.RightBracket ∷ [],
  element.1,
  (λ e. cc),
  (λ e. cc),
  (λ e. cc),
)

observed_first : (one : Observed) (text : List Token) → SpellsObserved text one
    → (first : Token) × (more : List Token) × (text ≡ first ∷ more)
    × (first ≢ Mark mark.True) × (first ≢ Mark mark.Not) × (first ≢ Mark mark.LeftParenthesis)
observed_first (observed.Register hart register) text is =
    (Number hart, Mark mark.Colon ∷ Register register ∷ [], is, (λ e. cc), (λ e. cc), (λ e. cc))
observed_first (observed.Location index) text is = index_first is.declared index text is.spelled

pub record TermFirst (text : List Token) : Type 0 where
  pub first : Token
  pub more : List Token
  pub is : text ≡ first ∷ more
  pub no_truth : first ≢ Mark mark.True
  pub no_negation : first ≢ Mark mark.Not
  pub no_parenthesis : first ≢ Mark mark.LeftParenthesis

pub term_first : (sign : Token) (text : List Token) (term : Term) → SpellsTerm sign text term → TermFirst text
term_first sign text term spells =
    let it = observed_first term.observed spells.left spells.observed in
    record {
      first = it.0;
      more = it.1 ++ sign ∷ spells.right;
      is = spells.spelled ∙ ap (λ (t : List Token). t ++ sign ∷ spells.right) it.2;
      no_truth = it.3;
      no_negation = it.4;
      no_parenthesis = it.5;
    }

pub no_term : (words behind rest : List Word) (one : Token) (text : List Token) (it : TermFirst text)
    → Takes words (one ∷ []) behind → Takes words text rest → it.first ≢ one → ⊥
no_term words behind rest one text it first takes other =
    other (sym (same_first words behind rest one it.first it.more first
    (subst (λ (t : List Token). Takes words t rest) it.is takes)))

-- `true`
pub truth_read : (harts count now : ℕ) (words behind rest : List Word) (syntax : Syntax) (condition : Condition)
    → Takes words (Mark mark.True ∷ []) behind → CanBeRead harts 0 0 count words syntax condition rest
    → now ≡ count + 1 → IsReadAs count syntax condition rest Always behind now
truth_read harts count now words behind rest always Always first it counted =
    record { same = tt; left = same_rest words behind rest (Mark mark.True ∷ []) first it.takes; counted = counted }
truth_read harts count now words behind rest always (Holds term) first it counted = absurd it.means
truth_read harts count now words behind rest always (Not' p a) first it counted = absurd it.means
truth_read harts count now words behind rest always (Both' p a q b) first it counted = absurd it.means
truth_read harts count now words behind rest always (Either' p a q b) first it counted = absurd it.means
truth_read harts count now words behind rest always (Implies' p a q b) first it counted = absurd it.means
truth_read harts count now words behind rest always (Equivalent' p a q b) first it counted = absurd it.means
truth_read harts count now words behind rest (leaf text) (Holds term) first it counted =
    let at = term_first (Mark mark.Equals) text term it.means in
    absurd (no_term words behind rest (Mark mark.True) text at first it.takes at.no_truth)
truth_read harts count now words behind rest (leaf text) condition first it counted = absurd it.means
truth_read harts count now words behind rest (differing text) (Not' p inner) first it counted =
    let at = term_first (Mark mark.Differs) text it.means.0 it.means.2 in
    absurd (no_term words behind rest (Mark mark.True) text at first it.takes at.no_truth)
truth_read harts count now words behind rest (differing text) condition first it counted = absurd it.means
truth_read harts count now words behind rest (negated inner) condition first it counted =
    let deep = it.shallow in absurd (omega (arith, deep))
truth_read harts count now words behind rest (grouped inner) condition first it counted =
    let deep = it.shallow in absurd (omega (arith, deep))
truth_read harts count now words behind rest (conjunction left right) condition first it counted =
    let level = it.stands.0 in absurd (omega (arith, level))
truth_read harts count now words behind rest (disjunction left right) condition first it counted =
    let level = it.stands.0 in absurd (omega (arith, level))
truth_read harts count now words behind rest (implication left right) condition first it counted =
    let level = it.stands.0 in absurd (omega (arith, level))
truth_read harts count now words behind rest (equivalence left right) condition first it counted =
    let level = it.stands.0 in absurd (omega (arith, level))

-- a term
holds_same : (found : Condition) (term : Term) → found ≡ Holds term → IsSame found (Holds term)
holds_same found term is = subst (λ (c : Condition). IsSame c (Holds term)) (sym is) refl

same_negation : (found whole : Condition) (term : Term) → IsNegation (Holds term) found
    → IsNegation (Holds term) whole → IsSame found whole
same_negation (Not' q other) (Not' b inner) term is so =
    subst (λ (c : Condition). IsSame other c) (sym so) (holds_same other term is)
same_negation (Not' q other) Always term is so = absurd so
same_negation (Not' q other) (Holds held) term is so = absurd so
same_negation (Not' n other) (Both' p a q c) term is so = absurd so
same_negation (Not' n other) (Either' p a q c) term is so = absurd so
same_negation (Not' n other) (Implies' p a q c) term is so = absurd so
same_negation (Not' n other) (Equivalent' p a q c) term is so = absurd so
same_negation Always whole term is so = absurd is
same_negation (Holds held) whole term is so = absurd is
same_negation (Both' p a q c) whole term is so = absurd is
same_negation (Either' p a q c) whole term is so = absurd is
same_negation (Implies' p a q c) whole term is so = absurd is
same_negation (Equivalent' p a q c) whole term is so = absurd is

there_of : (harts : ℕ) (inner : Condition) (term : Term) → inner ≡ Holds term → AreThere harts inner
    → IsThere harts term.observed
there_of harts inner term is there = subst (AreThere harts) is there

abbrev pub Equal : ℕ → ℕ → ℕ → List Word → Result (Condition × Bor (List Word)) Stop → Type 0
Equal harts count now words result = (term : Term) → (rest : List Word)
    → TermTaken (Mark mark.Equals) words term rest → IsThere harts term.observed → NoIndex rest → NoOffset rest
    → count < most_terms → GivesOrMemory result (λ p. (p.0 ≡ Holds term) × (p.1.now ≡ rest) × (now ≡ count + 1))

abbrev pub Other : ℕ → ℕ → ℕ → List Word → Result (Condition × Bor (List Word)) Stop → Type 0
Other harts count now words result = (term : Term) → (rest : List Word)
    → TermTaken (Mark mark.Differs) words term rest → IsThere harts term.observed → NoIndex rest → NoOffset rest
    → count < most_terms → GivesOrMemory result
    (λ p. IsNegation (Holds term) p.0 × (p.1.now ≡ rest) × (now ≡ count + 1))

pub term_read : (harts count now : ℕ) (words : List Word) (result : Result (Condition × Bor (List Word)) Stop)
    → Equal harts count now words result → Other harts count now words result
    → ((rest : List Word) → Takes words (Mark mark.True ∷ []) rest → ⊥)
    → (syntax : Syntax) (condition : Condition) (rest : List Word)
    → CanBeRead harts 0 0 count words syntax condition rest
    → GivesOrMemory result (λ p. IsReadAs count syntax condition rest p.0 p.1.now now)
term_read harts count now words result equal other no_truth (leaf text) (Holds term) rest it =
    memory_so result _ _
    (λ p read. record { same = holds_same p.0 term read.0; left = read.1; counted = read.2 })
    (equal term rest (record { text = text; spells = it.means; takes = it.takes }) it.there
    (over_index rest it.over) (over_offset rest it.over)
    (few_leaves harts 0 0 count words (leaf text) (Holds term) rest it))
term_read harts count now words result equal other no_truth (leaf text) condition rest it = absurd it.means
term_read harts count now words result equal other no_truth (differing text) (Not' b inner) rest it =
    memory_so result _ _
    (λ p read. record {
      same = same_negation p.0 (Not' b inner) it.means.0 read.0 it.means.1;
      left = read.1;
      counted = read.2;
    })
    (other it.means.0 rest (record { text = text; spells = it.means.2; takes = it.takes })
    (there_of harts inner it.means.0 it.means.1 it.there)
    (over_index rest it.over) (over_offset rest it.over)
    (few_leaves harts 0 0 count words (differing text) (Not' b inner) rest it))
term_read harts count now words result equal other no_truth (differing text) condition rest it = absurd it.means
term_read harts count now words result equal other no_truth always condition rest it =
    absurd (no_truth rest it.takes)
term_read harts count now words result equal other no_truth (negated inner) condition rest it =
    let deep = it.shallow in absurd (omega (arith, deep))
term_read harts count now words result equal other no_truth (grouped inner) condition rest it =
    let deep = it.shallow in absurd (omega (arith, deep))
term_read harts count now words result equal other no_truth (conjunction left right) condition rest it =
    let level = it.stands.0 in absurd (omega (arith, level))
term_read harts count now words result equal other no_truth (disjunction left right) condition rest it =
    let level = it.stands.0 in absurd (omega (arith, level))
term_read harts count now words result equal other no_truth (implication left right) condition rest it =
    let level = it.stands.0 in absurd (omega (arith, level))
term_read harts count now words result equal other no_truth (equivalence left right) condition rest it =
    let level = it.stands.0 in absurd (omega (arith, level))
