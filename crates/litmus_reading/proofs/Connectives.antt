-- The three connectives that join from the left, and of a condition that one of them joins the first part.
use Rattle.std.proofs.Common.{ℕ, ◌≤◌, refl, sym, subst, arith}
use Rattle.litmus_tests.specs.declared.condition.Condition.{Condition, Always, Holds, Not', Both', Either', Implies', Equivalent'}
use Rattle.litmus_words.specs.declared.word.Mark.TheVariants as mark
use Rattle.litmus_reading.specs.Grammar.{Syntax, leaf, differing, always, negated, grouped, conjunction, disjunction, implication, equivalence}
use Rattle.litmus_reading.specs.Grammar.{AreThere, IsAtLevel, IsConjunction, IsDisjunction, IsEquivalence, IsSame, Means, nesting_of}
use Rattle.litmus_reading.proofs.Chained.{Connective, FirstOf, IsConnective, first_of_left, only_first}

-- `/\`
conjoins_means : (left right : Syntax) (whole : Condition) → Means (conjunction left right) whole
    → (a : Condition) × (b : Condition) × Means left a × Means right b × IsConjunction a b whole
conjoins_means left right (Both' p c q d) it = (c, d, it.0, it.1, (refl, refl))
conjoins_means left right Always it = absurd it
conjoins_means left right (Holds term) it = absurd it
conjoins_means left right (Not' p c) it = absurd it
conjoins_means left right (Either' p c q d) it = absurd it
conjoins_means left right (Implies' p c q d) it = absurd it
conjoins_means left right (Equivalent' p c q d) it = absurd it

conjoins_there : (harts : ℕ) (a b whole : Condition) → IsConjunction a b whole → AreThere harts whole
    → AreThere harts a × AreThere harts b
conjoins_there harts a b (Both' p c q d) it there =
    (subst (AreThere harts) it.0 there.0, subst (AreThere harts) it.1 there.1)
conjoins_there harts a b Always it there = absurd it
conjoins_there harts a b (Holds term) it there = absurd it
conjoins_there harts a b (Not' p c) it there = absurd it
conjoins_there harts a b (Either' p c q d) it there = absurd it
conjoins_there harts a b (Implies' p c q d) it there = absurd it
conjoins_there harts a b (Equivalent' p c q d) it there = absurd it

conjoins_same : (a b whole c d other : Condition) → IsConjunction a b whole → IsConjunction c d other → IsSame a c → IsSame b d
    → IsSame whole other
conjoins_same a b (Both' p e q f) c d (Both' r g s h) it is first second = (
  subst (λ (x : Condition). IsSame x g) (sym it.0) (subst (λ (x : Condition). IsSame a x) (sym is.0) first),
  subst (λ (x : Condition). IsSame x h) (sym it.1) (subst (λ (x : Condition). IsSame b x) (sym is.1) second),
)
conjoins_same a b (Both' p e q f) c d Always it is first second = absurd is
conjoins_same a b (Both' p e q f) c d (Holds term) it is first second = absurd is
conjoins_same a b (Both' p e q f) c d (Not' r g) it is first second = absurd is
conjoins_same a b (Both' p e q f) c d (Either' r g s h) it is first second = absurd is
conjoins_same a b (Both' p e q f) c d (Implies' r g s h) it is first second = absurd is
conjoins_same a b (Both' p e q f) c d (Equivalent' r g s h) it is first second = absurd is
conjoins_same a b Always c d other it is first second = absurd it
conjoins_same a b (Holds held) c d other it is first second = absurd it
conjoins_same a b (Not' m e) c d other it is first second = absurd it
conjoins_same a b (Either' m e n f) c d other it is first second = absurd it
conjoins_same a b (Implies' m e n f) c d other it is first second = absurd it
conjoins_same a b (Equivalent' m e n f) c d other it is first second = absurd it

abbrev pub conjoins : Connective
conjoins = record { join = conjunction; Joins = IsConjunction; sign = mark.And; level = 1; low = 0 }

pub conjoins_so : IsConnective conjoins
conjoins_so = record {
  higher = omega arith;
  sign_level = refl;
  text = λ left right. refl;
  leaves = λ left right. refl;
  nests_left = λ left right. omega arith;
  nests_right = λ left right. omega arith;
  stands_left = λ left right stands. stands.1;
  stands_right = λ left right stands. stands.2;
  means = conjoins_means;
  there = conjoins_there;
  same = conjoins_same;
}

pub conjoins_first : (harts room : ℕ) (syntax : Syntax) (whole : Condition) → IsAtLevel 1 syntax → Means syntax whole
    → nesting_of syntax ≤ room → AreThere harts whole → FirstOf conjoins conjoins_so harts room syntax whole
conjoins_first harts room (conjunction left right) whole stands means nests there =
    let parts = conjoins_means left right whole means in
    let both = conjoins_there harts parts.0 parts.1 whole parts.4 there in
    first_of_left conjoins conjoins_so harts room left right parts.0 parts.1 whole
    (conjoins_first harts room left parts.0 stands.1 parts.2 (omega (arith, nests)) both.0) parts.3 parts.4 stands.2
    (omega (arith, nests)) both.1
conjoins_first harts room (leaf text) whole stands means nests there =
    only_first conjoins conjoins_so harts room (leaf text) whole tt means nests there
conjoins_first harts room (differing text) whole stands means nests there =
    only_first conjoins conjoins_so harts room (differing text) whole tt means nests there
conjoins_first harts room always whole stands means nests there =
    only_first conjoins conjoins_so harts room always whole tt means nests there
conjoins_first harts room (negated inner) whole stands means nests there =
    only_first conjoins conjoins_so harts room (negated inner) whole stands means nests there
conjoins_first harts room (grouped inner) whole stands means nests there =
    only_first conjoins conjoins_so harts room (grouped inner) whole stands means nests there
conjoins_first harts room (disjunction left right) whole stands means nests there =
    let level = stands.0 in absurd (omega (arith, level))
conjoins_first harts room (implication left right) whole stands means nests there =
    let level = stands.0 in absurd (omega (arith, level))
conjoins_first harts room (equivalence left right) whole stands means nests there =
    let level = stands.0 in absurd (omega (arith, level))

-- `\/`
disjoins_means : (left right : Syntax) (whole : Condition) → Means (disjunction left right) whole
    → (a : Condition) × (b : Condition) × Means left a × Means right b × IsDisjunction a b whole
disjoins_means left right (Either' p c q d) it = (c, d, it.0, it.1, (refl, refl))
disjoins_means left right Always it = absurd it
disjoins_means left right (Holds term) it = absurd it
disjoins_means left right (Not' p c) it = absurd it
disjoins_means left right (Both' p c q d) it = absurd it
disjoins_means left right (Implies' p c q d) it = absurd it
disjoins_means left right (Equivalent' p c q d) it = absurd it

disjoins_there : (harts : ℕ) (a b whole : Condition) → IsDisjunction a b whole → AreThere harts whole
    → AreThere harts a × AreThere harts b
disjoins_there harts a b (Either' p c q d) it there =
    (subst (AreThere harts) it.0 there.0, subst (AreThere harts) it.1 there.1)
disjoins_there harts a b Always it there = absurd it
disjoins_there harts a b (Holds term) it there = absurd it
disjoins_there harts a b (Not' p c) it there = absurd it
disjoins_there harts a b (Both' p c q d) it there = absurd it
disjoins_there harts a b (Implies' p c q d) it there = absurd it
disjoins_there harts a b (Equivalent' p c q d) it there = absurd it

disjoins_same : (a b whole c d other : Condition) → IsDisjunction a b whole → IsDisjunction c d other → IsSame a c → IsSame b d
    → IsSame whole other
disjoins_same a b (Either' p e q f) c d (Either' r g s h) it is first second = (
  subst (λ (x : Condition). IsSame x g) (sym it.0) (subst (λ (x : Condition). IsSame a x) (sym is.0) first),
  subst (λ (x : Condition). IsSame x h) (sym it.1) (subst (λ (x : Condition). IsSame b x) (sym is.1) second),
)
disjoins_same a b (Either' p e q f) c d Always it is first second = absurd is
disjoins_same a b (Either' p e q f) c d (Holds term) it is first second = absurd is
disjoins_same a b (Either' p e q f) c d (Not' r g) it is first second = absurd is
disjoins_same a b (Either' p e q f) c d (Both' r g s h) it is first second = absurd is
disjoins_same a b (Either' p e q f) c d (Implies' r g s h) it is first second = absurd is
disjoins_same a b (Either' p e q f) c d (Equivalent' r g s h) it is first second = absurd is
disjoins_same a b Always c d other it is first second = absurd it
disjoins_same a b (Holds held) c d other it is first second = absurd it
disjoins_same a b (Not' m e) c d other it is first second = absurd it
disjoins_same a b (Both' m e n f) c d other it is first second = absurd it
disjoins_same a b (Implies' m e n f) c d other it is first second = absurd it
disjoins_same a b (Equivalent' m e n f) c d other it is first second = absurd it

abbrev pub disjoins : Connective
disjoins = record { join = disjunction; Joins = IsDisjunction; sign = mark.Or; level = 2; low = 1 }

pub disjoins_so : IsConnective disjoins
disjoins_so = record {
  higher = omega arith;
  sign_level = refl;
  text = λ left right. refl;
  leaves = λ left right. refl;
  nests_left = λ left right. omega arith;
  nests_right = λ left right. omega arith;
  stands_left = λ left right stands. stands.1;
  stands_right = λ left right stands. stands.2;
  means = disjoins_means;
  there = disjoins_there;
  same = disjoins_same;
}

pub disjoins_first : (harts room : ℕ) (syntax : Syntax) (whole : Condition) → IsAtLevel 2 syntax → Means syntax whole
    → nesting_of syntax ≤ room → AreThere harts whole → FirstOf disjoins disjoins_so harts room syntax whole
disjoins_first harts room (disjunction left right) whole stands means nests there =
    let parts = disjoins_means left right whole means in
    let both = disjoins_there harts parts.0 parts.1 whole parts.4 there in
    first_of_left disjoins disjoins_so harts room left right parts.0 parts.1 whole
    (disjoins_first harts room left parts.0 stands.1 parts.2 (omega (arith, nests)) both.0) parts.3 parts.4 stands.2
    (omega (arith, nests)) both.1
disjoins_first harts room (leaf text) whole stands means nests there =
    only_first disjoins disjoins_so harts room (leaf text) whole tt means nests there
disjoins_first harts room (differing text) whole stands means nests there =
    only_first disjoins disjoins_so harts room (differing text) whole tt means nests there
disjoins_first harts room always whole stands means nests there =
    only_first disjoins disjoins_so harts room always whole tt means nests there
disjoins_first harts room (negated inner) whole stands means nests there =
    only_first disjoins disjoins_so harts room (negated inner) whole stands means nests there
disjoins_first harts room (grouped inner) whole stands means nests there =
    only_first disjoins disjoins_so harts room (grouped inner) whole stands means nests there
disjoins_first harts room (conjunction left right) whole stands means nests there =
    only_first disjoins disjoins_so harts room (conjunction left right) whole (omega arith, stands.1, stands.2) means nests there
disjoins_first harts room (implication left right) whole stands means nests there =
    let level = stands.0 in absurd (omega (arith, level))
disjoins_first harts room (equivalence left right) whole stands means nests there =
    let level = stands.0 in absurd (omega (arith, level))

-- `<=>`
equates_means : (left right : Syntax) (whole : Condition) → Means (equivalence left right) whole
    → (a : Condition) × (b : Condition) × Means left a × Means right b × IsEquivalence a b whole
equates_means left right (Equivalent' p c q d) it = (c, d, it.0, it.1, (refl, refl))
equates_means left right Always it = absurd it
equates_means left right (Holds term) it = absurd it
equates_means left right (Not' p c) it = absurd it
equates_means left right (Both' p c q d) it = absurd it
equates_means left right (Either' p c q d) it = absurd it
equates_means left right (Implies' p c q d) it = absurd it

equates_there : (harts : ℕ) (a b whole : Condition) → IsEquivalence a b whole → AreThere harts whole
    → AreThere harts a × AreThere harts b
equates_there harts a b (Equivalent' p c q d) it there =
    (subst (AreThere harts) it.0 there.0, subst (AreThere harts) it.1 there.1)
equates_there harts a b Always it there = absurd it
equates_there harts a b (Holds term) it there = absurd it
equates_there harts a b (Not' p c) it there = absurd it
equates_there harts a b (Both' p c q d) it there = absurd it
equates_there harts a b (Either' p c q d) it there = absurd it
equates_there harts a b (Implies' p c q d) it there = absurd it

equates_same : (a b whole c d other : Condition) → IsEquivalence a b whole → IsEquivalence c d other → IsSame a c → IsSame b d
    → IsSame whole other
equates_same a b (Equivalent' p e q f) c d (Equivalent' r g s h) it is first second = (
  subst (λ (x : Condition). IsSame x g) (sym it.0) (subst (λ (x : Condition). IsSame a x) (sym is.0) first),
  subst (λ (x : Condition). IsSame x h) (sym it.1) (subst (λ (x : Condition). IsSame b x) (sym is.1) second),
)
equates_same a b (Equivalent' p e q f) c d Always it is first second = absurd is
equates_same a b (Equivalent' p e q f) c d (Holds term) it is first second = absurd is
equates_same a b (Equivalent' p e q f) c d (Not' r g) it is first second = absurd is
equates_same a b (Equivalent' p e q f) c d (Both' r g s h) it is first second = absurd is
equates_same a b (Equivalent' p e q f) c d (Either' r g s h) it is first second = absurd is
equates_same a b (Equivalent' p e q f) c d (Implies' r g s h) it is first second = absurd is
equates_same a b Always c d other it is first second = absurd it
equates_same a b (Holds held) c d other it is first second = absurd it
equates_same a b (Not' m e) c d other it is first second = absurd it
equates_same a b (Both' m e n f) c d other it is first second = absurd it
equates_same a b (Either' m e n f) c d other it is first second = absurd it
equates_same a b (Implies' m e n f) c d other it is first second = absurd it

abbrev pub equates : Connective
equates = record { join = equivalence; Joins = IsEquivalence; sign = mark.Equivalent; level = 4; low = 3 }

pub equates_so : IsConnective equates
equates_so = record {
  higher = omega arith;
  sign_level = refl;
  text = λ left right. refl;
  leaves = λ left right. refl;
  nests_left = λ left right. omega arith;
  nests_right = λ left right. omega arith;
  stands_left = λ left right stands. stands.1;
  stands_right = λ left right stands. stands.2;
  means = equates_means;
  there = equates_there;
  same = equates_same;
}

pub equates_first : (harts room : ℕ) (syntax : Syntax) (whole : Condition) → IsAtLevel 4 syntax → Means syntax whole
    → nesting_of syntax ≤ room → AreThere harts whole → FirstOf equates equates_so harts room syntax whole
equates_first harts room (equivalence left right) whole stands means nests there =
    let parts = equates_means left right whole means in
    let both = equates_there harts parts.0 parts.1 whole parts.4 there in
    first_of_left equates equates_so harts room left right parts.0 parts.1 whole
    (equates_first harts room left parts.0 stands.1 parts.2 (omega (arith, nests)) both.0) parts.3 parts.4 stands.2
    (omega (arith, nests)) both.1
equates_first harts room (leaf text) whole stands means nests there =
    only_first equates equates_so harts room (leaf text) whole tt means nests there
equates_first harts room (differing text) whole stands means nests there =
    only_first equates equates_so harts room (differing text) whole tt means nests there
equates_first harts room always whole stands means nests there =
    only_first equates equates_so harts room always whole tt means nests there
equates_first harts room (negated inner) whole stands means nests there =
    only_first equates equates_so harts room (negated inner) whole stands means nests there
equates_first harts room (grouped inner) whole stands means nests there =
    only_first equates equates_so harts room (grouped inner) whole stands means nests there
equates_first harts room (conjunction left right) whole stands means nests there =
    only_first equates equates_so harts room (conjunction left right) whole (omega arith, stands.1, stands.2) means nests there
equates_first harts room (disjunction left right) whole stands means nests there =
    only_first equates equates_so harts room (disjunction left right) whole (omega arith, stands.1, stands.2) means nests there
equates_first harts room (implication left right) whole stands means nests there =
    only_first equates equates_so harts room (implication left right) whole (omega arith, stands.1, stands.2) means nests there
