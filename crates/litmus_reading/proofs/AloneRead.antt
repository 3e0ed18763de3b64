-- A condition that stands alone, and one with `=>`, as they are read.
use Rattle.std.proofs.Common.{◌≡◌, ℕ, ◌+◌, ◌<◌, List, [], ◌∷◌, ◌++◌, refl, sym, ap, subst, arith}
use Rattle.litmus_tests.specs.declared.condition.Condition.{Condition, Always, Holds, Not', Both', Either', Implies', Equivalent'}
use Rattle.litmus_words.specs.declared.word.Word.{Word}
use Rattle.litmus_words.specs.declared.word.Token.{Token}
use Rattle.litmus_words.specs.declared.word.Token.TheVariants.{Mark}
use Rattle.litmus_words.specs.declared.word.Mark.TheVariants as mark
use Rattle.litmus_words.specs.Tokens.{Takes}
use Rattle.litmus_words.proofs.Taking.{begins_by, goes_on, in_parts, same_first, same_rest}
use Rattle.litmus_reading.specs.Grammar.{Syntax, leaf, differing, always, negated, grouped, conjunction, disjunction, implication, equivalence}
use Rattle.litmus_reading.specs.Grammar.{AreThere, CanBeRead, IsNegation, IsOver, IsReadAs, IsSame, Means, goes_on_with, leaves_of, text_of}
use Rattle.litmus_reading.proofs.ConditionRead.{TermFirst, no_term, term_first}

-- what stands alone begins with the mark that it is told by
pub record NegatedSo (harts room count : ℕ) (behind : List Word) (condition : Condition) (rest : List Word)
    (syntax : Syntax) : Type 0 where
  pub inner : Syntax
  pub denied : Condition
  pub is : syntax ≡ negated inner
  pub whole : IsNegation denied condition
  pub some : 0 < room
  pub can : (less : ℕ) → less + 1 ≡ room → CanBeRead harts 0 less count behind inner denied rest

negated_means : (inner : Syntax) (condition : Condition) → Means (negated inner) condition
    → (denied : Condition) × IsNegation denied condition × Means inner denied
negated_means inner (Not' p c) it = (c, refl, it)
negated_means inner Always it = absurd it
negated_means inner (Holds term) it = absurd it
negated_means inner (Both' p c q d) it = absurd it
negated_means inner (Either' p c q d) it = absurd it
negated_means inner (Implies' p c q d) it = absurd it
negated_means inner (Equivalent' p c q d) it = absurd it

negated_there : (harts : ℕ) (denied condition : Condition) → IsNegation denied condition → AreThere harts condition
    → AreThere harts denied
negated_there harts denied (Not' p c) it there = subst (AreThere harts) it there
negated_there harts denied Always it there = absurd it
negated_there harts denied (Holds term) it there = absurd it
negated_there harts denied (Both' p c q d) it there = absurd it
negated_there harts denied (Either' p c q d) it there = absurd it
negated_there harts denied (Implies' p c q d) it there = absurd it
negated_there harts denied (Equivalent' p c q d) it there = absurd it

pub negation_same : (a whole b other : Condition) → IsNegation a whole → IsNegation b other → IsSame a b
    → IsSame whole other
negation_same a (Not' p c) b (Not' q d) is it same =
    subst (λ (x : Condition). IsSame x d) (sym is) (subst (λ (x : Condition). IsSame a x) (sym it) same)
negation_same a (Not' p c) b Always is it same = absurd it
negation_same a (Not' p c) b (Holds term) is it same = absurd it
negation_same a (Not' p c) b (Both' m d n e) is it same = absurd it
negation_same a (Not' p c) b (Either' m d n e) is it same = absurd it
negation_same a (Not' p c) b (Implies' m d n e) is it same = absurd it
negation_same a (Not' p c) b (Equivalent' m d n e) is it same = absurd it
negation_same a Always b other is it same = absurd is
negation_same a (Holds term) b other is it same = absurd is
negation_same a (Both' m d n e) b other is it same = absurd is
negation_same a (Either' m d n e) b other is it same = absurd is
negation_same a (Implies' m d n e) b other is it same = absurd is
negation_same a (Equivalent' m d n e) b other is it same = absurd is

not_group : Mark mark.Not ≡ Mark mark.LeftParenthesis → ⊥
not_group e = cc

not_truth : Mark mark.Not ≡ Mark mark.True → ⊥
not_truth e = cc

group_truth : Mark mark.LeftParenthesis ≡ Mark mark.True → ⊥
group_truth e = cc

-- with which token a term begins
differing_first : (text : List Token) (condition : Condition) → Means (differing text) condition → TermFirst text
differing_first text (Not' p inner) it = term_first (Mark mark.Differs) text it.0 it.2
differing_first text Always it = absurd it
differing_first text (Holds term) it = absurd it
differing_first text (Both' p c q d) it = absurd it
differing_first text (Either' p c q d) it = absurd it
differing_first text (Implies' p c q d) it = absurd it
differing_first text (Equivalent' p c q d) it = absurd it

leaf_first : (text : List Token) (condition : Condition) → Means (leaf text) condition → TermFirst text
leaf_first text (Holds term) it = term_first (Mark mark.Equals) text term it
leaf_first text Always it = absurd it
leaf_first text (Not' p c) it = absurd it
leaf_first text (Both' p c q d) it = absurd it
leaf_first text (Either' p c q d) it = absurd it
leaf_first text (Implies' p c q d) it = absurd it
leaf_first text (Equivalent' p c q d) it = absurd it

pub negated_read : (harts room count : ℕ) (words behind rest : List Word) (syntax : Syntax) (condition : Condition)
    → Takes words (Mark mark.Not ∷ []) behind → CanBeRead harts 0 room count words syntax condition rest
    → NegatedSo harts room count behind condition rest syntax
negated_read harts room count words behind rest (negated inner) condition first it =
    let parts = negated_means inner condition it.means in let deep = it.shallow in
    record {
      inner = inner;
      denied = parts.0;
      is = refl;
      whole = parts.1;
      some = omega (arith, deep);
      can = λ less one. record {
        stands = it.stands;
        means = parts.2;
        takes = goes_on words behind rest (Mark mark.Not) (Mark mark.Not) (text_of inner) first it.takes;
        few = it.few;
        shallow = omega (arith, deep, one);
        there = negated_there harts parts.0 condition parts.1 it.there;
        over = it.over;
      };
    }
negated_read harts room count words behind rest (leaf text) condition first it =
    let at = leaf_first text condition it.means in
    absurd (no_term words behind rest (Mark mark.Not) text at first it.takes at.no_negation)
negated_read harts room count words behind rest (differing text) condition first it =
    let at = differing_first text condition it.means in
    absurd (no_term words behind rest (Mark mark.Not) text at first it.takes at.no_negation)
negated_read harts room count words behind rest always condition first it =
    absurd (not_truth (same_first words behind rest (Mark mark.Not) (Mark mark.True) [] first it.takes))
negated_read harts room count words behind rest (grouped inner) condition first it =
    absurd (not_group (same_first words behind rest (Mark mark.Not) (Mark mark.LeftParenthesis)
    (text_of inner ++ Mark mark.RightParenthesis ∷ []) first it.takes))
negated_read harts room count words behind rest (conjunction left right) condition first it =
    let level = it.stands.0 in absurd (omega (arith, level))
negated_read harts room count words behind rest (disjunction left right) condition first it =
    let level = it.stands.0 in absurd (omega (arith, level))
negated_read harts room count words behind rest (implication left right) condition first it =
    let level = it.stands.0 in absurd (omega (arith, level))
negated_read harts room count words behind rest (equivalence left right) condition first it =
    let level = it.stands.0 in absurd (omega (arith, level))

-- what is read of it
pub negated_as : (harts room count now : ℕ) (behind rest last : List Word) (syntax : Syntax)
    (condition inner found : Condition) (so : NegatedSo harts room count behind condition rest syntax)
    → IsReadAs count so.inner so.denied rest inner last now → IsNegation inner found
    → IsReadAs count syntax condition rest found last now
negated_as harts room count now behind rest last syntax condition inner found so read is =
    let counted = read.counted in let same = ap leaves_of so.is in
    record {
      same = negation_same inner found so.denied condition is so.whole read.same;
      left = read.left;
      counted = omega (arith, counted, same);
    }

-- a condition in parentheses
pub record GroupedSo (harts room count : ℕ) (behind : List Word) (condition : Condition) (rest : List Word)
    (syntax : Syntax) : Type 0 where
  pub inner : Syntax
  pub last : List Word
  pub is : syntax ≡ grouped inner
  pub some : 0 < room
  pub closes : Takes last (Mark mark.RightParenthesis ∷ []) rest
  pub can : (less : ℕ) → less + 1 ≡ room → CanBeRead harts 4 less count behind inner condition last

over_closing : (words rest : List Word) → Takes words (Mark mark.RightParenthesis ∷ []) rest → IsOver 4 words
over_closing [] rest takes = tt
over_closing (word ∷ words) rest takes =
    let at : goes_on_with word.token ≡ 5 = ap goes_on_with takes.so.0 in omega (arith, at)

pub grouped_read : (harts room count : ℕ) (words behind rest : List Word) (syntax : Syntax) (condition : Condition)
    → Takes words (Mark mark.LeftParenthesis ∷ []) behind → CanBeRead harts 0 room count words syntax condition rest
    → GroupedSo harts room count behind condition rest syntax
grouped_read harts room count words behind rest (grouped inner) condition first it =
    let deep = it.shallow in
    let parts = in_parts behind rest (text_of inner) (Mark mark.RightParenthesis ∷ [])
    (goes_on words behind rest (Mark mark.LeftParenthesis) (Mark mark.LeftParenthesis)
    (text_of inner ++ Mark mark.RightParenthesis ∷ []) first it.takes) in
    record {
      inner = inner;
      last = parts.between;
      is = refl;
      some = omega (arith, deep);
      closes = parts.behind;
      can = λ less one. record {
        stands = it.stands;
        means = it.means;
        takes = parts.before;
        few = it.few;
        shallow = omega (arith, deep, one);
        there = it.there;
        over = over_closing parts.between rest parts.behind;
      };
    }
grouped_read harts room count words behind rest (leaf text) condition first it =
    let at = leaf_first text condition it.means in
    absurd (no_term words behind rest (Mark mark.LeftParenthesis) text at first it.takes at.no_parenthesis)
grouped_read harts room count words behind rest (differing text) condition first it =
    let at = differing_first text condition it.means in
    absurd (no_term words behind rest (Mark mark.LeftParenthesis) text at first it.takes at.no_parenthesis)
grouped_read harts room count words behind rest always condition first it =
    absurd (group_truth (same_first words behind rest (Mark mark.LeftParenthesis) (Mark mark.True) [] first it.takes))
grouped_read harts room count words behind rest (negated inner) condition first it =
    absurd (not_group (sym (same_first words behind rest (Mark mark.LeftParenthesis) (Mark mark.Not) (text_of inner)
    first it.takes)))
grouped_read harts room count words behind rest (conjunction left right) condition first it =
    let level = it.stands.0 in absurd (omega (arith, level))
grouped_read harts room count words behind rest (disjunction left right) condition first it =
    let level = it.stands.0 in absurd (omega (arith, level))
grouped_read harts room count words behind rest (implication left right) condition first it =
    let level = it.stands.0 in absurd (omega (arith, level))
grouped_read harts room count words behind rest (equivalence left right) condition first it =
    let level = it.stands.0 in absurd (omega (arith, level))

pub grouped_as : (harts room count now : ℕ) (behind rest after end : List Word) (syntax : Syntax)
    (condition found : Condition) (so : GroupedSo harts room count behind condition rest syntax)
    → IsReadAs count so.inner condition so.last found after now → Takes after (Mark mark.RightParenthesis ∷ []) end
    → IsReadAs count syntax condition rest found end now
grouped_as harts room count now behind rest after end syntax condition found so read closes =
    let counted = read.counted in let same = ap leaves_of so.is in
    record {
      same = read.same;
      left = same_rest so.last end rest (Mark mark.RightParenthesis ∷ [])
          (subst (λ (t : List Word). Takes t (Mark mark.RightParenthesis ∷ []) end) read.left closes) so.closes;
      counted = omega (arith, counted, same);
    }

-- where neither mark comes first, it is a term or `true`
pub leaf_read : (harts room count : ℕ) (words rest : List Word) (syntax : Syntax) (condition : Condition)
    → ((behind : List Word) → Takes words (Mark mark.Not ∷ []) behind → ⊥)
    → ((behind : List Word) → Takes words (Mark mark.LeftParenthesis ∷ []) behind → ⊥)
    → CanBeRead harts 0 room count words syntax condition rest
    → CanBeRead harts 0 0 count words syntax condition rest
leaf_read harts room count words rest (leaf text) condition no_not no_group it = record {
  stands = it.stands;
  means = it.means;
  takes = it.takes;
  few = it.few;
  shallow = omega arith;
  there = it.there;
  over = it.over;
}
leaf_read harts room count words rest (differing text) condition no_not no_group it = record {
  stands = it.stands;
  means = it.means;
  takes = it.takes;
  few = it.few;
  shallow = omega arith;
  there = it.there;
  over = it.over;
}
leaf_read harts room count words rest always condition no_not no_group it = record {
  stands = it.stands;
  means = it.means;
  takes = it.takes;
  few = it.few;
  shallow = omega arith;
  there = it.there;
  over = it.over;
}
leaf_read harts room count words rest (negated inner) condition no_not no_group it =
    let first = begins_by words rest (Mark mark.Not) (text_of inner) it.takes in
    absurd (no_not first.between first.before)
leaf_read harts room count words rest (grouped inner) condition no_not no_group it =
    let first = begins_by words rest (Mark mark.LeftParenthesis) (text_of inner ++ Mark mark.RightParenthesis ∷ [])
    it.takes in
    absurd (no_group first.between first.before)
leaf_read harts room count words rest (conjunction left right) condition no_not no_group it =
    let level = it.stands.0 in absurd (omega (arith, level))
leaf_read harts room count words rest (disjunction left right) condition no_not no_group it =
    let level = it.stands.0 in absurd (omega (arith, level))
leaf_read harts room count words rest (implication left right) condition no_not no_group it =
    let level = it.stands.0 in absurd (omega (arith, level))
leaf_read harts room count words rest (equivalence left right) condition no_not no_group it =
    let level = it.stands.0 in absurd (omega (arith, level))
