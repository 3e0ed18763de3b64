-- Conditions, put together from what was read of them.
use Rattle.std.proofs.Common.{◌≡◌, ℕ, ◌+◌, ◌≤◌, List, [], ◌∷◌, ◌++◌, refl, sym, ap, ◌∙◌, subst, inl, inr, arith}
use Rattle.std.specs.Prelude.{◌≢◌}
use Rattle.litmus_tests.specs.declared.condition.Term.{Term}
use Rattle.litmus_tests.specs.declared.condition.Condition.{Condition, Always, Holds, Not', Both', Either', Implies', Equivalent'}
use Rattle.litmus_words.specs.declared.word.Word.{Word}
use Rattle.litmus_words.specs.declared.word.Token.{Token}
use Rattle.litmus_words.specs.declared.word.Token.TheVariants.{Mark}
use Rattle.litmus_words.specs.declared.word.Mark.TheVariants as mark
use Rattle.litmus_reading.specs.Grammar.{Syntax, leaf, differing, always, negated, grouped, conjunction, disjunction}
use Rattle.litmus_reading.specs.Grammar.{implication, equivalence, text_of}
use Rattle.litmus_reading.specs.Grammar.{AreThere, IsAtLevel, Means, ConditionTaken, SpellsTerm, most_terms}
use Rattle.litmus_reading.specs.Grammar.{IsNegation, IsConjunction, IsDisjunction, IsImplication, IsEquivalence}
use Rattle.litmus_reading.specs.Grammar.{TermTaken}
use Rattle.litmus_reading.specs.Fitting.{FittingTaken, IsThere, width_at}
use Rattle.litmus_tests.specs.declared.condition.Observed.{Observed}
use Rattle.litmus_tests.specs.declared.condition.Observed.TheVariants as observed
use Rattle.watched_outcomes.specs.declared.watch.Width.{Width}
use Rattle.litmus_words.specs.declared.word.Declared.{Declared}
use Rattle.litmus_words.specs.Parts.{NoIndex, ObservedTaken, SpellsIndex, SpellsObserved}
use Rattle.litmus_words.specs.Tokens.{Takes, tokens}
use Rattle.litmus_words.proofs.Taking.{begins_by, in_parts, one_behind_another}

higher : (syntax : Syntax) (low high : ℕ) → low ≤ high → IsAtLevel low syntax → IsAtLevel high syntax
higher (leaf text) low high le h = tt
higher (differing text) low high le h = tt
higher always low high le h = tt
higher (negated inner) low high le h = h
higher (grouped inner) low high le h = h
higher (conjunction left right) low high le h = let one : 1 ≤ low = h.0 in (omega arith, h.1, h.2)
higher (disjunction left right) low high le h = let two : 2 ≤ low = h.0 in (omega arith, h.1, h.2)
higher (implication left right) low high le h = let three : 3 ≤ low = h.0 in (omega arith, h.1, h.2)
higher (equivalence left right) low high le h = let four : 4 ≤ low = h.0 in (omega arith, h.1, h.2)

pub at_higher : (harts low high room count now : ℕ) (words : List Word) (condition : Condition) (rest : List Word)
    → low ≤ high → ConditionTaken harts low room count words condition rest now
    → ConditionTaken harts high room count words condition rest now
at_higher harts low high room count now words condition rest le h = record {
  syntax = h.syntax;
  stands = higher h.syntax low high le h.stands;
  means = h.means;
  takes = h.takes;
  counted = h.counted;
  few = h.few;
  shallow = h.shallow;
  there = h.there;
}

-- with more room
pub roomier : (harts level less room count now : ℕ) (words : List Word) (condition : Condition) (rest : List Word)
    → less ≤ room → ConditionTaken harts level less count words condition rest now
    → ConditionTaken harts level room count words condition rest now
roomier harts level less room count now words condition rest le h =
    let deep = h.shallow in
    record {
      syntax = h.syntax;
      stands = h.stands;
      means = h.means;
      takes = h.takes;
      counted = h.counted;
      few = h.few;
      shallow = omega (arith, deep, le);
      there = h.there;
    }

-- a mark, and what stands before and behind it
around : (words between behind rest : List Word) (first second : List Token) (m : Token)
    → Takes words first between → Takes between (m ∷ []) behind → Takes behind second rest
    → Takes words (first ++ m ∷ second) rest
around words between behind rest first second m before middle after =
    one_behind_another words between rest first (m ∷ second) before
    (one_behind_another between behind rest (m ∷ []) second middle after)

means_conjunction : (left right : Syntax) (first second whole : Condition) → IsConjunction first second whole
    → Means left first → Means right second → Means (conjunction left right) whole
means_conjunction left right first second (Both' p a q b) is h k =
    (subst (λ (c : Condition). Means left c) (sym is.0) h, subst (λ (c : Condition). Means right c) (sym is.1) k)
means_conjunction left right first second whole is h k = absurd is

means_disjunction : (left right : Syntax) (first second whole : Condition) → IsDisjunction first second whole
    → Means left first → Means right second → Means (disjunction left right) whole
means_disjunction left right first second (Either' p a q b) is h k =
    (subst (λ (c : Condition). Means left c) (sym is.0) h, subst (λ (c : Condition). Means right c) (sym is.1) k)
means_disjunction left right first second whole is h k = absurd is

means_implication : (left right : Syntax) (first second whole : Condition) → IsImplication first second whole
    → Means left first → Means right second → Means (implication left right) whole
means_implication left right first second (Implies' p a q b) is h k =
    (subst (λ (c : Condition). Means left c) (sym is.0) h, subst (λ (c : Condition). Means right c) (sym is.1) k)
means_implication left right first second whole is h k = absurd is

means_equivalence : (left right : Syntax) (first second whole : Condition) → IsEquivalence first second whole
    → Means left first → Means right second → Means (equivalence left right) whole
means_equivalence left right first second (Equivalent' p a q b) is h k =
    (subst (λ (c : Condition). Means left c) (sym is.0) h, subst (λ (c : Condition). Means right c) (sym is.1) k)
means_equivalence left right first second whole is h k = absurd is

means_other : (text : List Token) (term : Term) (whole : Condition) → IsNegation (Holds term) whole
    → SpellsTerm (Mark mark.Differs) text term → Means (differing text) whole
means_other text term (Not' p c) is spells = (term, is, spells)
means_other text term whole is spells = absurd is

means_negation : (inner : Syntax) (first whole : Condition) → IsNegation first whole
    → Means inner first → Means (negated inner) whole
means_negation inner first (Not' p c) is h = subst (λ (c : Condition). Means inner c) (sym is) h
means_negation inner first whole is h = absurd is

there_conjunction : (harts : ℕ) (first second whole : Condition) → IsConjunction first second whole → AreThere harts first
    → AreThere harts second → AreThere harts whole
there_conjunction harts first second (Both' p a q b) is h k =
    (subst (AreThere harts) (sym is.0) h, subst (AreThere harts) (sym is.1) k)
there_conjunction harts first second whole is h k = absurd is

there_disjunction : (harts : ℕ) (first second whole : Condition) → IsDisjunction first second whole → AreThere harts first
    → AreThere harts second → AreThere harts whole
there_disjunction harts first second (Either' p a q b) is h k =
    (subst (AreThere harts) (sym is.0) h, subst (AreThere harts) (sym is.1) k)
there_disjunction harts first second whole is h k = absurd is

there_implication : (harts : ℕ) (first second whole : Condition) → IsImplication first second whole → AreThere harts first
    → AreThere harts second → AreThere harts whole
there_implication harts first second (Implies' p a q b) is h k =
    (subst (AreThere harts) (sym is.0) h, subst (AreThere harts) (sym is.1) k)
there_implication harts first second whole is h k = absurd is

there_equivalence : (harts : ℕ) (first second whole : Condition) → IsEquivalence first second whole → AreThere harts first
    → AreThere harts second → AreThere harts whole
there_equivalence harts first second (Equivalent' p a q b) is h k =
    (subst (AreThere harts) (sym is.0) h, subst (AreThere harts) (sym is.1) k)
there_equivalence harts first second whole is h k = absurd is

there_negation : (harts : ℕ) (inner whole : Condition) → IsNegation inner whole → AreThere harts inner
    → AreThere harts whole
there_negation harts inner (Not' p c) is h = subst (AreThere harts) (sym is) h
there_negation harts inner whole is h = absurd is

pub conjoined : (harts room count now later : ℕ) (words between behind rest : List Word) (first second whole : Condition)
    → ConditionTaken harts 1 room count words first between now → Takes between (Mark mark.And ∷ []) behind
    → ConditionTaken harts 0 room now behind second rest later → IsConjunction first second whole
    → ConditionTaken harts 1 room count words whole rest later
conjoined harts room count now later words between behind rest first second whole h middle k is =
    let one = h.counted in let two = k.counted in let deep = h.shallow in let more = k.shallow in
    record {
      syntax = conjunction h.syntax k.syntax;
      stands = (omega arith, h.stands, k.stands);
      means = means_conjunction h.syntax k.syntax first second whole is h.means k.means;
      takes = around words between behind rest (text_of h.syntax) (text_of k.syntax) (Mark mark.And) h.takes middle
          k.takes;
      counted = omega (arith, one, two);
      few = k.few;
      shallow = omega (arith, deep, more);
      there = there_conjunction harts first second whole is h.there k.there;
    }

pub disjoined : (harts room count now later : ℕ) (words between behind rest : List Word) (first second whole : Condition)
    → ConditionTaken harts 2 room count words first between now → Takes between (Mark mark.Or ∷ []) behind
    → ConditionTaken harts 1 room now behind second rest later → IsDisjunction first second whole
    → ConditionTaken harts 2 room count words whole rest later
disjoined harts room count now later words between behind rest first second whole h middle k is =
    let one = h.counted in let two = k.counted in let deep = h.shallow in let more = k.shallow in
    record {
      syntax = disjunction h.syntax k.syntax;
      stands = (omega arith, h.stands, k.stands);
      means = means_disjunction h.syntax k.syntax first second whole is h.means k.means;
      takes = around words between behind rest (text_of h.syntax) (text_of k.syntax) (Mark mark.Or) h.takes middle
          k.takes;
      counted = omega (arith, one, two);
      few = k.few;
      shallow = omega (arith, deep, more);
      there = there_disjunction harts first second whole is h.there k.there;
    }

pub implied : (harts room count now later : ℕ) (words between behind rest : List Word) (first second whole : Condition)
    → ConditionTaken harts 2 room count words first between now → Takes between (Mark mark.Implies ∷ []) behind
    → ConditionTaken harts 3 room now behind second rest later → IsImplication first second whole
    → ConditionTaken harts 3 room count words whole rest later
implied harts room count now later words between behind rest first second whole h middle k is =
    let one = h.counted in let two = k.counted in let deep = h.shallow in let more = k.shallow in
    record {
      syntax = implication h.syntax k.syntax;
      stands = (omega arith, h.stands, k.stands);
      means = means_implication h.syntax k.syntax first second whole is h.means k.means;
      takes = around words between behind rest (text_of h.syntax) (text_of k.syntax) (Mark mark.Implies) h.takes middle
          k.takes;
      counted = omega (arith, one, two);
      few = k.few;
      shallow = omega (arith, deep, more);
      there = there_implication harts first second whole is h.there k.there;
    }

pub made_equivalent : (harts room count now later : ℕ) (words between behind rest : List Word) (first second whole : Condition)
    → ConditionTaken harts 4 room count words first between now → Takes between (Mark mark.Equivalent ∷ []) behind
    → ConditionTaken harts 3 room now behind second rest later → IsEquivalence first second whole
    → ConditionTaken harts 4 room count words whole rest later
made_equivalent harts room count now later words between behind rest first second whole h middle k is =
    let one = h.counted in let two = k.counted in let deep = h.shallow in let more = k.shallow in
    record {
      syntax = equivalence h.syntax k.syntax;
      stands = (omega arith, h.stands, k.stands);
      means = means_equivalence h.syntax k.syntax first second whole is h.means k.means;
      takes = around words between behind rest (text_of h.syntax) (text_of k.syntax) (Mark mark.Equivalent) h.takes middle
          k.takes;
      counted = omega (arith, one, two);
      few = k.few;
      shallow = omega (arith, deep, more);
      there = there_equivalence harts first second whole is h.there k.there;
    }

pub of_negation : (harts less room count now : ℕ) (words behind rest : List Word) (inner whole : Condition)
    → less + 1 ≡ room → Takes words (Mark mark.Not ∷ []) behind
    → ConditionTaken harts 0 less count behind inner rest now → IsNegation inner whole
    → ConditionTaken harts 0 room count words whole rest now
of_negation harts less room count now words behind rest inner whole one first h is =
    let deep = h.shallow in
    record {
      syntax = negated h.syntax;
      stands = h.stands;
      means = means_negation h.syntax inner whole is h.means;
      takes = one_behind_another words behind rest (Mark mark.Not ∷ []) (text_of h.syntax) first h.takes;
      counted = h.counted;
      few = h.few;
      shallow = omega (arith, deep, one);
      there = there_negation harts inner whole is h.there;
    }

pub in_parentheses : (harts less room count now : ℕ) (words behind between rest : List Word) (condition : Condition)
    → less + 1 ≡ room → Takes words (Mark mark.LeftParenthesis ∷ []) behind
    → ConditionTaken harts 4 less count behind condition between now
    → Takes between (Mark mark.RightParenthesis ∷ []) rest → ConditionTaken harts 0 room count words condition rest now
in_parentheses harts less room count now words behind between rest condition one first h last =
    let deep = h.shallow in
    record {
      syntax = grouped h.syntax;
      stands = h.stands;
      means = h.means;
      takes = one_behind_another words behind rest (Mark mark.LeftParenthesis ∷ [])
          (text_of h.syntax ++ Mark mark.RightParenthesis ∷ []) first
          (one_behind_another behind between rest (text_of h.syntax) (Mark mark.RightParenthesis ∷ []) h.takes last);
      counted = h.counted;
      few = h.few;
      shallow = omega (arith, deep, one);
      there = h.there;
    }

pub of_truth : (harts count now : ℕ) (words rest : List Word) → Takes words (Mark mark.True ∷ []) rest
    → now ≡ count + 1 → now ≤ most_terms → ConditionTaken harts 0 0 count words Always rest now
of_truth harts count now words rest first counted few = record {
  syntax = always;
  stands = tt;
  means = tt;
  takes = first;
  counted = counted;
  few = few;
  shallow = omega arith;
  there = tt;
}

-- what is looked at tells how wide it is
wide_of : (text more : List Token) (declared : Declared) (index : ℕ) → SpellsIndex declared text index
    → width_at (text ++ more) ≡ width_at text
wide_of text more declared index (inl alone) =
    ap (λ (t : List Token). width_at (t ++ more)) alone.0 ∙ sym (ap width_at alone.0)
wide_of text more declared index (inr (inl bracketed)) =
    ap (λ (t : List Token). width_at (t ++ more)) bracketed.0 ∙ sym (ap width_at bracketed.0)
wide_of text more declared index (inr (inr element)) =
    ap (λ (t : List Token). width_at (t ++ more)) element.1 ∙ sym (ap width_at element.1)

wide_by : (text more : List Token) (one : Observed) → SpellsObserved text one → width_at (text ++ more) ≡ width_at text
wide_by text more (observed.Register hart register) is =
    ap (λ (t : List Token). width_at (t ++ more)) is ∙ sym (ap width_at is)
wide_by text more (observed.Location index) is = wide_of text more is.declared index is.spelled

pub as_wide : (words rest : List Word) (one : Observed) (width : Width) (taken : ObservedTaken words one rest)
    → width ≡ width_at (tokens words) → width ≡ width_at taken.text
as_wide words rest one width taken is =
    is ∙ ap width_at taken.takes.spelled ∙ wide_by taken.text (tokens rest) one taken.spells

pub term_taken : (sign : Token) (words between behind rest : List Word) (term : Term)
    → ObservedTaken words term.observed between → Takes between (sign ∷ []) behind
    → FittingTaken term.width behind term.value rest → term.width ≡ width_at (tokens words)
    → TermTaken sign words term rest
term_taken sign words between behind rest term h middle k wide = record {
  text = h.text ++ sign ∷ k.text;
  spells = record {
    left = h.text;
    right = k.text;
    spelled = refl;
    observed = h.spells;
    value = k.spells;
    wide = as_wide words between term.observed term.width h wide;
    fits = k.fits;
  };
  takes = around words between behind rest h.text k.text sign h.takes middle k.takes;
}

pub of_term : (harts count now : ℕ) (words rest : List Word) (term : Term)
    → TermTaken (Mark mark.Equals) words term rest → IsThere harts term.observed → now ≡ count + 1 → now ≤ most_terms
    → ConditionTaken harts 0 0 count words (Holds term) rest now
of_term harts count now words rest term it there counted few = record {
  syntax = leaf it.text;
  stands = tt;
  means = it.spells;
  takes = it.takes;
  counted = counted;
  few = few;
  shallow = omega arith;
  there = there;
}

pub of_other : (harts count now : ℕ) (words rest : List Word) (term : Term) (whole : Condition)
    → TermTaken (Mark mark.Differs) words term rest → IsNegation (Holds term) whole → IsThere harts term.observed
    → now ≡ count + 1 → now ≤ most_terms → ConditionTaken harts 0 0 count words whole rest now
of_other harts count now words rest term whole it is there counted few = record {
  syntax = differing it.text;
  stands = tt;
  means = means_other it.text term whole is it.spells;
  takes = it.takes;
  counted = counted;
  few = few;
  shallow = omega arith;
  there = there_negation harts (Holds term) whole is there;
}

-- the pieces of a term
pub record TermParts (sign : Token) (words : List Word) (term : Term) (rest : List Word) : Type 0 where
  pub between : List Word
  pub behind : List Word
  pub observed : ObservedTaken words term.observed between
  pub middle : Takes between (sign ∷ []) behind
  pub value : FittingTaken term.width behind term.value rest
  pub wide : term.width ≡ width_at (tokens words)

pub term_parts : (sign : Token) (words rest : List Word) (term : Term) → TermTaken sign words term rest
    → TermParts sign words term rest
term_parts sign words rest term it =
    let parts = in_parts words rest it.spells.left (sign ∷ it.spells.right)
    (subst (λ (t : List Token). Takes words t rest) it.spells.spelled it.takes) in
    let inner = begins_by parts.between rest sign it.spells.right parts.behind in
    record {
      between = parts.between;
      behind = inner.between;
      observed = record { text = it.spells.left; spells = it.spells.observed; takes = parts.before };
      middle = inner.before;
      value = record {
        text = it.spells.right;
        spells = it.spells.value;
        fits = it.spells.fits;
        takes = inner.behind;
      };
      wide = it.spells.wide ∙ sym (ap width_at parts.before.spelled
          ∙ wide_by it.spells.left (tokens parts.between) term.observed it.spells.observed);
    }

pub no_index : (words behind : List Word) (sign : Token) → Takes words (sign ∷ []) behind
    → sign ≢ Mark mark.LeftBracket → NoIndex words
no_index [] behind sign takes other = tt
no_index (word ∷ words) behind sign takes other = λ is. other (sym takes.so.0 ∙ is)

pub equals_other : Mark mark.Equals ≡ Mark mark.LeftBracket → ⊥
equals_other e = cc

pub differs_other : Mark mark.Differs ≡ Mark mark.LeftBracket → ⊥
differs_other e = cc

pub not_equals : Mark mark.Differs ≡ Mark mark.Equals → ⊥
not_equals e = cc

pub same_term : (one other : Term) → one.observed ≡ other.observed → one.value ≡ other.value
    → one.width ≡ other.width → one ≡ other
same_term one other looked held wide =
    (λ k. record { observed = looked k; value = held k; width = wide k })

pub negates_same : (one other : Term) (whole : Condition) → one ≡ other → IsNegation (Holds one) whole
    → IsNegation (Holds other) whole
negates_same one other whole same is = subst (λ (t : Term). IsNegation (Holds t) whole) same is
