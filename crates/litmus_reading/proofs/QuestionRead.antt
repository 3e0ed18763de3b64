-- A filter, a list and a question, as they are read: which of them comes first, and where each ends.
use Rattle.std.proofs.Common.{◌≡◌, ◌⊎◌, ℕ, ◌<◌, Bool, true, false, List, [], ◌∷◌, refl, sym, ◌∙◌, subst, inl, inr, arith}
use Rattle.std.specs.Prelude.{◌≢◌}
use Rattle.litmus_tests.specs.declared.condition.Condition.{Condition, Always}
use Rattle.litmus_tests.specs.declared.condition.Observed.{Observed}
use Rattle.litmus_tests.specs.declared.condition.Quantifier.{Quantifier}
use Rattle.litmus_tests.specs.declared.condition.Quantifier.TheVariants.{Exists, NotExists, ForAll}
use Rattle.litmus_words.specs.declared.word.Word.{Word}
use Rattle.litmus_words.specs.declared.word.Token.{Token}
use Rattle.litmus_words.specs.declared.word.Token.TheVariants.{Mark as mark_token}
use Rattle.litmus_words.specs.declared.word.Mark.{Mark}
use Rattle.litmus_words.specs.declared.word.Mark.TheVariants as mark
use Rattle.litmus_words.specs.Tokens.{Takes}
use Rattle.litmus_words.proofs.Taking.{begins_by, same_first}
use Rattle.litmus_reading.specs.Grammar.{CanBeRead, IsOver, IsSame, WholeCondition, goes_on_with, most_nested}
use Rattle.litmus_reading.specs.Questions.{BeginsOther, FilterTaken, IsAsked, IsAskedAfter, IsBefore, ListTaken, MayFilter, MayList, quantifier_tokens}

-- a whole condition can be read, where what stands behind it is no part of it
pub whole_read : (harts : ℕ) (words : List Word) (condition : Condition) (rest : List Word)
    → (it : WholeCondition harts words condition rest) → IsOver 4 rest
    → CanBeRead harts 4 most_nested 0 words it.taken.syntax condition rest
whole_read harts words condition rest it over =
    let counted = it.taken.counted in let few = it.taken.few in
    record {
      stands = it.taken.stands;
      means = it.taken.means;
      takes = it.taken.takes;
      few = omega (arith, counted, few);
      shallow = it.taken.shallow;
      there = it.taken.there;
      over = over;
    }

-- the first word tells
pub no_other : (sign : Mark) (words behind : List Word) → BeginsOther sign words
    → Takes words (mark_token sign ∷ []) behind → ⊥
no_other sign [] behind other takes = takes.so
no_other sign (word ∷ words) behind other takes = other takes.so.0

over_first : (words rest : List Word) (one : Token) (more : List Token) → Takes words (one ∷ more) rest
    → 4 < goes_on_with one → IsOver 4 words
over_first [] rest one more takes over = tt
over_first (word ∷ words) rest one more takes over =
    subst (λ (t : Token). 4 < goes_on_with t) (sym takes.so.0) over

other_first : (sign : Mark) (words rest : List Word) (one : Token) (more : List Token) → Takes words (one ∷ more) rest
    → one ≢ mark_token sign → BeginsOther sign words
other_first sign [] rest one more takes other = tt
other_first sign (word ∷ words) rest one more takes other = λ is. other (sym takes.so.0 ∙ is)

-- what stands before a question is over there
pub record AtQuestion (words : List Word) : Type 0 where
  pub over : IsOver 4 words
  pub list : BeginsOther mark.Locations words
  pub filter : BeginsOther mark.Filter words

at_quantifier : (quantifier : Quantifier) (words behind : List Word) → Takes words (quantifier_tokens quantifier) behind
    → AtQuestion words
at_quantifier Exists words behind takes = record {
  over = over_first words behind (mark_token mark.Exists) [] takes (omega arith);
  list = other_first mark.Locations words behind (mark_token mark.Exists) [] takes (λ e. cc);
  filter = other_first mark.Filter words behind (mark_token mark.Exists) [] takes (λ e. cc);
}
at_quantifier NotExists words behind takes = record {
  over = over_first words behind (mark_token mark.Not) (mark_token mark.Exists ∷ []) takes (omega arith);
  list = other_first mark.Locations words behind (mark_token mark.Not) (mark_token mark.Exists ∷ []) takes (λ e. cc);
  filter = other_first mark.Filter words behind (mark_token mark.Not) (mark_token mark.Exists ∷ []) takes (λ e. cc);
}
at_quantifier ForAll words behind takes = record {
  over = over_first words behind (mark_token mark.ForAll) [] takes (omega arith);
  list = other_first mark.Locations words behind (mark_token mark.ForAll) [] takes (λ e. cc);
  filter = other_first mark.Filter words behind (mark_token mark.ForAll) [] takes (λ e. cc);
}

at_end : (words : List Word) → words ≡ [] → AtQuestion words
at_end words none = record {
  over = subst (IsOver 4) (sym none) tt;
  list = subst (BeginsOther mark.Locations) (sym none) tt;
  filter = subst (BeginsOther mark.Filter) (sym none) tt;
}

pub at_question : (harts : ℕ) (has : Bool) (words : List Word) (quantifier : Quantifier) (condition : Condition)
    → IsAskedAfter harts has words quantifier condition → AtQuestion words
at_question harts has words quantifier condition (inl it) = at_quantifier quantifier words it.behind it.begins
at_question harts has words quantifier condition (inr it) = at_end words it.1

-- a filter where it stands
pub some_filter : (harts : ℕ) (words behind : List Word) (filter : Condition) (rest : List Word)
    → Takes words (mark_token mark.Filter ∷ []) behind → BeginsOther mark.Filter rest
    → MayFilter harts words filter rest → FilterTaken harts words filter rest
some_filter harts words behind filter rest first other (inl none) =
    absurd (no_other mark.Filter words behind (subst (BeginsOther mark.Filter) (sym none.1) other) first)
some_filter harts words behind filter rest first other (inr it) = it

pub no_filter : (harts : ℕ) (words : List Word) (filter : Condition) (rest : List Word)
    → ((behind : List Word) → Takes words (mark_token mark.Filter ∷ []) behind → ⊥)
    → MayFilter harts words filter rest → IsSame Always filter × (words ≡ rest)
no_filter harts words filter rest off (inl none) =
    (subst (λ (c : Condition). IsSame Always c) (sym none.0) tt, none.1)
no_filter harts words filter rest off (inr it) = absurd (off it.behind it.begins)

-- a list where it stands
list_begins : (harts : ℕ) (words : List Word) (listed : List Observed) (whole : List ℕ) (rest : List Word)
    → (it : ListTaken harts words listed whole rest)
    → (behind : List Word) × Takes words (mark_token mark.Locations ∷ []) behind
list_begins harts words listed whole rest it =
    let first = begins_by words it.inside (mark_token mark.Locations) (mark_token mark.LeftBracket ∷ []) it.opens in
    (first.between, first.before)

pub some_list : (harts : ℕ) (words behind : List Word) (has : Bool) (listed : List Observed) (whole : List ℕ)
    (rest : List Word) → Takes words (mark_token mark.Locations ∷ []) behind → BeginsOther mark.Locations rest
    → MayList harts words has listed whole rest → (has ≡ true) × ListTaken harts words listed whole rest
some_list harts words behind has listed whole rest first other (inl none) =
    absurd (no_other mark.Locations words behind (subst (BeginsOther mark.Locations) (sym none.3) other) first)
some_list harts words behind has listed whole rest first other (inr it) = it

pub no_list : (harts : ℕ) (words : List Word) (has : Bool) (listed : List Observed) (whole : List ℕ) (rest : List Word)
    → ((behind : List Word) → Takes words (mark_token mark.Locations ∷ []) behind → ⊥)
    → MayList harts words has listed whole rest
    → (has ≡ false) × (listed ≡ []) × (whole ≡ []) × (words ≡ rest)
no_list harts words has listed whole rest off (inl none) = none
no_list harts words has listed whole rest off (inr it) =
    let first = list_begins harts words listed whole rest it.1 in absurd (off first.0 first.1)

-- the filter comes first
pub record FilterFirst (harts : ℕ) (words : List Word) (has : Bool) (listed : List Observed) (whole : List ℕ)
    (filter : Condition) (rest : List Word) : Type 0 where
  pub between : List Word
  pub taken : FilterTaken harts words filter between
  pub over : IsOver 4 between
  pub list : MayList harts between has listed whole rest

filter_list : mark_token mark.Filter ≡ mark_token mark.Locations → ⊥
filter_list e = cc

behind_filter : (harts : ℕ) (between : List Word) (has : Bool) (listed : List Observed) (whole : List ℕ)
    (rest : List Word) → IsOver 4 rest → MayList harts between has listed whole rest → IsOver 4 between
behind_filter harts between has listed whole rest over (inl none) = subst (IsOver 4) (sym none.3) over
behind_filter harts between has listed whole rest over (inr it) =
    over_first between it.1.inside (mark_token mark.Locations) (mark_token mark.LeftBracket ∷ []) it.1.opens (omega arith)

alone_first : (harts : ℕ) (words between behind : List Word) (has : Bool) (listed : List Observed) (whole : List ℕ)
    (filter : Condition) (rest : List Word) → Takes words (mark_token mark.Filter ∷ []) behind → IsOver 4 rest
    → BeginsOther mark.Filter rest → MayList harts words has listed whole between
    → MayFilter harts between filter rest → FilterFirst harts words has listed whole filter rest
alone_first harts words between behind has listed whole filter rest first over other (inl none) may = record {
  between = rest;
  taken = some_filter harts words behind filter rest first other
      (subst (λ (t : List Word). MayFilter harts t filter rest) (sym none.3) may);
  over = over;
  list = inl (none.0, none.1, none.2, refl);
}
alone_first harts words between behind has listed whole filter rest first over other (inr it) may =
    absurd (filter_list (same_first words behind it.1.inside (mark_token mark.Filter) (mark_token mark.Locations)
    (mark_token mark.LeftBracket ∷ []) first it.1.opens))

filter_by : (harts : ℕ) (words between behind : List Word) (has : Bool) (listed : List Observed) (whole : List ℕ)
    (filter : Condition) (rest : List Word) → Takes words (mark_token mark.Filter ∷ []) behind → IsOver 4 rest
    → BeginsOther mark.Filter rest
    → (MayList harts words has listed whole between × MayFilter harts between filter rest)
    ⊎ (FilterTaken harts words filter between × MayList harts between has listed whole rest)
    → FilterFirst harts words has listed whole filter rest
filter_by harts words between behind has listed whole filter rest first over other (inl it) =
    alone_first harts words between behind has listed whole filter rest first over other it.0 it.1
filter_by harts words between behind has listed whole filter rest first over other (inr it) = record {
  between = between;
  taken = it.0;
  over = behind_filter harts between has listed whole rest over it.1;
  list = it.1;
}

pub filter_first : (harts : ℕ) (words behind : List Word) (has : Bool) (listed : List Observed) (whole : List ℕ)
    (filter : Condition) (rest : List Word) → Takes words (mark_token mark.Filter ∷ []) behind → IsOver 4 rest
    → BeginsOther mark.Filter rest → IsBefore harts words has listed whole filter rest
    → FilterFirst harts words has listed whole filter rest
filter_first harts words behind has listed whole filter rest first over other it =
    filter_by harts words it.0 behind has listed whole filter rest first over other it.1

-- the list comes first, if one does
pub record ListFirst (harts : ℕ) (words : List Word) (has : Bool) (listed : List Observed) (whole : List ℕ)
    (filter : Condition) (rest : List Word) : Type 0 where
  pub between : List Word
  pub list : MayList harts words has listed whole between
  pub other : BeginsOther mark.Locations between
  pub filtered : MayFilter harts between filter rest

behind_list : (harts : ℕ) (between : List Word) (filter : Condition) (rest : List Word)
    → BeginsOther mark.Locations rest → MayFilter harts between filter rest → BeginsOther mark.Locations between
behind_list harts between filter rest other (inl none) = subst (BeginsOther mark.Locations) (sym none.1) other
behind_list harts between filter rest other (inr it) =
    other_first mark.Locations between it.behind (mark_token mark.Filter) [] it.begins filter_list

list_by : (harts : ℕ) (words between : List Word) (has : Bool) (listed : List Observed) (whole : List ℕ)
    (filter : Condition) (rest : List Word)
    → ((behind : List Word) → Takes words (mark_token mark.Filter ∷ []) behind → ⊥)
    → BeginsOther mark.Locations rest
    → (MayList harts words has listed whole between × MayFilter harts between filter rest)
    ⊎ (FilterTaken harts words filter between × MayList harts between has listed whole rest)
    → ListFirst harts words has listed whole filter rest
list_by harts words between has listed whole filter rest off other (inl it) = record {
  between = between;
  list = it.0;
  other = behind_list harts between filter rest other it.1;
  filtered = it.1;
}
list_by harts words between has listed whole filter rest off other (inr it) = absurd (off it.0.behind it.0.begins)

pub list_first : (harts : ℕ) (words : List Word) (has : Bool) (listed : List Observed) (whole : List ℕ)
    (filter : Condition) (rest : List Word)
    → ((behind : List Word) → Takes words (mark_token mark.Filter ∷ []) behind → ⊥)
    → BeginsOther mark.Locations rest → IsBefore harts words has listed whole filter rest
    → ListFirst harts words has listed whole filter rest
list_first harts words has listed whole filter rest off other it =
    list_by harts words it.0 has listed whole filter rest off other it.1

-- a question where nothing is left
no_words : (harts : ℕ) (words : List Word) (quantifier : Quantifier) (condition : Condition) → words ≡ []
    → IsAsked harts words quantifier condition → ⊥
no_words harts words quantifier condition none it = nothing_begins quantifier it.behind
    (subst (λ (t : List Word). Takes t (quantifier_tokens quantifier) it.behind) none it.begins)
  where
    nothing_begins : (quantifier : Quantifier) (behind : List Word) → Takes [] (quantifier_tokens quantifier) behind → ⊥
    nothing_begins Exists behind takes = takes.so
    nothing_begins NotExists behind takes = takes.so
    nothing_begins ForAll behind takes = takes.so

pub asked_none : (harts : ℕ) (has : Bool) (words : List Word) (quantifier : Quantifier) (condition : Condition)
    → words ≡ [] → IsAskedAfter harts has words quantifier condition
    → (ForAll ≡ quantifier) × IsSame Always condition
asked_none harts has words quantifier condition none (inl it) =
    absurd (no_words harts words quantifier condition none it)
asked_none harts has words quantifier condition none (inr it) =
    (sym it.2, subst (λ (c : Condition). IsSame Always c) (sym it.3) tt)

pub asked_some : (harts : ℕ) (has : Bool) (words : List Word) (quantifier : Quantifier) (condition : Condition)
    → (has ≡ true → words ≡ [] → ⊥) → IsAskedAfter harts has words quantifier condition
    → IsAsked harts words quantifier condition
asked_some harts has words quantifier condition some (inl it) = it
asked_some harts has words quantifier condition some (inr it) = absurd (some it.0 it.1)
