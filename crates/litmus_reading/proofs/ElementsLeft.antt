-- The elements of an array, read in one way: those that are left, and what is read next of them.
use Rattle.std.proofs.Common.{◌≡◌, ℕ, ◌+◌, ◌<◌, ◌≤◌, List, [], ◌∷◌, ◌++◌, length, sym, ap, ◌∙◌, subst, inl, inr, arith, append_assoc}
use Rattle.std.specs.Prelude.{◌⊎◌}
use Rattle.litmus_tests.specs.declared.value.Value.{Value}
use Rattle.litmus_words.specs.declared.word.{Word.Word, Declared.Declared}
use Rattle.litmus_words.specs.declared.word.Token.{Token}
use Rattle.litmus_words.specs.declared.word.Token.TheVariants.{Mark}
use Rattle.litmus_words.specs.declared.word.Mark.TheVariants as mark
use Rattle.litmus_words.specs.Parts.{NoIndex, NoOffset}
use Rattle.litmus_words.specs.Tokens.{Takes}
use Rattle.litmus_words.proofs.Only.{one_first}
use Rattle.litmus_words.proofs.Taking.{begins_by, in_parts, same_rest}
use Rattle.litmus_reading.specs.declared.contents.Given.{Given}
use Rattle.litmus_reading.specs.declared.start.Entry.{Entry}
use Rattle.litmus_reading.specs.declared.start.Entry.TheVariants.{Location}
use Rattle.litmus_reading.specs.Fitting.{GivenValueTaken}
use Rattle.litmus_reading.specs.Names.{elements_of}
use Rattle.litmus_reading.specs.Starts.{ElementsTaken, SpellsElements, placed}
use Rattle.litmus_reading.proofs.Contained.{begins_other}

-- the elements that are left
pub record ElementsLeft (given : Given) (declared : Declared) (count : ℕ) (words : List Word)
    (now after : List Entry) (rest : List Word) : Type 0 where
  pub text : List Token
  pub values : List Value
  pub spells : SpellsElements given text values
  pub few : count + length values ≤ elements_of declared
  pub added : after ≡ now ++ placed (declared.first + count) values
  pub takes : Takes words text rest

pub all_left : (given : Given) (declared : Declared) (words : List Word) (now after : List Entry) (rest : List Word)
    → ElementsTaken given declared words now after rest → ElementsLeft given declared 0 words now after rest
all_left given declared words now after rest it = record {
  text = it.text;
  values = it.values;
  spells = it.spells;
  few = let few = it.few in omega (arith, few);
  added = it.added ∙ ap (λ (n : ℕ). now ++ placed n it.values)
      (let none : declared.first ≡ declared.first + 0 = omega arith in none);
  takes = it.takes;
}

-- what stands behind the next of them: a brace, or a comma and the others
abbrev pub ElementBehind : Given → Declared → ℕ → List Word → List Entry → List Entry → List Word → Type 0
ElementBehind given declared count words now after rest =
    (Takes words (Mark mark.RightBrace ∷ []) rest × (after ≡ now))
    ⊎ ((next : List Word) × Takes words (Mark mark.Comma ∷ []) next
    × ElementsLeft given declared count next now after rest)

pub record ElementNext (given : Given) (declared : Declared) (count : ℕ) (words : List Word) (now after : List Entry)
    (rest : List Word) : Type 0 where
  pub held : Value
  pub between : List Word
  pub value : GivenValueTaken given words held between
  pub no_index : NoIndex between
  pub no_offset : NoOffset between
  pub inside : count < elements_of declared
  pub behind : ElementBehind given declared (count + 1) between
      (now ++ Location (record { location = declared.first + count; value = held }) ∷ []) after rest

element_next : (given : Given) (declared : Declared) (count : ℕ) (words : List Word) (now after : List Entry)
    (rest : List Word) (text : List Token) (held : Value) (others : List Value)
    → SpellsElements given text (held ∷ others) → count + length (held ∷ others) ≤ elements_of declared
    → after ≡ now ++ placed (declared.first + count) (held ∷ others) → Takes words text rest
    → ElementNext given declared count words now after rest
element_next given declared count words now after rest text held others
    (first, last, fit, is, inl (brace, none)) few added takes =
    let parts = in_parts words rest first (Mark mark.RightBrace ∷ [])
    (subst (λ (t : List Token). Takes words t rest) (is ∙ ap (λ (t : List Token). first ++ t) brace) takes) in
    let over = begins_other parts.between rest (Mark mark.RightBrace) parts.behind (λ e. cc) (λ e. cc) in
    record {
      held = held;
      between = parts.between;
      value = record { text = first; spells = fit.0; fits = fit.1; takes = parts.before };
      no_index = over.0;
      no_offset = over.1;
      inside = omega (arith, few);
      behind = inl (
        parts.behind,
        added ∙ ap (λ (t : List Value). now ++ placed (declared.first + count) (held ∷ t)) none,
      );
    }
element_next given declared count words now after rest text held others
    (first, last, fit, is, inr (more, comma, further)) few added takes =
    let parts = in_parts words rest first (Mark mark.Comma ∷ more)
    (subst (λ (t : List Token). Takes words t rest) (is ∙ ap (λ (t : List Token). first ++ t) comma) takes) in
    let inner = begins_by parts.between rest (Mark mark.Comma) more parts.behind in
    let over = begins_other parts.between inner.between (Mark mark.Comma) inner.before (λ e. cc) (λ e. cc) in
    let one : declared.first + count + 1 ≡ declared.first + (count + 1) = omega arith in
    let here = Location (record { location = declared.first + count; value = held }) in
    record {
      held = held;
      between = parts.between;
      value = record { text = first; spells = fit.0; fits = fit.1; takes = parts.before };
      no_index = over.0;
      no_offset = over.1;
      inside = omega (arith, few);
      behind = inr (
        inner.between,
        inner.before,
        record {
          text = more;
          values = others;
          spells = further;
          few = omega (arith, few);
          added = added ∙ sym (append_assoc now (here ∷ []) (placed (declared.first + count + 1) others))
              ∙ ap (λ (n : ℕ). (now ++ here ∷ []) ++ placed n others) one;
          takes = inner.behind;
        },
      );
    }

next_by : (given : Given) (declared : Declared) (count : ℕ) (words : List Word) (now after : List Entry)
    (rest : List Word) (text : List Token) (values : List Value) → SpellsElements given text values
    → count + length values ≤ elements_of declared → after ≡ now ++ placed (declared.first + count) values
    → Takes words text rest → ElementNext given declared count words now after rest
next_by given declared count words now after rest text [] spells few added takes = absurd spells
next_by given declared count words now after rest text (held ∷ others) spells few added takes =
    element_next given declared count words now after rest text held others spells few added takes

pub next_left : (given : Given) (declared : Declared) (count : ℕ) (words : List Word) (now after : List Entry)
    (rest : List Word) → ElementsLeft given declared count words now after rest
    → ElementNext given declared count words now after rest
next_left given declared count words now after rest it =
    next_by given declared count words now after rest it.text it.values it.spells it.few it.added it.takes

-- what was read of the next of the elements
pub record ElementRead (given : Given) (declared : Declared) (count : ℕ) (words : List Word) (now after : List Entry)
    (rest : List Word) : Type 0 where
  pub behind : ElementBehind given declared count words now after rest

pub element_read : (given : Given) (declared : Declared) (count index : ℕ) (words behind : List Word)
    (before now after : List Entry) (rest : List Word) (held : Value)
    (next : ElementNext given declared count words before after rest) → held ≡ next.held → behind ≡ next.between
    → index ≡ declared.first + count
    → now ≡ before ++ Location (record { location = index; value = held }) ∷ []
    → ElementRead given declared (count + 1) behind now after rest
element_read given declared count index words behind before now after rest held next same there at is =
    let same_entry : Location (record { location = index; value = held })
    ≡ Location (record { location = declared.first + count; value = next.held }) =
    (λ k. Location (record { location = at k; value = same k })) in
    let added = is ∙ ap (λ (e : Entry). before ++ e ∷ []) same_entry in
    record {
      behind = subst (λ (t : List Word). ElementBehind given declared (count + 1) t now after rest) (sym there)
          (subst (λ (t : List Entry). ElementBehind given declared (count + 1) next.between t after rest) (sym added)
          next.behind);
    }

brace_or_comma : Mark mark.RightBrace ≡ Mark mark.Comma → ⊥
brace_or_comma e = cc

more_of : (given : Given) (declared : Declared) (count : ℕ) (words behind : List Word) (now after : List Entry)
    (rest : List Word) → Takes words (Mark mark.Comma ∷ []) behind
    → ElementBehind given declared count words now after rest
    → ElementsLeft given declared count behind now after rest
more_of given declared count words behind now after rest comma (inl last) =
    absurd (brace_or_comma (one_first words rest behind (Mark mark.RightBrace) (Mark mark.Comma) last.0 comma))
more_of given declared count words behind now after rest comma (inr (next, there, left)) =
    subst (λ (t : List Word). ElementsLeft given declared count t now after rest)
    (same_rest words next behind (Mark mark.Comma ∷ []) there comma) left

pub more_elements : (given : Given) (declared : Declared) (count : ℕ) (words behind : List Word)
    (now after : List Entry) (rest : List Word) → Takes words (Mark mark.Comma ∷ []) behind
    → ElementRead given declared count words now after rest
    → ElementsLeft given declared count behind now after rest
more_elements given declared count words behind now after rest comma it =
    more_of given declared count words behind now after rest comma it.behind

last_of : (given : Given) (declared : Declared) (count : ℕ) (words : List Word) (now after : List Entry)
    (rest : List Word) → ((behind : List Word) → Takes words (Mark mark.Comma ∷ []) behind → ⊥)
    → ElementBehind given declared count words now after rest
    → Takes words (Mark mark.RightBrace ∷ []) rest × (after ≡ now)
last_of given declared count words now after rest none (inl last) = last
last_of given declared count words now after rest none (inr more) = absurd (none more.0 more.1)

pub last_element : (given : Given) (declared : Declared) (count : ℕ) (words : List Word) (now after : List Entry)
    (rest : List Word) → ((behind : List Word) → Takes words (Mark mark.Comma ∷ []) behind → ⊥)
    → ElementRead given declared count words now after rest
    → Takes words (Mark mark.RightBrace ∷ []) rest × (after ≡ now)
last_element given declared count words now after rest none it =
    last_of given declared count words now after rest none it.behind
