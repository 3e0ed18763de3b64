-- Fields that are read in turn: what is read of them is what they spell, and what is spelled so is read.

use Rattle.std.proofs.Common.{◌≡◌, ℕ, suc, ◌≤◌, ◌⊎◌, inl, inr, List, [], ◌∷◌, ◌++◌, Result, Ok, Err, refl, sym, ◌∙◌}
use Rattle.std.proofs.Common.{ap, arith}
use Rattle.text_fields.specs.{declared.read.FieldError.FieldError, Splitting.field_count, Splitting.Lacks}
use Rattle.text_fields.proofs.SplittingLaws.{count-alone, field-cut, field-empty, parts_of, rest-alone, rest-cut}
use Rattle.event_text.specs.Reading.{◌>>=◌, first_field, others}

-- a reading that went well: what its first step read, and that the others went well with it
pub bind_only : {A B E : Type 0} (r : Result A E) (next : A → Result B E) (b : B) → (r >>= next) ≡ Ok b →
    (a : A) × (r ≡ Ok a) × (next a ≡ Ok b)
bind_only (Ok a) next b read = (a, refl, read)
bind_only (Err error) next b read = cc

-- one field: it has some text and no space; where the ranges are small what it is read as is in range and spelled so
pub record IsField {A : Type 0} (Small : Type 0) (read : List ℕ → Result A FieldError) (spelling : A → List ℕ)
    (In : A → Type 0) : Type 0 where
  pub only : Small → (a : A) (text : List ℕ) → read text ≡ Ok a → In a × (text ≡ spelling a)
  pub back : Small → (a : A) → In a → read (spelling a) ≡ Ok a
  pub lacks : (a : A) (text : List ℕ) → read text ≡ Ok a → Lacks 32 text
  pub some : (a : A) → read [] ≡ Ok a → ⊥

-- so many fields in turn
pub record IsReading {B : Type 0} (Small : Type 0) (many : ℕ) (read : List ℕ → Result B FieldError)
    (Spells : B → List ℕ → Type 0) : Type 0 where
  pub only : Small → (b : B) (text : List ℕ) → read text ≡ Ok b → Spells b text
  pub back : Small → (b : B) (text : List ℕ) → Spells b text → read text ≡ Ok b
  pub count : (b : B) (text : List ℕ) → read text ≡ Ok b → field_count 32 text ≡ many
  pub some : (b : B) → read [] ≡ Ok b → ⊥

-- the last field
abbrev pub Alone : {A : Type 0} → (A → List ℕ) → (A → Type 0) → A → List ℕ → Type 0
Alone spelling In a text = In a × (text ≡ spelling a)

pub alone : {A Small : Type 0} {read : List ℕ → Result A FieldError} {spelling : A → List ℕ} {In : A → Type 0}
    → IsField Small read spelling In → IsReading Small 1 read (Alone spelling In)
alone {read = read} field = record {
  only = field.only;
  back = λ small a text is. ap read is.1 ∙ field.back small a is.0;
  count = λ a text is. count-alone 32 text (field.lacks a text is);
  some = field.some;
}

-- a field with others behind it
abbrev pub Before : {A B : Type 0} → (A → List ℕ) → (A → Type 0) → (A → B → List ℕ → Type 0) → B → List ℕ → Type 0
Before {A = A} spelling In Behind b text =
    (a : A) × In a × (behind : List ℕ) × (text ≡ spelling a ++ 32 ∷ behind) × Behind a b behind

-- where the others are some text, they stand behind a space
pub cut : (text : List ℕ) → (others text ≡ [] → ⊥)
    → (text ≡ first_field text ++ 32 ∷ others text) × (field_count 32 text ≡ suc (field_count 32 (others text)))
cut text some =
    let parts = parts_of 32 text in
    let one_or_more : (field_count 32 text ≡ 1) ⊎ (2 ≤ field_count 32 text) = let least = parts.count in grind arith in
    elim one_or_more [
      | inl one ↦ absurd (some (rest-alone 32 text (rw (← parts.alone one) at parts.lacks)))
      | inr two ↦ parts.cut two
    ]

module _ {A B Small : Type 0} {read : List ℕ → Result A FieldError} {spelling : A → List ℕ} {In : A → Type 0}
    (many : ℕ) (next : A → List ℕ → Result B FieldError) {Behind : A → B → List ℕ → Type 0}
    (first : IsField Small read spelling In) (behind : (a : A) → IsReading Small many (next a) (Behind a)) where
  in_turn : List ℕ → Result B FieldError
  in_turn fields = read (first_field fields) >>= λ a. next a (others fields)

  some_behind : (a : A) (b : B) (text : List ℕ) → next a (others text) ≡ Ok b → others text ≡ [] → ⊥
  some_behind a b text is none = (behind a).some b (ap (next a) (sym none) ∙ is)

  turn_only : Small → (b : B) (text : List ℕ) → in_turn text ≡ Ok b → Before spelling In Behind b text
  unfolding in_turn
  turn_only small b text is =
      let step = bind_only (read (first_field text)) (λ a. next a (others text)) b is in
      let one = first.only small step.0 (first_field text) step.1 in
      let whole = (cut text (some_behind step.0 b text step.2)).0 in
      let later = (behind step.0).only small b (others text) step.2 in
      (step.0, one.0, others text, whole ∙ ap (λ f. f ++ 32 ∷ others text) one.1, later)

  turn_back : Small → (b : B) (text : List ℕ) → Before spelling In Behind b text → in_turn text ≡ Ok b
  unfolding in_turn
  turn_back small b text (a, within, after, is, spelled) =
      let read_back = first.back small a within in
      let lacks = first.lacks a (spelling a) read_back in
      let one : first_field text ≡ spelling a = ap first_field is ∙ field-cut 32 (spelling a) after lacks in
      let two : others text ≡ after = ap others is ∙ rest-cut 32 (spelling a) after lacks in
      rw (one, read_back, two, (behind a).back small b after spelled) refl

  turn_count : (b : B) (text : List ℕ) → in_turn text ≡ Ok b → field_count 32 text ≡ suc many
  unfolding in_turn
  turn_count b text is =
      let step = bind_only (read (first_field text)) (λ a. next a (others text)) b is in
      (cut text (some_behind step.0 b text step.2)).1 ∙ ap suc ((behind step.0).count b (others text) step.2)

  turn_some : (b : B) → in_turn [] ≡ Ok b → ⊥
  unfolding in_turn
  turn_some b is =
      let step = bind_only (read (first_field [])) (λ a. next a (others [])) b is in
      first.some step.0 (ap read (sym (field-empty 32)) ∙ step.1)

  pub before : IsReading Small (suc many) (λ fields. read (first_field fields) >>= λ a. next a (others fields))
      (Before spelling In Behind)
  unfolding in_turn
  before = record { only = turn_only; back = turn_back; count = turn_count; some = turn_some }

-- what is made of what was read, and may be refused
abbrev pub Made : {A B : Type 0} → (A → List ℕ → Type 0) → (A → Result B FieldError) → B → List ℕ → Type 0
Made {A = A} Spells make b text = (a : A) × Spells a text × (make a ≡ Ok b)

pub made : {A B Small : Type 0} {many : ℕ} {read : List ℕ → Result A FieldError} {Spells : A → List ℕ → Type 0}
    (make : A → Result B FieldError) → IsReading Small many read Spells
    → IsReading Small many (λ fields. read fields >>= make) (Made Spells make)
made {read = read} make reading = record {
  only = λ small b text is.
      let step = bind_only (read text) make b is in (step.0, reading.only small step.0 text step.1, step.2);
  back = λ small b text is. rw (reading.back small is.0 text is.1) is.2;
  count = λ b text is.
      let step = bind_only (read text) make b is in reading.count step.0 text step.1;
  some = λ b is. let step = bind_only (read []) make b is in reading.some step.0 step.1;
}

-- what has to be in order before the fields are read
abbrev pub After : {A B : Type 0} → Result A FieldError → (A → B → List ℕ → Type 0) → B → List ℕ → Type 0
After {A = A} r Spells b text = (a : A) × (r ≡ Ok a) × Spells a b text

pub after : {A B Small : Type 0} {many : ℕ} (r : Result A FieldError) (next : A → List ℕ → Result B FieldError)
    {Spells : A → B → List ℕ → Type 0} → ((a : A) → IsReading Small many (next a) (Spells a))
    → IsReading Small many (λ fields. r >>= λ a. next a fields) (After r Spells)
after r next reading = record {
  only = λ small b text is.
      let step = bind_only r (λ a. next a text) b is in (step.0, step.1, (reading step.0).only small b text step.2);
  back = λ small b text is. rw is.1 ((reading is.0).back small b text is.2);
  count = λ b text is.
      let step = bind_only r (λ a. next a text) b is in (reading step.0).count b text step.2;
  some = λ b is. let step = bind_only r (λ a. next a []) b is in (reading step.0).some b step.2;
}

-- the same spelling said otherwise
pub said : {B Small : Type 0} {many : ℕ} {read : List ℕ → Result B FieldError} {Spells Says : B → List ℕ → Type 0}
    → ((b : B) (text : List ℕ) → Spells b text → Says b text) → ((b : B) (text : List ℕ) → Says b text → Spells b text)
    → IsReading Small many read Spells → IsReading Small many read Says
said to from reading = record {
  only = λ small b text is. to b text (reading.only small b text is);
  back = λ small b text is. reading.back small b text (from b text is);
  count = reading.count;
  some = reading.some;
}
