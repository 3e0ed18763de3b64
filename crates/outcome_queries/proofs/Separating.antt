-- A list that is read a part at a time.
use Rattle.std.proofs.Common.{◌≡◌, ℕ, suc, ◌+◌, ◌-◌, ◌≤◌, ◌<◌, List, [], ◌∷◌, ◌++◌, length, refl, sym, ap, subst, ◌∙◌}
use Rattle.std.proofs.Common.{arith}
use Rattle.std.proofs.Common.{append_assoc}
use Rattle.std.proofs.lemmas.List.{length-append}
use Rattle.outcome_queries.specs.Quoted.{field_outside}
use Rattle.outcome_queries.specs.declared.refused.{QueryRefused.QueryRefused, Expected.Expected}
use Rattle.outcome_queries.specs.Lists.{IsLed, IsSeparated, IsPartRefused, IsRefusedFor}

-- Of a text this much has been read, and the rest says what is left.
pub record IsRead {A : Type 0} (Says : List ℕ → A → Type 0) (s : ℕ) (text rest_text : List ℕ) (items : List A)
    : Type 0 where
  pub before : List ℕ
  pub whole : text ≡ before ++ rest_text
  pub led : IsLed Says s before items

-- one more part is read
one_led : {A : Type 0} (Says : List ℕ → A → Type 0) (s : ℕ) (before first : List ℕ) (old : List A) (one : A)
    → IsLed Says s before old → Says first one → IsLed Says s (before ++ (first ++ s ∷ [])) (old ++ one ∷ [])
one_led Says s before first [] one led says =
    (first, [], ap (λ t. t ++ (first ++ s ∷ [])) led, says, refl)
one_led Says s before first (next ∷ old) one led says = (
  led.0,
  led.1 ++ (first ++ s ∷ []),
  ap (λ t. t ++ (first ++ s ∷ [])) led.2 ∙ append_assoc led.0 (s ∷ led.1) (first ++ s ∷ []),
  led.3,
  one_led Says s led.1 first old one led.4 says,
)

pub part_read : {A : Type 0} (Says : List ℕ → A → Type 0) (s : ℕ) (text old_rest first new_rest : List ℕ)
    (old new : List A) → IsRead Says s text old_rest old → old_rest ≡ first ++ s ∷ new_rest
    → (one : A) × Says first one × (new ≡ old ++ one ∷ []) → IsRead Says s text new_rest new
part_read {A} Says s text old_rest first new_rest old new is cut taken = record {
  before = is.before ++ (first ++ s ∷ []);
  whole = is.whole ∙ ap (λ t. is.before ++ t) (cut ∙ sym (append_assoc first (s ∷ []) new_rest))
      ∙ sym (append_assoc is.before (first ++ s ∷ []) new_rest);
  led = subst (λ (t : List A). IsLed Says s (is.before ++ (first ++ s ∷ [])) t) (sym taken.2)
      (one_led Says s is.before first old taken.0 is.led taken.1);
}

-- the last one is
with_first : {A : Type 0} (Says : List ℕ → A → Type 0) (s : ℕ) (text first others : List ℕ) (one : A) (more : List A)
    → text ≡ first ++ s ∷ others → Says first one → IsSeparated Says s others more
    → IsSeparated Says s text (one ∷ more)
with_first Says s text first others one [] cut says is = absurd is
with_first Says s text first others one (next ∷ more) cut says is = (first, others, cut, says, is)

goes_on : {A : Type 0} (Says : List ℕ → A → Type 0) (s : ℕ) (before rest_text : List ℕ) (old more : List A)
    → IsLed Says s before old → IsSeparated Says s rest_text more
    → IsSeparated Says s (before ++ rest_text) (old ++ more)
goes_on {A} Says s before rest_text [] more led is =
    subst (λ t. IsSeparated Says s (t ++ rest_text) more) (sym led) is
goes_on {A} Says s before rest_text (one ∷ old) more led is =
    with_first Says s (before ++ rest_text) led.0 (led.1 ++ rest_text) one (old ++ more)
    (ap (λ t. t ++ rest_text) led.2 ∙ append_assoc led.0 (s ∷ led.1) rest_text) led.3
    (goes_on Says s led.1 rest_text old more led.4 is)

pub last_read : {A : Type 0} (Says : List ℕ → A → Type 0) (s : ℕ) (text last : List ℕ) (old new : List A)
    → IsRead Says s text last old → (one : A) × Says last one × (new ≡ old ++ one ∷ []) → IsSeparated Says s text new
last_read {A} Says s text last old new is taken =
    subst (λ (t : List A). IsSeparated Says s text t) (sym taken.2)
    (subst (λ t. IsSeparated Says s t (old ++ taken.0 ∷ [])) (sym is.whole)
    (goes_on Says s is.before last old (taken.0 ∷ []) is.led taken.1))

-- how much is left
pub within : {A : Type 0} (Says : List ℕ → A → Type 0) (s : ℕ) (text rest_text : List ℕ) (items : List A)
    → IsRead Says s text rest_text items → length rest_text ≤ length text
within Says s text rest_text items is =
    let long : length text ≡ length is.before + length rest_text =
    ap length is.whole ∙ length-append is.before rest_text in omega (arith, long)

pub shorter : (s : ℕ) (old_rest first new_rest : List ℕ) → old_rest ≡ first ++ s ∷ new_rest
    → length new_rest < length old_rest
shorter s old_rest first new_rest cut =
    let long : length old_rest ≡ length first + suc (length new_rest) =
    ap length cut ∙ length-append first (s ∷ new_rest) in omega (arith, long)

-- a part is refused
pub part_refused : {A : Type 0} (Says : List ℕ → A → Type 0) (Denies : List ℕ → Expected → Type 0) (s : ℕ)
    (text rest_text part : List ℕ) (items : List A) (refused : QueryRefused) → IsRead Says s text rest_text items
    → part ≡ field_outside s rest_text → IsPartRefused Says Denies (length items) part refused.expected
    → refused.column ≡ length text - length rest_text + 1 → IsRefusedFor Says Denies s text refused
part_refused Says Denies s text rest_text part items refused is at why place =
    let long : length text ≡ length is.before + length rest_text =
    ap length is.whole ∙ length-append is.before rest_text in
    record {
      before = is.before;
      said = items;
      rest = rest_text;
      whole = is.whole;
      led = is.led;
      part = subst (λ t. IsPartRefused Says Denies (length items) t refused.expected) at why;
      place = omega (arith, long, place);
    }
