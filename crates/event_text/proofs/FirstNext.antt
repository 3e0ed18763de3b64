-- What comes next stands behind a letter, which belongs to its field.

use Rattle.std.proofs.Common.{◌≡◌, ◌≢◌, ℕ, ◌-◌, ◌<◌, Bool, true, false, ◌==◌, List, [], ◌∷◌, length, take, drop}
use Rattle.std.proofs.Common.{take_all}
use Rattle.std.proofs.Common.{get_or, Err, refl, sym, ◌∙◌, ap, arith}
use Rattle.text_fields.specs.{declared.read.FieldError.TheVariants.Misspelled, Splitting.field, Splitting.rest}
use Rattle.text_fields.proofs.FirstLemmas.{not_same}
use Rattle.text_fields.proofs.SplittingLaws.{field-empty, field-other, field-separator, rest-other}
use Rattle.event_text.specs.Reading.{ended_of, next_field, pc_field, stopped_of}

abbrev behind : List ℕ → List ℕ
behind fields = take (length fields - 1) (drop 1 fields)

letter_first : (fields : List ℕ) (c : ℕ) → get_or fields 0 0 ≡ c → (c == 0) ≡ false → (c == 32) ≡ false
    → (field 32 fields ≡ c ∷ field 32 (behind fields)) × (rest 32 (behind fields) ≡ rest 32 fields)
letter_first [] c is some other = cc (ap (λ e. e == 0) is ∙ some)
letter_first (d ∷ cs) c is some other =
    let one : length (d ∷ cs) - 1 ≡ length cs = omega arith in
    let same : behind (d ∷ cs) ≡ cs = ap (λ n. take n cs) one ∙ take_all (length cs) cs (omega arith) in
    let no_space : (d == 32) ≡ false = ap (λ e. e == 32) is ∙ other in (
      field-other 32 d cs no_space ∙ ap (λ e. e ∷ field 32 cs) is ∙ ap (λ text. c ∷ field 32 text) (sym same),
      ap (rest 32) same ∙ sym (rest-other 32 d cs no_space),
    )

module _ (fields : List ℕ) where
  pub next_pc : get_or fields 0 0 ≡ 112 → (next_field (field 32 fields) ≡ pc_field (field 32 (behind fields)))
      × (rest 32 (behind fields) ≡ rest 32 fields)
  unfolding next_field
  next_pc is = let first = letter_first fields 112 is refl refl in (ap next_field first.0, first.1)

  pub next_ended : get_or fields 0 0 ≡ 101 → (next_field (field 32 fields) ≡ ended_of (field 32 (behind fields)))
      × (rest 32 (behind fields) ≡ rest 32 fields)
  unfolding next_field
  next_ended is = let first = letter_first fields 101 is refl refl in (ap next_field first.0, first.1)

  pub next_stopped : get_or fields 0 0 ≡ 115 → (next_field (field 32 fields) ≡ stopped_of (field 32 (behind fields)))
      × (rest 32 (behind fields) ≡ rest 32 fields)
  unfolding next_field
  next_stopped is = let first = letter_first fields 115 is refl refl in (ap next_field first.0, first.1)

by_space : (b : Bool) (c : ℕ) (cs : List ℕ) → (c == 32) ≡ b → (c == 112) ≡ false → (c == 101) ≡ false
    → (c == 115) ≡ false → next_field (field 32 (c ∷ cs)) ≡ Err Misspelled
unfolding next_field
by_space true c cs is p e s = rw (field-separator 32 c cs is) refl
by_space false c cs is p e s = rw (field-other 32 c cs is, p, e, s) refl

pub no_letter : (fields : List ℕ) → (0 < length fields → get_or fields 0 0 ≢ 112)
    → (0 < length fields → get_or fields 0 0 ≢ 101) → (0 < length fields → get_or fields 0 0 ≢ 115)
    → next_field (field 32 fields) ≡ Err Misspelled
unfolding next_field
no_letter [] p e s = rw field-empty refl
no_letter (c ∷ cs) p e s =
    by_space (c == 32) c cs refl (not_same c 112 (p (omega arith))) (not_same c 101 (e (omega arith)))
    (not_same c 115 (s (omega arith)))
