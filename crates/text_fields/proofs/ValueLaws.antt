-- A number in either base, read where its text is cut.
use Rattle.std.proofs.Common.{◌≡◌, ◌≢◌, ℕ, ◌-◌, ◌^◌, ◌≤◌, ◌<◌, ◌⊎◌, true, false, ◌&&◌, nat_le, List, [], ◌∷◌, ◌++◌, length}
use Rattle.std.proofs.Common.{Option, Some, None, IfSome, IfNone, Result, Ok, Err, inl, inr, refl, sym, ap, subst, ◌∙◌, arith, codes}
use Rattle.std.proofs.{lemmas.Bool.Decides.nat_tests}
use Rattle.text_fields.specs.{Reading.decimal_field, Reading.hex_field, Spelling.hex}
use Rattle.text_fields.specs.Splitting.{field, rest}
use Rattle.text_fields.specs.Values.{SpellsDecimal, SpellsHexadecimal, SpellsValue}
use Rattle.text_fields.specs.declared.read.FieldError.{FieldError}
use Rattle.text_fields.proofs.{DecimalLaws.decimal_field_only, DecimalLaws.decimal_field-decimal}
use Rattle.text_fields.proofs.{HexLaws.hex_field-hex, HexLaws.hex_field_only, HexLaws.length-hex}
use Rattle.text_fields.proofs.SplittingLaws.{cut_where, parts_at}

pub no_number : (max n : ℕ) → decimal_field max [] ≢ Ok n
unfolding decimal_field
no_number max n = λ is. cc

not_nothing : (digits : List ℕ) → 1 ≤ length digits → digits ≡ [] → ⊥
not_nothing [] some none = absurd (omega (arith, some))
not_nothing (d ∷ ds) some none = cc

pub hexadecimal_found : (text lead digits : List ℕ) (v : ℕ) → lead ≡ field 120 text → digits ≡ rest 120 text
    → lead ≡ codes "0" → (nat_le 1 (length digits) && nat_le (length digits) 8) ≡ true
    → Ok v ≡ hex_field (length digits) digits → SpellsHexadecimal text v
hexadecimal_found text lead digits v first behind is can read =
    let number = hex_field_only (length digits) v digits (sym read) in
    let bounds : (1 ≤ length digits) × (length digits ≤ 8) = (grind (arith, nat_tests), grind (arith, nat_tests)) in
    let some : rest 120 text ≢ [] = λ none. not_nothing digits bounds.0 (behind ∙ none) in
    let cut : text ≡ codes "0" ++ 120 ∷ digits =
    cut_where 120 text some ∙ ap (λ t. t ++ 120 ∷ rest 120 text) (sym first ∙ is)
    ∙ ap (λ t. codes "0" ++ 120 ∷ t) (sym behind) in
    record {
      digits = length digits;
      some = bounds.0;
      few = bounds.1;
      in_range = number.0;
      spelled = subst (λ t. text ≡ codes "0x" ++ t) number.1 cut;
    }

hexadecimal_parts : (text : List ℕ) (v : ℕ) (is : SpellsHexadecimal text v)
    → (field 120 text ≡ codes "0") × (rest 120 text ≡ hex is.digits v)
hexadecimal_parts text v is = parts_at 120 text (codes "0") (hex is.digits v) is.spelled refl

pub hexadecimal_lead : (text lead : List ℕ) → lead ≡ field 120 text → (lead ≡ codes "0" → ⊥) → (v : ℕ)
    → SpellsHexadecimal text v → ⊥
hexadecimal_lead text lead first other v is = other (first ∙ (hexadecimal_parts text v is).0)

pub hexadecimal_length : (text digits : List ℕ) → digits ≡ rest 120 text
    → (nat_le 1 (length digits) && nat_le (length digits) 8) ≡ false → (v : ℕ) → SpellsHexadecimal text v → ⊥
hexadecimal_length text digits behind cannot v is =
    let long : length digits ≡ is.digits = ap length (behind ∙ (hexadecimal_parts text v is).1) ∙ length-hex is.digits v in
    let some = is.some in
    let few = is.few in
    let can : (nat_le 1 (length digits) && nat_le (length digits) 8) ≡ true = rw long (grind (arith, nat_tests)) in
    let never : true ≡ false = sym can ∙ cannot in cc

pub hexadecimal_none : (text digits : List ℕ) (error : FieldError) → digits ≡ rest 120 text
    → Err error ≡ hex_field (length digits) digits → (v : ℕ) → SpellsHexadecimal text v → ⊥
hexadecimal_none text digits error behind read v is =
    let same : digits ≡ hex is.digits v = behind ∙ (hexadecimal_parts text v is).1 in
    let number : hex_field (length digits) digits ≡ Ok v =
    rw (same, length-hex is.digits v) (hex_field-hex is.digits v is.in_range) in
    let never : Err error ≡ Ok v = read ∙ number in cc

pub value_none : (text : List ℕ) (error : FieldError) → Err error ≡ decimal_field (2 ^ 32 - 1) text
    → ((v : ℕ) → SpellsHexadecimal text v → ⊥) → (v : ℕ) → SpellsValue text v → ⊥
value_none text error read none v (inl is) =
    let number : decimal_field (2 ^ 32 - 1) text ≡ Ok v =
    rw is.spelled (decimal_field-decimal (2 ^ 32 - 1) v is.in_range (grind arith)) in
    let never : Err error ≡ Ok v = read ∙ number in cc
value_none text error read none v (inr is) = none v is

pub value_is : (text : List ℕ) (v : ℕ) → Ok v ≡ decimal_field (2 ^ 32 - 1) text → SpellsValue text v
value_is text v read =
    let number = decimal_field_only (2 ^ 32 - 1) v text (grind arith) (sym read) in
    inl (record { in_range = number.0; spelled = number.1 })

pub value_found_of : (text : List ℕ) (found : Option ℕ) → IfSome found (SpellsHexadecimal text)
    → IfSome found (SpellsValue text)
value_found_of text (Some v) is = inr is
value_found_of text None is = tt

pub value_none_of : (text : List ℕ) (error : FieldError) (found : Option ℕ)
    → Err error ≡ decimal_field (2 ^ 32 - 1) text → IfNone found ((v : ℕ) → SpellsHexadecimal text v → ⊥)
    → IfNone found ((v : ℕ) → SpellsValue text v → ⊥)
value_none_of text error (Some v) read none = tt
value_none_of text error None read none = value_none text error read none

pub value_some : (v : ℕ) → SpellsValue [] v → ⊥
value_some v (inl is) =
    no_number (2 ^ 32 - 1) v (rw is.spelled (decimal_field-decimal (2 ^ 32 - 1) v is.in_range (grind arith)))
value_some v (inr is) = let never = is.spelled in cc
