-- Where the first line of a text ends.

use Rattle.std.proofs.Common.{◌≡◌, ℕ, zero, suc, ◌≤◌, Bool, true, false, ◌==◌, List, [], ◌∷◌, ◌++◌, length, take, drop}
use Rattle.std.proofs.Common.{drop-cons, get_or, None, Some, refl, sym, subst, ◌∙◌, ap, arith, append_assoc, take_all}
use Rattle.std.proofs.lemmas.{Bool.Decides.nat_tests, List.take-append-drop}
use Rattle.memchr.specs.Find.{is_byte, IsFirstByte, Nowhere, Passes}
use Rattle.text_fields.specs.Splitting.{field, field_count, Lacks, rest}
use Rattle.text_fields.proofs.SplittingLaws.{count-alone, count-cut, field-cut, parts_of, rest-cut}
use Rattle.event_text.specs.Heads.{ended}

pub behind_ended : (line text : List ℕ) → ended line ++ text ≡ line ++ 10 ∷ text
behind_ended line text = append_assoc line (10 ∷ []) text

pub not_one : (text : List ℕ) → 2 ≤ field_count 10 text → (field_count 10 text == 1) ≡ false
not_one text two = grind (arith, nat_tests)

-- a line that stands ended before a text is found there
module _ (line text : List ℕ) (lacks : Lacks 10 line) where
  pub first_found : field 10 (ended line ++ text) ≡ line
  first_found = ap (field 10) (behind_ended line text) ∙ field-cut 10 line text lacks

  pub rest_found : rest 10 (ended line ++ text) ≡ text
  rest_found = ap (rest 10) (behind_ended line text) ∙ rest-cut 10 line text lacks

  pub more_found : 2 ≤ field_count 10 (ended line ++ text)
  more_found =
      let some = (parts_of 10 text).count in
      omega (arith, ap (field_count 10) (behind_ended line text), count-cut 10 line text lacks)

fails : (b : Bool) → ¬ (b ≡ true) → b ≡ false
fails true other = absurd (other refl)
fails false other = refl

-- no newline stands before the first
lacks_before : (text : List ℕ) (end : ℕ) → Nowhere (Passes (is_byte 10) text) 0 end → end ≤ length text
    → Lacks 10 (take end text)
lacks_before text zero none inside = refl
lacks_before [] (suc end) none inside = refl
lacks_before (c ∷ cs) (suc end) none inside =
    let other : (c == 10) ≡ false = fails (c == 10) (none 0 (omega arith) (omega arith)) in
    let later = lacks_before cs end
    (λ k low high passes. none (suc k) (omega arith) (omega arith) passes) (omega (arith, inside)) in
    rw other later

-- what stands before it is the first line, and a text goes on behind it
pub newline_found : (text : List ℕ) (end : ℕ) → IsFirstByte (is_byte 10) text (Some end)
    → (take end text ≡ field 10 text) × (2 ≤ field_count 10 text)
newline_found text end found =
    let inside = found.0.high in
    let newline : get_or text end 0 ≡ 10 = grind (arith, nat_tests, found.1) in
    let line = take end text in
    let behind = drop (suc end) text in
    let split : drop end text ≡ 10 ∷ behind =
    drop-cons text end 0 inside ∙ ap (λ c. c ∷ behind) newline in
    let whole : text ≡ line ++ 10 ∷ behind = sym (take-append-drop end text) ∙ ap (λ cs. line ++ cs) split in
    let lacks = lacks_before text end found.0.before (omega (arith, inside)) in
    let some = (parts_of 10 behind).count in
    let count = ap (field_count 10) whole ∙ count-cut 10 line behind lacks in
    (sym (ap (field 10) whole ∙ field-cut 10 line behind lacks), omega (arith, count, some))

pub newline_missing : (text : List ℕ) → IsFirstByte (is_byte 10) text None → (field_count 10 text == 1) ≡ true
newline_missing text none =
    let whole = take_all (length text) text (omega arith) in
    let lacks = subst (Lacks 10) whole (lacks_before text (length text) none (omega arith)) in
    let count = count-alone 10 text lacks in
    grind (arith, nat_tests, count)
