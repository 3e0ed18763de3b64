-- Lines put together.
use Rattle.std.proofs.Common.{◌≡◌, ℕ, Bool, true, false, not, ◌&&◌, ◌||◌, ◌==◌, ◌+◌, ◌≤◌, List, [], ◌∷◌, ◌++◌, refl, sym, ap, ◌∙◌, arith}
use Rattle.std.proofs.Common.{zero-add, add_assoc}
use Rattle.std.proofs.lemmas.Bool.Decides.{nat_tests}
use Rattle.std.proofs.lemmas.Bool.{cases_Bool}
use mathlib.Core.Logic.{inl, inr}
use Rattle.std.specs.Prelude.{codes}
use Rattle.std.proofs.Common.{append_assoc}
use Rattle.hints.specs.Lines.{is_shown, are_shown, are_lines, lines_in, is_open_line, is_begun, IsHintText}
use Rattle.hints.specs.Parts.{name_of}
use Rattle.hints.specs.{declared.part.Part.Part}
use Rattle.hints.specs.declared.part.Part.TheVariants as names
use Rattle.hints.specs.{declared.hint.Form.Form}
use Rattle.hints.specs.declared.hint.Form.TheVariants.{Lines, Json}
use Rattle.hints.proofs.AllShown.{append_shown}

both : (a b : Bool) → (a && b) ≡ true → (a ≡ true) × (b ≡ true)
both true b is = (refl, is)
both false b is = absurd (cc)

-- lines behind lines
pub lines_behind : (within : Bool) (text more : List ℕ) → are_lines within text ≡ true → are_lines false more ≡ true
    → are_lines within (text ++ more) ≡ true
lines_behind false [] more first next = next
lines_behind true [] more first next = cc
lines_behind false (byte ∷ rest) more first next =
    let parts : ((byte == 32) ≡ true) × (are_lines true rest ≡ true) = (grind arith, grind arith) in
    rw (parts.0) (lines_behind true rest more parts.1 next)
lines_behind true (byte ∷ rest) more first next =
    elim (cases_Bool (byte == 10)) [
      | inl newline ↦
          let begins : are_lines false rest ≡ true = rw newline at first in
          rw newline (lines_behind false rest more begins next)
      | inr other ↦
          let parts = both (is_shown byte) (are_lines true rest) (rw other at first) in
          rw (other, parts.0) (lines_behind true rest more parts.1 next)
    ]

-- what is shown, and a newline, is within a line
pub shown_line : (text : List ℕ) → are_shown text ≡ true → are_lines true (text ++ 10 ∷ []) ≡ true
shown_line [] shown = refl
shown_line (byte ∷ rest) shown =
    let parts : (is_shown byte ≡ true) × (are_shown rest ≡ true) = (grind arith, grind arith) in
    let more = shown_line rest parts.1 in
    let other : (byte == 10) ≡ false = let s = parts.0 in grind (arith, nat_tests) in
    rw (other, parts.0) more

-- and has one newline
pub one_line : (text : List ℕ) → are_shown text ≡ true → lines_in (text ++ 10 ∷ []) ≡ 1
one_line [] shown = refl
one_line (byte ∷ rest) shown =
    let parts : (is_shown byte ≡ true) × (are_shown rest ≡ true) = (grind arith, grind arith) in
    let other : (byte == 10) ≡ false = let s = parts.0 in grind (arith, nat_tests) in
    rw other (zero-add _ ∙ one_line rest parts.1)

pub lines_add : (text more : List ℕ) → lines_in (text ++ more) ≡ lines_in text + lines_in more
lines_add [] more = sym (zero-add (lines_in more))
lines_add (byte ∷ rest) more = rw (lines_add rest more) (omega arith)

-- the end of an object makes a line of what is open
pub ended_line : (text : List ℕ) → is_open_line text ≡ true → are_lines false (text ++ 93 ∷ 125 ∷ 10 ∷ []) ≡ true
ended_line [] begun = cc
ended_line (byte ∷ rest) begun =
    let parts : ((byte == 32) ≡ true) × (are_shown rest ≡ true) = (grind arith, grind arith) in
    let more : are_lines true ((rest ++ 93 ∷ 125 ∷ []) ++ 10 ∷ []) ≡ true =
    shown_line (rest ++ 93 ∷ 125 ∷ []) (append_shown rest (93 ∷ 125 ∷ []) parts.1 refl) in
    rw (parts.0, sym (append_assoc rest (93 ∷ 125 ∷ []) (10 ∷ []))) more

pub ended_once : (text : List ℕ) → is_open_line text ≡ true → lines_in (text ++ 93 ∷ 125 ∷ 10 ∷ []) ≡ 1
ended_once [] begun = cc
ended_once (byte ∷ rest) begun =
    let parts : ((byte == 32) ≡ true) × (are_shown rest ≡ true) = (grind arith, grind arith) in
    let other : (byte == 10) ≡ false = let s = parts.0 in grind (arith, nat_tests) in
    let more : lines_in ((rest ++ 93 ∷ 125 ∷ []) ++ 10 ∷ []) ≡ 1 =
    one_line (rest ++ 93 ∷ 125 ∷ []) (append_shown rest (93 ∷ 125 ∷ []) parts.1 refl) in
    rw other (zero-add _ ∙ (ap lines_in (sym (append_assoc rest (93 ∷ 125 ∷ []) (10 ∷ []))) ∙ more))

-- a part's name, and what stands before its text
names_shown : (part : Part) → are_shown (name_of part ++ codes ": ") ≡ true
names_shown names.Error = refl
names_shown names.Tip = refl
names_shown names.Usage = refl
names_shown names.More = refl
names_shown names.File = refl
names_shown names.Place = refl
names_shown names.Word = refl
names_shown names.Line = refl
names_shown names.Cause = refl
names_shown names.Further = refl
names_shown names.Expected = refl
names_shown names.Meant = refl
names_shown names.Usually = refl
names_shown names.For = refl
names_shown names.See = refl

-- the line of a part
pub part_line : (part : Part) (shown : List ℕ) → are_shown shown ≡ true
    → are_lines false (((32 ∷ (name_of part ++ codes ": ")) ++ shown) ++ 10 ∷ []) ≡ true
part_line part shown is =
    shown_line ((name_of part ++ codes ": ") ++ shown) (append_shown (name_of part ++ codes ": ") shown (names_shown part) is)

pub part_once : (part : Part) (shown : List ℕ) → are_shown shown ≡ true
    → lines_in (((32 ∷ (name_of part ++ codes ": ")) ++ shown) ++ 10 ∷ []) ≡ 1
part_once part shown is =
    zero-add _
    ∙ one_line ((name_of part ++ codes ": ") ++ shown) (append_shown (name_of part ++ codes ": ") shown (names_shown part) is)

-- what is open stays so with more that is shown
pub open_more : (text more : List ℕ) → is_open_line text ≡ true → are_shown more ≡ true → is_open_line (text ++ more) ≡ true
open_more [] more begun shown = cc
open_more (byte ∷ rest) more begun shown =
    let parts : ((byte == 32) ≡ true) × (are_shown rest ≡ true) = (grind arith, grind arith) in
    rw (parts.0) (append_shown rest more parts.1 shown)

-- a line more
pub begun_more : (text line : List ℕ) (count : ℕ) → is_begun Lines count text ≡ true → are_lines false line ≡ true
    → lines_in line ≡ 1 → is_begun Lines (count + 1) (text ++ line) ≡ true
begun_more text line count begun is one =
    let parts : (are_lines false text ≡ true) × ((lines_in text == count) ≡ true) = (grind arith, grind arith) in
    let all : lines_in (text ++ line) ≡ lines_in text + lines_in line = lines_add text line in
    let counted : (lines_in (text ++ line) == count + 1) ≡ true = let same = parts.1 in grind (arith, nat_tests) in
    rw (lines_behind false text line parts.0 is, counted) refl

-- the lines so far are the text of a hint
pub begun_text : (form : Form) (text : List ℕ) (count : ℕ) → form ≡ Lines → count ≤ 15 → is_begun form count text ≡ true
    → IsHintText form text
begun_text Lines text count is few begun =
    let parts : (are_lines false text ≡ true) × ((lines_in text == count) ≡ true) = (grind arith, grind arith) in
    record { lines = parts.0; few = (let same = parts.1 in grind (arith, nat_tests)) }
begun_text Json text count is few begun = absurd (cc)

-- a part more: a line, or an object
pub line_more : (form : Form) (text line : List ℕ) (count : ℕ) → form ≡ Lines → is_begun form count text ≡ true
    → are_lines false line ≡ true → lines_in line ≡ 1 → is_begun form (count + 1) (text ++ line) ≡ true
line_more Lines text line count is begun lines one = begun_more text line count begun lines one
line_more Json text line count is begun lines one = absurd (cc)

pub object_more : (form : Form) (text object : List ℕ) (count : ℕ) → form ≡ Json → is_begun form count text ≡ true
    → are_shown object ≡ true → is_begun form (count + 1) (text ++ object) ≡ true
object_more Json text object count is begun shown = open_more text object begun shown
object_more Lines text object count is begun shown = absurd (cc)
