-- A line is cut at its first space and at its last, and its parts are spelled as it is.
use Rattle.std.proofs.Common.{◌≡◌, ◌≢◌, ℕ, ◌+◌, ◌-◌, ◌^◌, ◌<◌, Bool, true, false, not, ◌==◌, ◌&&◌, ◌≤◌, List, [], ◌∷◌, ◌++◌}
use Rattle.std.proofs.Common.{length, get_or, take, drop, reverse, Ok, refl, sym, ap, subst, ◌∙◌, append_assoc, arith, lit<}
use Rattle.std.proofs.lemmas.List.{reverse-append, reverse-reverse, drop_more, take-append-drop}
use Rattle.std.proofs.lemmas.Grind.{reverse_onto}
use Rattle.std.proofs.lemmas.List.Folds.{list_all-append}
use Rattle.std.proofs.lemmas.Bool.Decides.{nat_tests}
use Rattle.std.specs.{Fmt.decimal}
use Rattle.text_fields.specs.{Reading.decimal_field, Reading.hex_field, Spelling.hex}
use Rattle.text_fields.specs.Splitting.{field, field_count, rest, Lacks}
use Rattle.text_fields.proofs.SplittingLaws.{cut_where, parts_at, parts_of, field-alone, rest-alone}
use Rattle.text_fields.proofs.{HexLaws.hex_field_only, DecimalLaws.decimal_field_only, LacksLaws.Lacks-append}
use Rattle.source_lines.specs.Lines.{Origin, line_text}
use Rattle.source_lines.specs.Faults.{file_in, number_in}

pub reverse-cons : (c : ℕ) (cs : List ℕ) → reverse (c ∷ cs) ≡ reverse cs ++ c ∷ []
reverse-cons c cs = reverse_onto cs c []

lacks_parts : (s c : ℕ) (cs : List ℕ) → Lacks s (c ∷ cs) → ((c == s) ≡ false) × Lacks s cs
lacks_parts s c cs lacks = (grind (arith, nat_tests), grind (arith, nat_tests))

one_lacks : (s c : ℕ) → (c == s) ≡ false → Lacks s (c ∷ [])
one_lacks s c is = rw is refl

pub Lacks-reverse : (s : ℕ) (text : List ℕ) → Lacks s text → Lacks s (reverse text)
Lacks-reverse s [] lacks = refl
Lacks-reverse s (c ∷ cs) lacks =
    let parts = lacks_parts s c cs lacks in
    rw (reverse-cons c cs) (Lacks-append s (reverse cs) (c ∷ []) (Lacks-reverse s cs parts.1) (one_lacks s c parts.0))

-- a text with a cut in it, from its end
reversed_cut : (s : ℕ) (before behind : List ℕ) → reverse (before ++ s ∷ behind) ≡ reverse behind ++ s ∷ reverse before
reversed_cut s before behind =
    reverse-append before (s ∷ behind) ∙ ap (λ bs. bs ++ reverse before) (reverse-cons s behind)
    ∙ append_assoc (reverse behind) (s ∷ []) (reverse before)

-- what stands before the last separator, and what behind it
pub last_cut : (s : ℕ) (text before behind : List ℕ) → text ≡ before ++ s ∷ behind → Lacks s behind
    → (before ≡ reverse (rest s (reverse text))) × (behind ≡ reverse (field s (reverse text)))
last_cut s text before behind is lacks =
    let turned : reverse text ≡ reverse behind ++ s ∷ reverse before = ap reverse is ∙ reversed_cut s before behind in
    let parts = parts_at s (reverse text) (reverse behind) (reverse before) turned (Lacks-reverse s behind lacks) in
    (sym (ap reverse parts.1 ∙ reverse-reverse before), sym (ap reverse parts.0 ∙ reverse-reverse behind))

pub last_alone : (s : ℕ) (text : List ℕ) → Lacks s text
    → ([] ≡ reverse (rest s (reverse text))) × (text ≡ reverse (field s (reverse text)))
last_alone s text lacks =
    let turned = Lacks-reverse s text lacks in (
      sym (ap reverse (rest-alone s (reverse text) turned)),
      sym (ap reverse (field-alone s (reverse text) turned) ∙ reverse-reverse text),
    )

-- the search from the end: none of the last bytes is the separator
pub lacks_none : (s : ℕ) (text : List ℕ) → Lacks s (drop (length text) text)
lacks_none s [] = refl
lacks_none s (c ∷ cs) = lacks_none s cs

pub lacks_more : (s : ℕ) (text : List ℕ) (back : ℕ) → back < length text
    → (get_or text (length text - 1 - back) 0 == s) ≡ false → Lacks s (drop (length text - back) text)
    → Lacks s (drop (length text - (back + 1)) text)
lacks_more s text back inside other lacks =
    let place : ℕ = length text - 1 - back in
    let here : length text - (back + 1) ≡ place = omega arith in
    let next : length text - back ≡ place + 1 = omega arith in
    let behind : Lacks s (drop (place + 1) text) = rw next at lacks in
    rw (here, drop_more text place 0 (omega arith), other) behind

pub cut_at : (text : List ℕ) (place : ℕ) → place < length text
    → text ≡ take place text ++ get_or text place 0 ∷ drop (place + 1) text
cut_at text place inside =
    sym (take-append-drop place text) ∙ ap (λ bs. take place text ++ bs) (drop_more text place 0 inside)

-- the last separator is at a place: what stands on both sides
pub last_at : (s : ℕ) (text : List ℕ) (back : ℕ) → back < length text
    → get_or text (length text - 1 - back) 0 ≡ s → Lacks s (drop (length text - back) text)
    → (take (length text - 1 - back) text ≡ reverse (rest s (reverse text)))
    × (drop (length text - 1 - back + 1) text ≡ reverse (field s (reverse text)))
last_at s text back inside is lacks =
    let place : ℕ = length text - 1 - back in
    let next : length text - back ≡ place + 1 = omega arith in
    let behind : Lacks s (drop (place + 1) text) = rw next at lacks in
    let whole : text ≡ take place text ++ s ∷ drop (place + 1) text =
    cut_at text place (omega arith) ∙ ap (λ b. take place text ++ b ∷ drop (place + 1) text) is in
    last_cut s text (take place text) (drop (place + 1) text) whole behind

-- a text of which something stands before its last separator
cut_from_end : (s : ℕ) (text : List ℕ) → reverse (rest s (reverse text)) ≢ []
    → text ≡ reverse (rest s (reverse text)) ++ s ∷ reverse (field s (reverse text))
cut_from_end s text some =
    let front : rest s (reverse text) ≢ [] = λ none. some (ap reverse none) in
    let whole = cut_where s (reverse text) front in
    sym (reverse-reverse text) ∙ ap reverse whole ∙ reversed_cut s (field s (reverse text)) (rest s (reverse text))

not_empty : (s : ℕ) (text : List ℕ) → reverse (rest s (reverse text)) ≢ [] → text ≢ []
not_empty s [] some none = some (ap reverse (rest-alone s [] refl))
not_empty s (c ∷ cs) some none = cc

-- a line is spelled as its parts were read
pub spelled_back : (text file : List ℕ) (address number : ℕ) → hex_field 8 (field 32 text) ≡ Ok address
    → file ≡ file_in (rest 32 text) → file ≢ [] → decimal_field (2 ^ 32 - 1) (number_in (rest 32 text)) ≡ Ok number
    → hex 8 address ++ 32 ∷ (file ++ 32 ∷ decimal number) ≡ text
spelled_back text file address number first same some last =
    let named : file_in (rest 32 text) ≢ [] = λ none. some (same ∙ none) in
    let others = cut_from_end 32 (rest 32 text) named in
    let whole = cut_where 32 text (not_empty 32 (rest 32 text) named) in
    let start = (hex_field_only 8 address (field 32 text) first).1 in
    let end = (decimal_field_only (2 ^ 32 - 1) number (number_in (rest 32 text)) (lit< tt) last).1 in
    sym (whole ∙ ap (λ bs. bs ++ 32 ∷ rest 32 text) start ∙ ap (λ bs. hex 8 address ++ 32 ∷ bs)
    (others ∙ ap (λ bs. bs ++ 32 ∷ number_in (rest 32 text)) (sym same) ∙ ap (λ bs. file ++ 32 ∷ bs) end))

-- a part of a text that lacks a byte lacks it
and_parts : (a b : Bool) → (a && b) ≡ true → (a ≡ true) × (b ≡ true)
and_parts true b both = (refl, both)
and_parts false b both = cc

lacks_both : (s : ℕ) (a b : List ℕ) → Lacks s (a ++ b) → Lacks s a × Lacks s b
lacks_both s a b lacks =
    and_parts _ _ (sym (list_all-append (λ byte. not (byte == s)) a b) ∙ lacks)

pub file_lacks : (origin : Origin) (text : List ℕ) → line_text origin ≡ field 10 text → Lacks 10 origin.file
file_lacks origin text is =
    let lacks : Lacks 10 (line_text origin) = subst (λ (bs : List ℕ). Lacks 10 bs) (sym is) (parts_of 10 text).lacks in
    let behind = (lacks_both 10 (hex 8 origin.address) (32 ∷ (origin.file ++ 32 ∷ decimal origin.number)) lacks).1 in
    let others = (lacks_parts 10 32 (origin.file ++ 32 ∷ decimal origin.number) behind).1 in
    (lacks_both 10 origin.file (32 ∷ decimal origin.number) others).0

-- a list of some length isn't empty
pub some_there : (text : List ℕ) → (length text == 0) ≡ false → text ≢ []
some_there [] is none = cc
some_there (c ∷ cs) is none = cc

-- a text of several lines is cut behind the first
pub cut_line : (text line : List ℕ) → (field_count 10 text == 1) ≡ false → line ≡ field 10 text
    → text ≡ line ++ 10 ∷ rest 10 text
cut_line text line more is =
    let parts = parts_of 10 text in
    let one = parts.count in
    let two : 2 ≤ field_count 10 text = grind (arith, nat_tests) in
    (parts.cut two).0 ∙ ap (λ (bs : List ℕ). bs ++ 10 ∷ rest 10 text) (sym is)
