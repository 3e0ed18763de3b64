-- A place by a name, read where its text is cut: there is one way to cut it.
use Rattle.std.proofs.Common.{◌≡◌, ℕ, ◌+◌, ◌⊎◌, true, false, ◌==◌, List, [], ◌∷◌, ◌++◌, length}
use Rattle.std.proofs.Common.{get_or, IfNone, Option, Some, None, inl, inr, refl, sym, ap, subst, ◌∙◌, arith}
use Rattle.std.proofs.Common.{append_assoc, append-nil}
use Rattle.std.proofs.{lemmas.Bool.Decides.nat_tests, lemmas.List.length-append, lemmas.List.append_cancel_right}
use Rattle.std.proofs.{lemmas.List.get_or_at}
use Rattle.std.specs.{Borrow.Bor}
use Rattle.text_fields.specs.{Splitting.Lacks, Values.SpellsValue}
use Rattle.text_fields.proofs.LacksLaws.{Lacks-append, Lacks-from_all}
use Rattle.symbols.specs.declared.meanings.Name.{Name}
use Rattle.watched_outcomes.specs.declared.watch.Width.{Width}
use Rattle.watched_outcomes.specs.declared.watch.Width.TheVariants.{Byte, Half, Word}
use Rattle.outcome_queries.specs.declared.placed.{Placed.Placed, Behind.Behind}
use Rattle.outcome_queries.specs.declared.placed.Behind.TheVariants.{Element, Bytes}
use Rattle.outcome_queries.specs.Quoted.{place_outside}
use Rattle.outcome_queries.specs.Placed.{can_begin, can_follow, is_plain_name, SpellsPart, SpellsOf, SpellsName}
use Rattle.outcome_queries.specs.Placed.{SpellsBehind, SpellsPlace, SpellsPlaced}
use Rattle.outcome_queries.specs.Widths.{width_text}
use Rattle.outcome_queries.proofs.Outside.{Skips, cut_there, found_behind, no_cut, none_in, same_begin, skips_both}
use Rattle.outcome_queries.proofs.Outside.{skips_none}
use Rattle.outcome_queries.proofs.Spelled.{bracket, colon, name_skips, part_skips, plain_is, plain_some, plus}
use Rattle.outcome_queries.proofs.Spelled.{behind_byte, plain_all, value_lacks, value_skips}

-- ---- a name, and a name with its file

pub with_file : (text first others : List ℕ) → text ≡ first ++ 58 ∷ others
    → Some (length first) ≡ place_outside false 58 text → (file : Option (Bor (List ℕ))) (name : List ℕ)
    → SpellsOf text file name → (asked : List ℕ) × SpellsPart first asked × SpellsPart others name
with_file text first others cut place None name is =
    let none = none_in 58 text (part_skips 58 text name colon is) in
    let never : Some (length first) ≡ None = place ∙ none in cc
with_file text first others cut place (Some file) name is =
    let both = cut_there 58 text first others is.0 is.1 refl cut place (part_skips 58 is.0 file.now colon is.2) is.4 in
    (file.now, subst (λ t. SpellsPart t file.now) (sym both.0) is.2, subst (λ t. SpellsPart t name) (sym both.1) is.3)

pub without_file : (text : List ℕ) → place_outside false 58 text ≡ None → (file : Option (Bor (List ℕ))) (name : List ℕ)
    → SpellsOf text file name → SpellsPart text name
without_file text none None name is = is
without_file text none (Some file) name is =
    absurd (no_cut 58 text is.0 is.1 refl none (part_skips 58 is.0 file.now colon is.2) is.4)

-- ---- an element, bytes behind the start, or the start

-- the name and the number of such a place, cut from its text
pub record AreParts (named number : List ℕ) (name : Name) : Type 0 where
  pub names : SpellsName named name
  pub value : ℕ
  pub says : SpellsValue number value

bytes_skip : (goes : List ℕ) (n : ℕ) → SpellsBehind goes (Bytes n) → Skips 91 goes
bytes_skip goes n (inl is) = subst (λ t. Skips 91 t) (sym is.1) (skips_none 91)
bytes_skip goes n (inr is) =
    subst (λ t. Skips 91 t) (sym is.2) (behind_byte 91 43 is.0 refl refl (value_skips 91 n is.0 bracket is.1))

element_by : (text named index lead goes : List ℕ) (name : Name) (far : Behind)
    → text ≡ named ++ 91 ∷ (index ++ 93 ∷ []) → Some (length named) ≡ place_outside false 91 text
    → SpellsName lead name → SpellsBehind goes far
    → text ≡ lead ++ goes → AreParts named index name
element_by text named index lead goes name (Element n) cut place names is spelled =
    let skips = name_skips 91 lead name.file name.name.now bracket refl names in
    let both = cut_there 91 text named (index ++ 93 ∷ []) lead (is.0 ++ 93 ∷ []) refl cut place skips
    (spelled ∙ ap (λ t. lead ++ t) is.2) in
    let same = append_cancel_right index is.0 (93 ∷ []) both.1 in
    record {
      names = subst (λ t. SpellsName t name) (sym both.0) names;
      value = n;
      says = subst (λ t. SpellsValue t n) (sym same) is.1;
    }
element_by text named index lead goes name (Bytes n) cut place names is spelled =
    let skips = name_skips 91 lead name.file name.name.now bracket refl names in
    let all = skips_both 91 lead goes skips (bytes_skip goes n is) in
    let none = none_in 91 text (subst (λ t. Skips 91 t) (sym spelled) all) in
    let never : Some (length named) ≡ None = place ∙ none in cc

pub element_parts : (text named index : List ℕ) (name : Name) (far : Behind) → text ≡ named ++ 91 ∷ (index ++ 93 ∷ [])
    → Some (length named) ≡ place_outside false 91 text → SpellsPlace text name far → AreParts named index name
element_parts text named index name far cut place is =
    element_by text named index is.named is.behind name far cut place is.names is.goes is.spelled

-- where it names no element
abbrev pub LacksElement : List ℕ → Type 0
LacksElement text = (named index : List ℕ) → Some (length named) ≡ place_outside false 91 text
    → text ≡ named ++ 91 ∷ (index ++ 93 ∷ []) → ⊥

no_element : (text lead goes : List ℕ) (name : Name) (n : ℕ) → LacksElement text → SpellsName lead name
    → SpellsBehind goes (Element n) → text ≡ lead ++ goes → ⊥
no_element text lead goes name n none names is spelled =
    let skips = name_skips 91 lead name.file name.name.now bracket refl names in
    let cut : text ≡ lead ++ 91 ∷ (is.0 ++ 93 ∷ []) = spelled ∙ ap (λ t. lead ++ t) is.2 in
    let place : place_outside false 91 text ≡ Some (length lead) =
    ap (place_outside false 91) cut ∙ found_behind 91 lead (is.0 ++ 93 ∷ []) refl skips in
    none lead is.0 (sym place) cut

bytes_by : (text named distance lead goes : List ℕ) (name : Name) (far : Behind) → LacksElement text
    → text ≡ named ++ 43 ∷ distance → Some (length named) ≡ place_outside false 43 text → SpellsName lead name
    → SpellsBehind goes far → text ≡ lead ++ goes → AreParts named distance name
bytes_by text named distance lead goes name (Element n) none cut place names is spelled =
    absurd (no_element text lead goes name n none names is spelled)
bytes_by text named distance lead goes name (Bytes n) none cut place names (inl is) spelled =
    let skips = name_skips 43 lead name.file name.name.now plus refl names in
    let same : text ≡ lead = spelled ∙ ap (λ t. lead ++ t) is.1 ∙ append-nil lead in
    let nowhere = none_in 43 text (subst (λ t. Skips 43 t) (sym same) skips) in
    let never : Some (length named) ≡ None = place ∙ nowhere in cc
bytes_by text named distance lead goes name (Bytes n) none cut place names (inr is) spelled =
    let skips = name_skips 43 lead name.file name.name.now plus refl names in
    let both = cut_there 43 text named distance lead is.0 refl cut place skips (spelled ∙ ap (λ t. lead ++ t) is.2) in
    record {
      names = subst (λ t. SpellsName t name) (sym both.0) names;
      value = n;
      says = subst (λ t. SpellsValue t n) (sym both.1) is.1;
    }

pub bytes_parts : (text named distance : List ℕ) (name : Name) (far : Behind) → LacksElement text
    → text ≡ named ++ 43 ∷ distance → Some (length named) ≡ place_outside false 43 text → SpellsPlace text name far
    → AreParts named distance name
bytes_parts text named distance name far none cut place is =
    bytes_by text named distance is.named is.behind name far none cut place is.names is.goes is.spelled

start_by : (text lead goes : List ℕ) (name : Name) (far : Behind) → LacksElement text
    → place_outside false 43 text ≡ None → SpellsName lead name → SpellsBehind goes far → text ≡ lead ++ goes
    → SpellsName text name
start_by text lead goes name (Element n) none nowhere names is spelled =
    absurd (no_element text lead goes name n none names is spelled)
start_by text lead goes name (Bytes n) none nowhere names (inl is) spelled =
    let same : text ≡ lead = spelled ∙ ap (λ t. lead ++ t) is.1 ∙ append-nil lead in
    subst (λ t. SpellsName t name) (sym same) names
start_by text lead goes name (Bytes n) none nowhere names (inr is) spelled =
    let skips = name_skips 43 lead name.file name.name.now plus refl names in
    absurd (no_cut 43 text lead is.0 refl nowhere skips (spelled ∙ ap (λ t. lead ++ t) is.2))

pub start_parts : (text : List ℕ) (name : Name) (far : Behind) → LacksElement text
    → place_outside false 43 text ≡ None → SpellsPlace text name far → SpellsName text name
start_parts text name far none nowhere is =
    start_by text is.named is.behind name far none nowhere is.names is.goes is.spelled

-- ---- a width at the end, which no place without one has

-- a digit that says one
record IsDigit (d : ℕ) : Type 0 where
  begins : can_begin d ≡ false
  mark : (39 == d) ≡ false
  open_bracket : (91 == d) ≡ false
  plus_sign : (43 == d) ≡ false

other_byte : (x d : ℕ) → (x == d) ≡ false → x ≡ d → ⊥
other_byte x d other same = grind (arith, nat_tests)

not_lacked : (s : ℕ) (before more : List ℕ) → Lacks s (before ++ s ∷ more) → ⊥
not_lacked s [] more lacks =
    let same : (s == s) ≡ true = grind (arith, nat_tests) in
    let never : false ≡ true = rw same at lacks in cc
not_lacked s (c ∷ before) more lacks = not_lacked s before more (grind (arith, nat_tests))

-- what stands at the end and has no colon is the digit, or nothing
tail_is : (lead tail before : List ℕ) (d : ℕ) → lead ++ tail ≡ before ++ 58 ∷ d ∷ [] → Lacks 58 tail
    → (tail ≡ []) ⊎ (tail ≡ d ∷ [])
tail_is [] tail before d is lacks = absurd (not_lacked 58 before (d ∷ []) (subst (λ t. Lacks 58 t) is lacks))
tail_is (x ∷ []) tail [] d is lacks = inr (cc)
tail_is (x ∷ y ∷ lead) tail [] d is lacks = inl (nothing_behind lead tail (let rest : lead ++ tail ≡ [] = cc in rest))
  where
    nothing_behind : (a b : List ℕ) → a ++ b ≡ [] → b ≡ []
    nothing_behind [] b none = none
    nothing_behind (z ∷ a) b none = cc
tail_is (x ∷ lead) tail (y ∷ before) d is lacks =
    let rest : lead ++ tail ≡ before ++ 58 ∷ d ∷ [] = cc in tail_is lead tail before d rest lacks

last_is : (a b : List ℕ) (x y : ℕ) → a ++ x ∷ [] ≡ b ++ y ∷ [] → x ≡ y
last_is a b x y is =
    let one : length (a ++ x ∷ []) ≡ length a + 1 = length-append a (x ∷ []) in
    let other : length (b ++ y ∷ []) ≡ length b + 1 = length-append b (y ∷ []) in
    let same : length (a ++ x ∷ []) ≡ length (b ++ y ∷ []) = ap length is in
    let both = same_begin a (x ∷ []) b (y ∷ []) (omega (arith, one, other, same)) is in
    let rest = both.1 in cc

part_end : (lead part name before : List ℕ) (d : ℕ) → IsDigit d → SpellsPart part name
    → lead ++ part ≡ before ++ 58 ∷ d ∷ [] → ⊥
part_end lead part name before d digit (inl is) ends =
    let lacks : Lacks 58 name = Lacks-from_all can_follow 58 name refl (plain_all name is.0) in
    elim (tail_is lead name before d (ap (λ t. lead ++ t) (sym is.1) ∙ ends) lacks) [
      | inl none ↦ plain_some (subst (λ t. is_plain_name t ≡ true) none is.0)
      | inr one ↦
          let plain = plain_is d [] (subst (λ t. is_plain_name t ≡ true) one is.0) in
          let never : true ≡ false = sym plain.begins ∙ digit.begins in cc
    ]
part_end lead part name before d digit (inr is) ends =
    let whole : (lead ++ 39 ∷ name) ++ 39 ∷ [] ≡ (before ++ 58 ∷ []) ++ d ∷ [] =
    append_assoc lead (39 ∷ name) (39 ∷ []) ∙ ap (λ t. lead ++ t) (sym is.spelled) ∙ ends
    ∙ sym (append_assoc before (58 ∷ []) (d ∷ [])) in
    other_byte 39 d digit.mark (last_is (lead ++ 39 ∷ name) (before ++ 58 ∷ []) 39 d whole)

name_end : (text : List ℕ) (file : Option (Bor (List ℕ))) (name before : List ℕ) (d : ℕ) → IsDigit d
    → SpellsOf text file name → text ≡ before ++ 58 ∷ d ∷ [] → ⊥
name_end text None name before d digit is ends = part_end [] text name before d digit is ends
name_end text (Some file) name before d digit is ends =
    part_end (is.0 ++ 58 ∷ []) is.1 name before d digit is.3
    (append_assoc is.0 (58 ∷ []) is.1 ∙ sym is.4 ∙ ends)

-- what stands behind the name ends in no width: it has no colon, and begins with another byte
behind_end : (lead rest before : List ℕ) (b d : ℕ) → (b == d) ≡ false → Lacks 58 (b ∷ rest)
    → lead ++ b ∷ rest ≡ before ++ 58 ∷ d ∷ [] → ⊥
behind_end lead rest before b d other lacks ends =
    elim (tail_is lead (b ∷ rest) before d ends lacks) [
      | inl none ↦ cc
      | inr one ↦ other_byte b d other (let same : b ≡ d = cc in same)
    ]

place_by : (lead goes before : List ℕ) (name : Name) (far : Behind) (d : ℕ) → IsDigit d → SpellsName lead name
    → SpellsBehind goes far → lead ++ goes ≡ before ++ 58 ∷ d ∷ [] → ⊥
place_by lead goes before name (Element n) d digit names is ends =
    let number = value_lacks 58 n is.0 refl refl refl is.1 in
    behind_end lead (is.0 ++ 93 ∷ []) before 91 d digit.open_bracket (Lacks-append 58 is.0 (93 ∷ []) number refl)
    (ap (λ t. lead ++ t) (sym is.2) ∙ ends)
place_by lead goes before name (Bytes n) d digit names (inl is) ends =
    name_end lead name.file name.name.now before d digit names
    (sym (append-nil lead) ∙ ap (λ t. lead ++ t) (sym is.1) ∙ ends)
place_by lead goes before name (Bytes n) d digit names (inr is) ends =
    behind_end lead is.0 before 43 d digit.plus_sign (value_lacks 58 n is.0 refl refl refl is.1)
    (ap (λ t. lead ++ t) (sym is.2) ∙ ends)

width_digit : (w : Width) → (d : ℕ) × IsDigit d × (width_text (Some w) ≡ 58 ∷ d ∷ [])
width_digit Byte = (49, record { begins = refl; mark = refl; open_bracket = refl; plus_sign = refl }, refl)
width_digit Half = (50, record { begins = refl; mark = refl; open_bracket = refl; plus_sign = refl }, refl)
width_digit Word = (52, record { begins = refl; mark = refl; open_bracket = refl; plus_sign = refl }, refl)

place_end : (text before : List ℕ) (name : Name) (far : Behind) (w : Width) → SpellsPlace text name far
    → text ≡ before ++ width_text (Some w) → ⊥
place_end text before name far w is ends =
    let digit = width_digit w in
    place_by is.named is.behind before name far digit.0 digit.1 is.names is.goes
    (sym is.spelled ∙ ends ∙ ap (λ t. before ++ t) digit.2)

width_long : (w : Width) → length (width_text (Some w)) ≡ 2
width_long w = ap length (width_digit w).2

-- the one place that stands before a width
place_is : (text place other : List ℕ) (width said : Option Width) (name : Name) (far : Behind)
    → text ≡ place ++ width_text width
    → (width ≡ None → (before : List ℕ) (w : Width) → text ≡ before ++ width_text (Some w) → ⊥)
    → SpellsPlace other name far → text ≡ other ++ width_text said → other ≡ place
place_is text place other None None name far cut none is spelled =
    sym (append-nil other) ∙ sym spelled ∙ cut ∙ append-nil place
place_is text place other None (Some w) name far cut none is spelled = absurd (none refl other w spelled)
place_is text place other (Some w) None name far cut none is spelled =
    absurd (place_end other place name far w is (sym (append-nil other) ∙ sym spelled ∙ cut))
place_is text place other (Some w) (Some v) name far cut none is spelled =
    let one : length text ≡ length place + 2 =
    ap length cut ∙ length-append place (width_text (Some w)) ∙ ap (λ n. length place + n) (width_long w) in
    let two : length text ≡ length other + 2 =
    ap length spelled ∙ length-append other (width_text (Some v)) ∙ ap (λ n. length other + n) (width_long v) in
    (same_begin other (width_text (Some v)) place (width_text (Some w)) (omega (arith, one, two)) (sym spelled ∙ cut)).0

pub placed_none : (text place : List ℕ) (width : Option Width) → text ≡ place ++ width_text width
    → (width ≡ None → (before : List ℕ) (w : Width) → text ≡ before ++ width_text (Some w) → ⊥)
    → ((name : Name) (far : Behind) → SpellsPlace place name far → ⊥) → (placed : Placed) → SpellsPlaced text placed → ⊥
placed_none text place width cut none nowhere placed is =
    let same = place_is text place is.place width placed.width placed.name placed.behind cut none is.written is.spelled
    in
    nowhere placed.name placed.behind (subst (λ t. SpellsPlace t placed.name placed.behind) same is.written)

-- what stands behind a bracket doesn't end in one
pub no_bracket : (text lead rest : List ℕ) (last d : ℕ) → text ≡ lead ++ 91 ∷ rest
    → Some (length lead) ≡ place_outside false 91 text → last + 1 ≡ length rest → (get_or rest last d ≡ 93 → ⊥)
    → LacksElement text
no_bracket text lead rest last d cut place long other named index found spelled =
    let both_found : Some (length lead) ≡ Some (length named) = place ∙ sym found in
    let size : length lead ≡ length named = cc in
    let both = same_begin lead (91 ∷ rest) named (91 ∷ (index ++ 93 ∷ [])) size (sym cut ∙ spelled) in
    let same : rest ≡ index ++ 93 ∷ [] = let behind = both.1 in cc in
    let more : length rest ≡ length index + 1 = ap length same ∙ length-append index (93 ∷ []) in
    other (ap (λ t. get_or t last d) same ∙ get_or_at index 93 [] d last (omega (arith, long, more)))

-- a step that fails
pub if_none : {A : Type 0} (found : Option A) (P : Type 0) → P → IfNone found P
if_none None P holds = holds
if_none (Some value) P holds = tt
