-- Where comments and gaps end: at one byte alone.
use Rattle.std.proofs.Common.{◌≡◌, ℕ, ◌+◌, ◌-◌, ◌<◌, ◌≤◌, Bool, true, false, arith, List, length, refl, sym, ap, ◌∙◌, subst, inl, inr}
use Rattle.std.specs.Prelude.{slice_index, nat_lt}
use Rattle.std.proofs.lemmas.{Bool.true≢false, Bool.Decides.nat_tests, List.get_or_past}
use Rattle.std.specs.Char.{is_ascii_whitespace}
use Rattle.litmus_words.specs.Comments.{Opens, Closes, IsRestOf, closes_last, closes, opens, passes}
use Rattle.litmus_words.specs.Gaps.{IsGap, nothing, blank, comment, IsGapEnd}

-- no comment both opens and closes at a byte
not_both : (text : List ℕ) (at : ℕ) → Opens text at → Closes text at → ⊥
not_both text at o c = let a = o.0 in let b = c.0 in absurd (omega (arith, a, b))

pub not_true : (b : Bool) → b ≡ false → b ≡ true → ⊥
not_true b falsehood truth = true≢false (sym truth ∙ falsehood)

pub past_end : (text : List ℕ) (at : ℕ) → length text ≤ at → slice_index text at ≡ 0
past_end text at over = get_or_past text at 0 over

-- a byte that isn't 0 is one of the text
pub inside_text : (text : List ℕ) (at byte : ℕ) → slice_index text at ≡ byte → 0 < byte → at < length text
inside_text text at byte is some = by_order (nat_lt at (length text)) refl
  where
    by_order : (b : Bool) → (nat_lt at (length text)) ≡ b → at < length text
    by_order true less = grind (arith, nat_tests, less)
    by_order false more =
        let over : length text ≤ at = grind (arith, nat_tests, more) in
        let none = past_end text at over in absurd (omega (arith, none, is, some))

closing_room : (text : List ℕ) (at : ℕ) → Closes text at → at + 2 ≤ length text
closing_room text at c = let room = inside_text text (at + 1) 41 c.1 (omega arith) in omega (arith, room)

pub opening_room : (text : List ℕ) (at : ℕ) → Opens text at → at + 2 ≤ length text
opening_room text at o = let room = inside_text text (at + 1) 42 o.1 (omega arith) in omega (arith, room)

no_blank_opens : (text : List ℕ) (at : ℕ) → is_ascii_whitespace (slice_index text at) ≡ true → Opens text at → ⊥
no_blank_opens text at white o = true≢false (sym white ∙ ap is_ascii_whitespace o.0)

no_end_at_blank : (text : List ℕ) (at : ℕ) → at < length text → is_ascii_whitespace (slice_index text at) ≡ true
    → IsGapEnd text at → ⊥
no_end_at_blank text at inside white (inl over) = absurd (omega (arith, inside, over))
no_end_at_blank text at inside white (inr begins) = not_true _ begins.0 white

no_end_at_opening : (text : List ℕ) (at : ℕ) → at < length text → Opens text at → IsGapEnd text at → ⊥
no_end_at_opening text at inside opened (inl over) = absurd (omega (arith, inside, over))
no_end_at_opening text at inside opened (inr begins) = begins.1 opened

pub behind_opening : (text : List ℕ) (depth at to : ℕ) → Opens text at → IsRestOf text depth at to
    → IsRestOf text (depth + 1) (at + 2) to
behind_opening text depth at to o (closes_last place here) = absurd (not_both text at o here)
behind_opening text depth at to o (closes d place end some here rest) = absurd (not_both text at o here)
behind_opening text depth at to o (opens d place end here rest) = rest
behind_opening text depth at to o (passes d place end no_opening no_closing rest) = absurd (no_opening o)

pub behind_other : (text : List ℕ) (depth at to : ℕ) → (Opens text at → ⊥) → (Closes text at → ⊥)
    → IsRestOf text depth at to → IsRestOf text depth (at + 1) to
behind_other text depth at to no_opening no_closing (closes_last place here) = absurd (no_closing here)
behind_other text depth at to no_opening no_closing (closes d place end some here rest) = absurd (no_closing here)
behind_other text depth at to no_opening no_closing (opens d place end here rest) = absurd (no_opening here)
behind_other text depth at to no_opening no_closing (passes d place end o c rest) = rest

pub behind_closing : (text : List ℕ) (depth at to : ℕ) → 1 < depth → Closes text at → IsRestOf text depth at to
    → IsRestOf text (depth - 1) (at + 2) to
behind_closing text depth at to more c (closes_last place here) = absurd (omega arith)
behind_closing text depth at to more c (closes d place end some here rest) =
    let same : d ≡ d + 1 - 1 = omega arith in subst (λ (n : ℕ). IsRestOf text n (at + 2) to) same rest
behind_closing text depth at to more c (opens d place end here rest) = absurd (not_both text at here c)
behind_closing text depth at to more c (passes d place end no_opening no_closing rest) = absurd (no_closing c)

pub behind_last : (text : List ℕ) (depth at to : ℕ) → depth ≤ 1 → Closes text at → IsRestOf text depth at to
    → to ≡ at + 2
behind_last text depth at to most c (closes_last place here) = refl
behind_last text depth at to most c (closes d place end some here rest) = absurd (omega arith)
behind_last text depth at to most c (opens d place end here rest) = absurd (not_both text at here c)
behind_last text depth at to most c (passes d place end no_opening no_closing rest) = absurd (no_closing c)

-- a comment that ends has two bytes more
pub room_of_rest : (text : List ℕ) (depth at to : ℕ) → IsRestOf text depth at to → at + 2 ≤ length text
room_of_rest text depth at to (closes_last place here) = closing_room text at here
room_of_rest text depth at to (closes d place end some here rest) = closing_room text at here
room_of_rest text depth at to (opens d place end here rest) = opening_room text at here
room_of_rest text depth at to (passes d place end no_opening no_closing rest) =
    let more = room_of_rest text depth (at + 1) to rest in omega (arith, more)

-- blanks and comments, each in turn
pub behind_blank : (text : List ℕ) (at to : ℕ) → at < length text → is_ascii_whitespace (slice_index text at) ≡ true
    → IsGapEnd text to → IsGap text at to → IsGap text (at + 1) to
behind_blank text at to inside white end (nothing place) = absurd (no_end_at_blank text at inside white end)
behind_blank text at to inside white end (blank place last here rest) = rest
behind_blank text at to inside white end (comment place behind last here within rest) =
    absurd (no_blank_opens text at white here)

-- the comment that opens there ends where it does
pub behind_comment : (text : List ℕ) (at to : ℕ) → at < length text → Opens text at → IsGapEnd text to → IsGap text at to
    → (behind : ℕ) × IsRestOf text 1 (at + 2) behind × IsGap text behind to
behind_comment text at to inside opened end (nothing place) = absurd (no_end_at_opening text at inside opened end)
behind_comment text at to inside opened end (blank place last here rest) = absurd (no_blank_opens text at here opened)
behind_comment text at to inside opened end (comment place behind last here within rest) = (behind, within, rest)

pub gap_is_over : (text : List ℕ) (at to : ℕ) → is_ascii_whitespace (slice_index text at) ≡ false → (Opens text at → ⊥)
    → IsGap text at to → at ≡ to
gap_is_over text at to dark closed (nothing place) = refl
gap_is_over text at to dark closed (blank place last here rest) = absurd (not_true _ dark here)
gap_is_over text at to dark closed (comment place behind last here within rest) = absurd (closed here)

pub gap_at_end : (text : List ℕ) (at to : ℕ) → length text ≤ at → IsGap text at to → at ≡ to
gap_at_end text at to over gap =
    let zero_there : slice_index text at ≡ 0 = past_end text at over in
    gap_is_over text at to (ap is_ascii_whitespace zero_there) (λ o. let a = o.0 in absurd (omega (arith, zero_there, a))) gap

-- no comment opens where they are over
pub closed_there : (text : List ℕ) (at : ℕ) → at < length text → IsGapEnd text at → Opens text at → ⊥
closed_there text at inside (inl over) opened = absurd (omega (arith, inside, over))
closed_there text at inside (inr begins) opened = begins.1 opened
