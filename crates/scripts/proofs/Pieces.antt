-- Lemmas on the pieces of a text.
use Rattle.std.proofs.Common.{◌≡◌, ℕ, ◌<◌, ◌≤◌, Bool, true, false, not, Option, Some, None, unwrap_or, List, [], ◌∷◌}
use Rattle.std.proofs.Common.{length, take, drop, ◌+◌, suc, get_or, nat_lt, filter, drop-cons, add-one, length-drop}
use Rattle.std.proofs.Common.{arith, refl, ◌-◌, ◌∙◌}
use Rattle.std.proofs.lemmas.List.{take_rest}
use Rattle.std.specs.List.{position, position_or_len, slice_split}
use Rattle.std.proofs.{lemmas.List.Splits.slice_split-cons_yes, lemmas.List.Splits.slice_split_first}
use Rattle.std.proofs.{lemmas.List.Splits.slice_split_none, lemmas.List.Sums.fails_before_first}
use Rattle.std.proofs.{lemmas.List.Sums.passes_at_first, lemmas.List.Quantifiers.position-Some}
use Rattle.std.proofs.{lemmas.Grind.common_steps, lemmas.Bool.Decides.nat_tests}
use Rattle.scripts.specs.Script.{is_separator, is_inside, pieces}

skip : (x : ℕ) (xs : List ℕ) → is_separator x ≡ true → pieces (x ∷ xs) ≡ pieces xs
unfolding pieces
skip x xs e = rw (slice_split-cons_yes is_separator x xs e) refl

skip_some : (x : ℕ) (xs : List ℕ) (b : Bool) → is_separator x ≡ b →
    pieces (drop (position_or_len is_inside xs) xs) ≡ pieces xs →
    pieces (drop (position_or_len is_inside (x ∷ xs)) (x ∷ xs)) ≡ pieces (x ∷ xs)
skip_some x xs true e h = rw (e, skip x xs e) (grind (arith, common_steps, h))
skip_some x xs false e h = rw e refl

-- separators at the front make no piece
behind_separators : (xs : List ℕ) → pieces (drop (position_or_len is_inside xs) xs) ≡ pieces xs
behind_separators [] = refl
behind_separators (x ∷ xs) = skip_some x xs (is_separator x) refl (behind_separators xs)

no_pieces : pieces [] ≡ []
unfolding pieces
no_pieces = refl

place_none : (p : ℕ → Bool) (xs : List ℕ) → position p xs ≡ None → length xs ≤ position_or_len p xs
place_none p xs e = grind (arith, nat_tests)

place_some : (p : ℕ → Bool) (xs : List ℕ) (i : ℕ) → position p xs ≡ Some i → position_or_len p xs ≡ i
place_some p xs i e = grind (arith, nat_tests)

-- a text of separators alone has no piece
pub pieces_none : (xs : List ℕ) → position is_inside xs ≡ None → pieces xs ≡ []
pieces_none xs e =
    let gone : drop (position_or_len is_inside xs) xs ≡ [] = grind (arith, common_steps, place_none is_inside xs e) in
    rw (← behind_separators xs, gone) no_pieces

-- the first piece of a text that begins with it: up to a separator, or whole

kept : (piece : List ℕ) (more : List (List ℕ)) → 0 < length piece →
    filter (λ p. nat_lt 0 (length p)) (piece ∷ more) ≡ piece ∷ filter (λ p. nat_lt 0 (length p)) more
kept piece more some = grind (arith, nat_tests)

split : (xs : List ℕ) (n : ℕ) → position_or_len is_separator xs ≡ n → n < length xs → 0 < n →
    pieces xs ≡ take n xs ∷ pieces (drop (n + 1) xs)
unfolding pieces
split xs n e inside some =
    let parts = slice_split_first is_separator xs 0 (rw e inside) in
    rw (parts, e) (kept (take n xs) (slice_split is_separator (drop (n + 1) xs)) (grind (arith, common_steps)))

up_to_separator : (xs : List ℕ) (n : ℕ) → position_or_len is_separator xs ≡ n → n < length xs → 0 < n →
    pieces xs ≡ take n xs ∷ pieces (drop n xs)
up_to_separator xs n e inside some =
    let here : is_separator (get_or xs n 0) ≡ true = rw e at (passes_at_first is_separator xs 0 (rw e inside)) in
    let gone : pieces (drop n xs) ≡ pieces (drop (suc n) xs) = rw (drop-cons xs n 0 inside) (skip _ _ here) in
    rw (gone, ← add-one) (split xs n e inside some)

whole : (xs : List ℕ) → length xs ≤ position_or_len is_separator xs → 0 < length xs → pieces xs ≡ xs ∷ []
unfolding pieces
whole xs e some =
    rw (slice_split_none is_separator xs (λ k d inside. fails_before_first is_separator xs k d (omega arith)))
    (kept xs [] some)

inside_first : (ys : List ℕ) → 0 < length ys → is_separator (get_or ys 0 0) ≡ false
    → 0 < position_or_len is_separator ys
inside_first [] some e = absurd (omega arith)
inside_first (y ∷ ys) some e = rw e (omega arith)

not_true : (b : Bool) → not b ≡ true → b ≡ false
not_true true e = cc
not_true false e = refl

up_to : (ys zs : List ℕ) (n : ℕ) (o : Option ℕ) → 0 < position_or_len is_separator ys → 0 < length ys
    → position is_separator ys ≡ o →
    n ≡ unwrap_or o (length ys) → zs ≡ drop n ys → pieces ys ≡ take n ys ∷ pieces zs
up_to ys zs n None some long e end behind =
    let all : take n ys ≡ ys = grind (arith, common_steps) in
    let gone : zs ≡ [] = grind (arith, common_steps) in
    rw (all, gone, no_pieces) (whole ys (place_none is_separator ys e) long)
up_to ys zs n (Some k) some long e end behind =
    let at = place_some is_separator ys k e in
    let facts = position-Some is_separator ys k 0 e in
    rw behind (up_to_separator ys n (cc) (omega (arith, facts.0)) (omega (arith, at)))

-- the first piece, behind the separators before it
pub pieces_some : (xs ys zs : List ℕ) (i n : ℕ) → position is_inside xs ≡ Some i → ys ≡ drop i xs →
    n ≡ unwrap_or (position is_separator ys) (length ys) → zs ≡ drop n ys → pieces xs ≡ take n ys ∷ pieces zs
pieces_some xs ys zs i n start rest end behind =
    let facts = position-Some is_inside xs i 0 start in
    let same : pieces ys ≡ pieces xs = rw (rest, ← place_some is_inside xs i start) (behind_separators xs) in
    let long : 0 < length ys = rw rest (omega (arith, length-drop i xs, facts.0)) in
    let here : get_or ys 0 0 ≡ get_or xs i 0 = rw rest (grind (arith, common_steps)) in
    let head : is_separator (get_or ys 0 0) ≡ false = rw here (not_true _ facts.1) in
    rw (← same) (up_to ys zs n (position is_separator ys) (inside_first ys long head) long refl end behind)

-- a piece of one byte at the front
ends_at : (b d : Bool) (x y : ℕ) (rest : List ℕ) → is_separator x ≡ b → is_separator y ≡ d → b ≡ false → d ≡ true
    → position_or_len is_separator (x ∷ y ∷ rest) ≡ 1
ends_at b d x y rest first second other same = rw (first ∙ other, second ∙ same) refl

pub pieces_short : (text : List ℕ) → 1 < length text → is_separator (get_or text 0 0) ≡ false
    → is_separator (get_or text 1 0) ≡ true
    → pieces text ≡ take 1 text ∷ pieces (take (length text - 2) (drop 2 text))
pieces_short [] long first second = absurd (omega (arith, long))
pieces_short (x ∷ []) long first second = absurd (omega (arith, long))
pieces_short (x ∷ y ∷ rest) long first second =
    let end = ends_at false true x y rest first second refl refl in
    rw (take_rest (x ∷ y ∷ rest) 2) (split (x ∷ y ∷ rest) 1 end (omega (arith, long)) (omega arith))
