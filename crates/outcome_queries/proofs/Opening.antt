-- What stands behind `!` or a parenthesis is shorter than what it stands in.
use Rattle.std.proofs.Common.{◌≡◌, ℕ, zero, suc, ◌+◌, ◌-◌, ◌≤◌, inl, inr, List, [], ◌∷◌, ◌++◌, length, take, drop}
use Rattle.std.proofs.Common.{refl, sym, ap, subst, ◌∙◌, arith}
use Rattle.std.proofs.lemmas.List.{length-append, length-drop}
use Rattle.std.proofs.lemmas.List.Folds.{length-prefix_len}
use Rattle.std.specs.{Char.is_ascii_whitespace, List.prefix_len, List.suffix_len}
use Rattle.outcome_queries.specs.{Terms.trimmed, ConditionRefusals.Opens}

take_within : (i : ℕ) (xs : List ℕ) → length (take i xs) ≤ length xs
take_within zero xs = omega arith
take_within (suc i) [] = omega arith
take_within (suc i) (x ∷ xs) = let less = take_within i xs in omega (arith, less)

trimmed_short : (text : List ℕ) → length (trimmed text) ≤ length text - prefix_len is_ascii_whitespace text
unfolding trimmed
trimmed_short text =
    let inner : List ℕ = drop (prefix_len is_ascii_whitespace text) text in
    subst (λ n. length (trimmed text) ≤ n) (length-drop (prefix_len is_ascii_whitespace text) text)
    (take_within (length inner - suffix_len is_ascii_whitespace inner) inner)

opens_short : (text rest : List ℕ) → Opens text rest → length rest + 1 ≤ length text
opens_short text rest (inl is) = let long : length text ≡ suc (length rest) = ap length is in omega (arith, long)
opens_short text rest (inr is) =
    let long : length text ≡ suc (length (rest ++ 41 ∷ [])) = ap length is in
    let more : length (rest ++ 41 ∷ []) ≡ length rest + 1 = length-append rest (41 ∷ []) in
    omega (arith, long, more)

pub inner_short : (text inner rest : List ℕ) → inner ≡ trimmed text → Opens inner rest
    → prefix_len is_ascii_whitespace text + (length rest + 1) ≤ length text
inner_short text inner rest is opens =
    let short = trimmed_short text in
    let one = opens_short inner rest opens in
    let same : length inner ≡ length (trimmed text) = ap length is in
    omega (arith, short, one, same)

-- how much white space a text begins with
pub blanks_are : (text rest : List ℕ) → rest ≡ drop (prefix_len is_ascii_whitespace text) text
    → length text - length rest ≡ prefix_len is_ascii_whitespace text
blanks_are text rest is =
    let count = prefix_len is_ascii_whitespace text in
    let some = take_within count text in
    let same : length (take count text) ≡ count = length-prefix_len is_ascii_whitespace text in
    let less : length rest ≡ length text - count = ap length is ∙ length-drop count text in
    omega (arith, some, same, less)
