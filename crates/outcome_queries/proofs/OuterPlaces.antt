-- Where a byte stands outside of parentheses and quotation marks, found a byte at a time.
use Rattle.std.proofs.Common.{◌≡◌, ℕ, suc, ◌+◌, ◌<◌, ◌≤◌, Bool, true, false, List, [], ◌∷◌, length, drop, get_or}
use Rattle.std.proofs.Common.{if◌then◌else◌, Option, Some, None, option_map, refl, sym, ap, ◌∙◌, arith}
use Rattle.std.proofs.lemmas.List.{drop_all, drop_more}
use Rattle.outcome_queries.specs.declared.outer.Inside.{Inside}
use Rattle.outcome_queries.specs.Outer.{behind, outer_place, place_in, stands_at}

here_or_on : (inside : Inside) (wanted byte : ℕ) (rest : List ℕ) → place_in inside wanted (byte ∷ rest)
    ≡ (if stands_at inside wanted byte then Some 0 else option_map suc (place_in (behind inside byte) wanted rest))
unfolding place_in
here_or_on inside wanted byte rest = refl

so_far : (inside : Inside) (wanted i d : ℕ) (text : List ℕ) → i < length text
    → outer_place wanted text ≡ option_map (λ k. i + k) (place_in inside wanted (drop i text))
    → outer_place wanted text ≡ option_map (λ k. i + k) (if stands_at inside wanted (get_or text i d) then Some 0
    else option_map suc (place_in (behind inside (get_or text i d)) wanted (drop (i + 1) text)))
so_far inside wanted i d text below is =
    is ∙ ap (λ t. option_map (λ k. i + k) (place_in inside wanted t)) (drop_more text i d below)
    ∙ ap (option_map (λ k. i + k)) (here_or_on inside wanted (get_or text i d) (drop (i + 1) text))

pub found_here : (inside : Inside) (wanted i d : ℕ) (text : List ℕ) → i < length text
    → outer_place wanted text ≡ option_map (λ k. i + k) (place_in inside wanted (drop i text))
    → stands_at inside wanted (get_or text i d) ≡ true → Some i ≡ outer_place wanted text
found_here inside wanted i d text below is here =
    sym (rw here at (so_far inside wanted i d text below is) ∙ ap Some (omega arith))

one_on : (i : ℕ) (o : Option ℕ) → option_map (λ k. i + k) (option_map suc o) ≡ option_map (λ k. i + 1 + k) o
one_on i None = refl
one_on i (Some k) = ap Some (omega arith)

pub not_here : (inside : Inside) (wanted i d : ℕ) (text : List ℕ) → i < length text
    → outer_place wanted text ≡ option_map (λ k. i + k) (place_in inside wanted (drop i text))
    → stands_at inside wanted (get_or text i d) ≡ false
    → outer_place wanted text ≡ option_map (λ k. i + 1 + k)
    (place_in (behind inside (get_or text i d)) wanted (drop (i + 1) text))
not_here inside wanted i d text below is here =
    rw here at (so_far inside wanted i d text below is)
    ∙ one_on i (place_in (behind inside (get_or text i d)) wanted (drop (i + 1) text))

empty : (inside : Inside) (wanted : ℕ) → place_in inside wanted [] ≡ None
unfolding place_in
empty inside wanted = refl

pub nowhere : (inside : Inside) (wanted i : ℕ) (text : List ℕ) → length text ≤ i
    → outer_place wanted text ≡ option_map (λ k. i + k) (place_in inside wanted (drop i text))
    → None ≡ outer_place wanted text
nowhere inside wanted i text past is =
    sym (is ∙ ap (λ t. option_map (λ k. i + k) (place_in inside wanted t)) (drop_all i text past)
    ∙ ap (option_map (λ k. i + k)) (empty inside wanted))
