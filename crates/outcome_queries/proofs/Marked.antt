-- A name in quotation marks, cut from its text.
use Rattle.std.proofs.Common.{◌≡◌, ℕ, suc, ◌+◌, ◌-◌, ◌≤◌, Bool, true, false, ◌||◌, ◌==◌, List, [], ◌∷◌, ◌++◌, length}
use Rattle.std.proofs.Common.{take, drop, get_or, refl, sym, ap, subst, ◌∙◌, arith}
use Rattle.std.proofs.lemmas.List.{length-append, take_all, take_at, take_more}
use Rattle.std.specs.List.{list_any}
use Rattle.text_fields.specs.Splitting.{Lacks}
use Rattle.outcome_queries.specs.Placed.{IsMarked}

any_is : (b c : Bool) (s : ℕ) (xs : List ℕ) → (c ≡ list_any (λ y. y == s) xs)
    → (b || c) ≡ false → (b ≡ false) × (c ≡ false)
any_is true c s xs is none = cc
any_is false c s xs is none = (refl, none)

pub lacks_where : (s : ℕ) (xs : List ℕ) → list_any (λ y. y == s) xs ≡ false → Lacks s xs
lacks_where s [] none = refl
lacks_where s (x ∷ xs) none =
    let parts = any_is (x == s) (list_any (λ y. y == s) xs) s xs refl none in
    rw parts.0 (lacks_where s xs parts.1)

pub has_where : (s : ℕ) (xs : List ℕ) → list_any (λ y. y == s) xs ≡ true → Lacks s xs → ⊥
has_where s [] some lacks = cc
has_where s (x ∷ xs) some lacks = by_first (x == s) refl (has_where s xs)
  where
    by_first : (b : Bool) → (x == s) ≡ b → (list_any (λ y. y == s) xs ≡ true → Lacks s xs → ⊥) → ⊥
    by_first true is others = let never : false ≡ true = rw is at lacks in cc
    by_first false is others = others (rw is at some) (rw is at lacks)

last_cut : (xs : List ℕ) (n : ℕ) → length xs ≡ n + 1 → xs ≡ take n xs ++ get_or xs n 0 ∷ []
last_cut xs n long = sym (take_all (n + 1) xs (omega (arith, long))) ∙ take_more xs n 0 (omega (arith, long))

pub between_is : (text : List ℕ) → 3 ≤ length text → get_or text 0 0 ≡ 39 → get_or text (length text - 1) 0 ≡ 39
    → text ≡ 39 ∷ take (length text - 1 - 1) (drop 1 text) ++ 39 ∷ []
between_is [] long first last = absurd (omega (arith, long))
between_is (x ∷ rest) long first last =
    let less : length (x ∷ rest) - 1 - 1 ≡ length rest - 1 = omega arith in
    let more : length (x ∷ rest) - 1 ≡ suc (length rest - 1) = omega (arith, long) in
    let end : get_or rest (length rest - 1) 0 ≡ 39 = subst (λ n. get_or (x ∷ rest) n 0 ≡ 39) more last in
    let cut : rest ≡ take (length rest - 1) rest ++ get_or rest (length rest - 1) 0 ∷ [] =
    last_cut rest (length rest - 1) (omega (arith, long)) in
    let whole : rest ≡ take (length rest - 1) rest ++ 39 ∷ [] =
    subst (λ n. rest ≡ take (length rest - 1) rest ++ n ∷ []) end cut in
    subst (λ n. x ∷ rest ≡ 39 ∷ take n rest ++ 39 ∷ []) (sym less) (let one : x ≡ 39 = first in cc)

pub marked_found : (text : List ℕ) → 3 ≤ length text → get_or text 0 0 ≡ 39 → get_or text (length text - 1) 0 ≡ 39
    → Lacks 39 (take (length text - 1 - 1) (drop 1 text)) → IsMarked text (take (length text - 1 - 1) (drop 1 text))
marked_found text long first last lacks =
    let whole = between_is text long first last in
    let size : length text ≡ suc (length (take (length text - 1 - 1) (drop 1 text)) + 1) =
    ap length whole ∙ ap suc (length-append (take (length text - 1 - 1) (drop 1 text)) (39 ∷ [])) in
    record {
      some = λ none. let empty : length (take (length text - 1 - 1) (drop 1 text)) ≡ 0 = ap length none in
          absurd (omega (arith, size, empty, long));
      plain = lacks;
      spelled = whole;
    }

name_is : (text name : List ℕ) → text ≡ 39 ∷ name ++ 39 ∷ [] → take (length text - 1 - 1) (drop 1 text) ≡ name
name_is text name is =
    let long : length (name ++ 39 ∷ []) ≡ length name + 1 = length-append name (39 ∷ []) in
    rw is (take_at name (39 ∷ []) (length (39 ∷ name ++ 39 ∷ []) - 1 - 1) (omega (arith, long)))

pub marked_none : (text : List ℕ) → list_any (λ y. y == 39) (take (length text - 1 - 1) (drop 1 text)) ≡ true
    → (name : List ℕ) → IsMarked text name → ⊥
marked_none text some name is =
    let there : list_any (λ y. y == 39) name ≡ true =
    subst (λ (t : List ℕ). list_any (λ y. y == 39) t ≡ true) (name_is text name is.spelled) some in
    has_where 39 name there is.plain
