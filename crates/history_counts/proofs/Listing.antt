-- How many members of a list pass a test: in whatever order, and of rows as of the numbers under which they stand.
use Rattle.std.specs.Prelude.{◌≡◌, ℕ, zero, suc, ◌+◌, ◌<◌, ◌≤◌, Bool, List, [], ◌∷◌, ◌++◌, length, filter, reverse}
use Rattle.std.specs.Prelude.{take, if◌then◌else◌}
use Rattle.std.proofs.Common.{get_or, refl, sym, ap, ◌∙◌, arith, inl, inr, length-append}
use Rattle.std.proofs.lemmas.Bool.{cases_Bool}
use Rattle.std.proofs.lemmas.List.{reverse-append, take_more, take_all, Elements.filter-append}
use Rattle.smt_model.specs.{Basics.how_many, Basics.below}

-- One more member.
pub how_many-push : {A : Type 0} → (test : A → Bool) (xs : List A) (x : A)
    → how_many test (xs ++ x ∷ []) ≡ how_many test xs + (if test x then 1 else 0)
how_many-push test xs x =
    ap length (filter-append test xs (x ∷ []))
    ∙ length-append (filter test xs) (filter test (x ∷ []))
    ∙ elim (cases_Bool (test x)) [ inl t ↦ rw t refl | inr f ↦ rw f refl ]

-- How many pass a test doesn't depend on their order.
pub how_many-reverse : {A : Type 0} → (test : A → Bool) (xs : List A) → how_many test (reverse xs) ≡ how_many test xs
how_many-reverse test [] = refl
how_many-reverse test (x ∷ xs) =
    let rest = how_many-reverse test xs in
    ap (how_many test) (reverse-append (x ∷ []) xs)
    ∙ how_many-push test (reverse xs) x
    ∙ elim (cases_Bool (test x)) [ inl t ↦ rw t (omega arith) | inr f ↦ rw f (omega arith) ]

module _ {A : Type 0} (t : A → Bool) (test : ℕ → Bool) (rows : List A) (d : A)
    (same : (s : ℕ) → s < length rows → t (get_or rows s d) ≡ test s) where
  first_rows : (n : ℕ) → n ≤ length rows → how_many t (take n rows) ≡ how_many test (below n)
  first_rows zero inside = refl
  first_rows (suc n) inside =
      let less : n < length rows = omega arith in
      let one : suc n ≡ n + 1 = omega arith in
      ap (λ m. how_many t (take m rows)) one
      ∙ ap (how_many t) (take_more rows n d less)
      ∙ how_many-push t (take n rows) (get_or rows n d)
      ∙ ap (λ m. m + (if t (get_or rows n d) then 1 else 0)) (first_rows n (omega arith))
      ∙ ap (λ b. how_many test (below n) + (if b then 1 else 0)) (same n less)
      ∙ sym (how_many-push test (below n) n)

  -- What each row says is what is said of its number.
  pub how_many-rows : (n : ℕ) → length rows ≡ n → how_many t rows ≡ how_many test (below n)
  how_many-rows n count =
      ap (how_many t) (sym (take_all n rows (omega arith))) ∙ first_rows n (omega arith)
