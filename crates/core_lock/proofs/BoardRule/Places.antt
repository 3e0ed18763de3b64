-- Words and views by their places, after one of them is set.
use Rattle.std.proofs.Common.{◌≡◌, ℕ, zero, suc, ◌<◌, ◌≢◌, ◌⊎◌, List, [], ◌∷◌, ◌++◌, length, set, slice_index}
use Rattle.std.proofs.Common.{sym, refl, ap, ◌∙◌, subst, inl, inr, ⊎_elim, get_or-set_same, get_or-set_other}
use mathlib.Core.Option.{some, some-injective, some-ne-none}
use mathlib.Core.Logic.{dite}
use native.Mathlib.Decide.{ℕ_discrete}
use lib.ListN.{get_elem?}
use Rattle.atomic_table.proofs.Lists.{at_set, set_else}
use Rattle.core_lock.specs.declared.board.knowledge.Knowledge.{Knowledge}
use Rattle.core_lock.specs.{Knowledge.Owns, BoardRule.IsAskedFor}

-- A word after one of them is set: the new number, or what it was.
pub at_index : (words : List ℕ) (i k n : ℕ) → i < length words
    → ((k ≡ i) × (slice_index (set words i n) k ≡ n))
    ⊎ ((k ≢ i) × (slice_index (set words i n) k ≡ slice_index words k))
at_index words i k n inside = dite (ℕ_discrete k i)
    (λ is. inl (is, ap (λ (j : ℕ). slice_index (set words i n) j) is ∙ get_or-set_same words i n 0 inside))
    (λ isnt. inr (isnt, get_or-set_other words i k n 0 isnt))

-- The view that is set stands at its place.
pub set_there : {A : Type 0} (l : List A) (i : ℕ) (a b : A) → get_elem? l i ≡ some a → get_elem? (set l i b) i ≡ some b
set_there [] i a b e = absurd (some-ne-none a (sym e))
set_there (x ∷ xs) zero a b e = refl
set_there (x ∷ xs) (suc i) a b e = set_there xs i a b e

-- A view in a row that is longer by one is one of the row, or the new one at its end.
pub at_end : {A : Type 0} (l : List A) (a b : A) (j : ℕ) → get_elem? (l ++ a ∷ []) j ≡ some b
    → (get_elem? l j ≡ some b) ⊎ ((a ≡ b) × (j ≡ length l))
at_end [] a b zero e = inr (some-injective a b e, refl)
at_end [] a b (suc j) e = absurd (some-ne-none b (sym e))
at_end (x ∷ xs) a b zero e = inl e
at_end (x ∷ xs) a b (suc j) e = ⊎_elim inl (λ t. inr (t.0, ap suc t.1)) (at_end xs a b j e)

-- Each view had its words before, where the new one had them.
pub had : (views : List Knowledge) (id j : ℕ) (v w u : Knowledge) → get_elem? views id ≡ some v
    → ((word : ℕ) → Owns w word → Owns v word) → get_elem? (set views id w) j ≡ some u
    → (x : Knowledge) × (get_elem? views j ≡ some x) × ((word : ℕ) → Owns u word → Owns x word)
had views id j v w u here same at =
    ⊎_elim
    (λ t. (
      v,
      subst (λ (n : ℕ). get_elem? views n ≡ some v) (sym t.0) here,
      (λ word owns. same word (subst (λ (x : Knowledge). Owns x word) (sym t.1) owns)),
    ))
    (λ t. (u, t.1, (λ word owns. owns))) (at_set views id j w u at)

-- A reason that a seat has asked for stays so, where its new view keeps it.
pub asked_still : (views : List Knowledge) (id : ℕ) (v w : Knowledge) (number : ℕ) → get_elem? views id ≡ some v
    → (v.asked ≡ number → w.asked ≡ number) → IsAskedFor views number → IsAskedFor (set views id w) number
asked_still views id v w number here keeps asked =
    ⊎_elim inl
    (λ t. inr (dite (ℕ_discrete t.0 id)
    (λ is.
    let same : v ≡ t.1 = some-injective v t.1 (sym here ∙ ap (λ (n : ℕ). get_elem? views n) (sym is) ∙ t.2) in
    (id, w, set_there views id v w here, keeps (ap (λ (x : Knowledge). x.asked) same ∙ t.3)))
    (λ isnt. (t.0, t.1, set_else views id t.0 w isnt ∙ t.2, t.3))))
    asked
