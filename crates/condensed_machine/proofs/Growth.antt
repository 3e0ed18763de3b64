-- A table that one is put into keeps the places of the others, and what holds of each.
use Rattle.std.proofs.Common.{◌≡◌, ℕ, zero, suc, Bool, true, false, List, [], ◌∷◌, ◌++◌, Some}
use Rattle.std.proofs.Common.{is_some, sym, ap, subst}
use Rattle.std.specs.Prelude.{if◌then◌else◌, slice_get, unwrap_or}
use Rattle.std.specs.List.{list_any}
use Rattle.std.proofs.lemmas.Bool.{true≢false}
use Rattle.indexmap.specs.IndexSet.{insert_key}
use Rattle.condensed_machine.specs.Machine.{Keeps}

module _ {A : Type 0} (k : A) where
  keeps_behind : (xs : List A) → Keeps xs (xs ++ k ∷ [])
  keeps_behind [] n x is = absurd (true≢false (sym (ap is_some is)))
  keeps_behind (y ∷ ys) zero x is = is
  keeps_behind (y ∷ ys) (suc n) x is = keeps_behind ys n x is

  each_behind : (P : A → Type 0) (xs : List A) → ((n : ℕ) (x : A) → slice_get xs n ≡ Some x → P x) → P k
      → (n : ℕ) (x : A) → slice_get (xs ++ k ∷ []) n ≡ Some x → P x
  each_behind P [] each own zero x is = subst P (ap (λ o. unwrap_or o k) is) own
  each_behind P [] each own (suc n) x is = absurd (true≢false (sym (ap is_some is)))
  each_behind P (y ∷ ys) each own zero x is = each 0 x is
  each_behind P (y ∷ ys) each own (suc n) x is = each_behind P ys (λ j z at. each (suc j) z at) own n x is

  module _ (eq : A → A → Bool) (xs : List A) where
    pub keeps_put : Keeps xs (insert_key eq xs k)
    keeps_put = by (list_any (eq k) xs)
      where
        by : (b : Bool) → Keeps xs (if b then xs else xs ++ k ∷ [])
        by true n x is = is
        by false n x is = keeps_behind xs n x is

    pub each_put : (P : A → Type 0) → ((n : ℕ) (x : A) → slice_get xs n ≡ Some x → P x) → P k
        → (n : ℕ) (x : A) → slice_get (insert_key eq xs k) n ≡ Some x → P x
    each_put P each own = by (list_any (eq k) xs)
      where
        by : (b : Bool) → (n : ℕ) (x : A) → slice_get (if b then xs else xs ++ k ∷ []) n ≡ Some x → P x
        by true n x is = each n x is
        by false n x is = each_behind P xs each own n x is
