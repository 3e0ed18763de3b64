-- Members cut one by one from the young end of an active list, each with its register given back.
use Rattle.std.specs.Prelude.{◌≡◌, ℕ, ◌<◌, Bool, true, false, ◌||◌, nat_lt, nat_le, List, [], ◌∷◌, ◌++◌, Option, Some}
use Rattle.std.specs.Prelude.{None, IfSome}
use Rattle.std.specs.List.{AllByRecursion, list_any}
use Rattle.std.proofs.Common.{◌∙◌, refl, sym, ap, subst, arith, append_assoc}
use Rattle.std.proofs.{lemmas.Bool.Decides.nat_tests, lemmas.List.append-nil, lemmas.List.Elements.filter-append}
use Rattle.numbers.specs.Sizes.{most_registers}
use Rattle.free_list.specs.Flags.{holds}
use Rattle.retire_squash.specs.{Active.Within, declared.active.Active.Active}
use Rattle.smt_model.specs.Basics.{same_number}
use Rattle.core_parts.specs.Squash.{older, younger, has_phys, IsOwned, HaveOwn}

-- What is cut so far is the young end, younger than n, and exactly its registers were given back.
pub record IsGiving (n : ℕ) (before now : List Active) (free_before free : List Bool) : Type 0 where
  pub rest : List Active
  pub whole : before ≡ now ++ rest
  pub above : AllByRecursion (λ a. n < a.seq) rest
  pub given : (x : ℕ) → holds free x ≡ (holds free_before x || list_any (has_phys x) rest)

or-nothing : (b : Bool) → b ≡ (b || false)
or-nothing true = refl
or-nothing false = refl

or-swap : (a b c : Bool) → ((a || b) || c) ≡ (a || (c || b))
or-swap true b c = refl
or-swap false true true = refl
or-swap false true false = refl
or-swap false false true = refl
or-swap false false false = refl

pub giving_none : (n : ℕ) (xs : List Active) (free : List Bool) → IsGiving n xs xs free free
giving_none n xs free =
    record { rest = []; whole = sym (append-nil xs); above = tt; given = λ x. or-nothing (holds free x) }

-- The register of a member anywhere in the list.
owned_at : (free : List Bool) (xs : List Active) (a : Active) (rest : List Active) → HaveOwn free (xs ++ a ∷ rest)
    → (x : ℕ) → a.phys ≡ Some x
    → IsOwned free rest x
owned_at free [] a rest own x has = own.0 x has
owned_at free (y ∷ xs) a rest own x has = owned_at free xs a rest own.1 x has

module _ (n : ℕ) (before old new : List Active) (a : Active) (free_before free : List Bool)
    (giving : IsGiving n before old free_before free)
    (is_squashed_behind : old ≡ new ++ a ∷ []) where
  whole : before ≡ new ++ a ∷ giving.rest
  whole = giving.whole ∙ ap (λ xs. xs ++ giving.rest) is_squashed_behind ∙ append_assoc new (a ∷ []) giving.rest

  can_give : HaveOwn free_before before → (x : ℕ) → a.phys ≡ Some x → (x < most_registers) × (holds free x ≡ false)
  can_give own x has =
      let mine = owned_at free_before new a giving.rest (subst (HaveOwn free_before) whole own) x has in
      (mine.in_range, giving.given x ∙ (rw (mine.claimed, mine.alone) refl))

  pub giving_requires : HaveOwn free_before before → (o : Option ℕ) → o ≡ a.phys
      → IfSome o (λ r. (r < most_registers) × (holds free r ≡ false))
  giving_requires own None is = tt
  giving_requires own (Some x) is = can_give own x (sym is)

  pub giving_more : (free_new : List Bool) → n < a.seq
      → ((x : ℕ) → holds free_new x ≡ (holds free x || same_number a.phys (Some x)))
      → IsGiving n before new free_before free_new
  giving_more free_new above given = record {
    rest = a ∷ giving.rest;
    whole = whole;
    above = (above, giving.above);
    given = λ x. given x
        ∙ (rw (giving.given x) (or-swap (holds free_before x) (list_any (has_phys x) giving.rest) (has_phys x a)));
  }

older-within : (n : ℕ) (xs : List Active) → Within n xs → older n xs ≡ xs
older-within n [] within = refl
older-within n (x ∷ xs) within =
    let le : nat_le x.seq n ≡ true =
    let first = within.0 in grind (arith, nat_tests) in rw le (ap (λ ys. x ∷ ys) (older-within n xs within.1))

younger-within : (n : ℕ) (xs : List Active) → Within n xs → younger n xs ≡ []
younger-within n [] within = refl
younger-within n (x ∷ xs) within =
    let lt : nat_lt n x.seq ≡ false =
    let first = within.0 in grind (arith, nat_tests) in rw lt (younger-within n xs within.1)

older-above : (n : ℕ) (xs : List Active) → AllByRecursion (λ a. n < a.seq) xs → older n xs ≡ []
older-above n [] above = refl
older-above n (x ∷ xs) above =
    let le : nat_le x.seq n ≡ false =
    let first = above.0 in grind (arith, nat_tests) in rw le (older-above n xs above.1)

younger-above : (n : ℕ) (xs : List Active) → AllByRecursion (λ a. n < a.seq) xs → younger n xs ≡ xs
younger-above n [] above = refl
younger-above n (x ∷ xs) above =
    let lt : nat_lt n x.seq ≡ true =
    let first = above.0 in grind (arith, nat_tests) in rw lt (ap (λ ys. x ∷ ys) (younger-above n xs above.1))

-- At the end what is left is the older ones, and what was cut the younger ones.
module _ (n : ℕ) (before now : List Active) (free_before free : List Bool)
    (giving : IsGiving n before now free_before free) (within : Within n now) where
  pub given_older : now ≡ older n before
  given_older = sym (
      ap (older n) giving.whole ∙ filter-append (λ a. nat_le a.seq n) now giving.rest
      ∙ ap (λ ys. ys ++ older n giving.rest) (older-within n now within)
      ∙ ap (λ ys. now ++ ys) (older-above n giving.rest giving.above)
      ∙ append-nil now
      )

  rest_younger : giving.rest ≡ younger n before
  rest_younger = sym (
      ap (younger n) giving.whole ∙ filter-append (λ a. nat_lt n a.seq) now giving.rest
      ∙ ap (λ ys. ys ++ younger n giving.rest) (younger-within n now within) ∙ younger-above n giving.rest giving.above
      )

  pub given_free : (x : ℕ) → holds free x ≡ (holds free_before x || list_any (has_phys x) (younger n before))
  given_free x = giving.given x ∙ ap (λ ys. holds free_before x || list_any (has_phys x) ys) rest_younger
