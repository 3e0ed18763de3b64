-- Entries that move by one place: up, to make room for one, and down, over one that goes.
use Rattle.std.proofs.Common.{◌≡◌, ℕ, ◌+◌, ◌-◌, ◌<◌, ◌≤◌, ltb, true, false, List, [], ◌∷◌, ◌++◌, zero, suc, length}
use Rattle.std.proofs.Common.{get_or, set, take, drop, refl, sym, ap, ◌∙◌, arith}
use Rattle.std.specs.Prelude.{remove}
use Rattle.std.proofs.lemmas.Bool.Decides.{nat_tests}
use Rattle.std.proofs.lemmas.List.{length-take, take_more, drop_more, append_assoc, set_at, take-take, get_or-take}
use Rattle.std.proofs.lemmas.List.{get_or_append_left, get_or-append-add, get_or-drop}
use Rattle.std.proofs.lemmas.List.Edits.{length-remove, get_or-remove_above}
use Rattle.std.proofs.lemmas.List.{length_push, take_at}
use Rattle.arrayvec.specs.ArrayVec.{ArrayVec, with_items}
use Rattle.arrayvec.proofs.ArrayVecLemmas.{items-with_items}
use Rattle.issue_queue.specs.{declared.entry.Entry.Entry}
use Rattle.issue_queue.specs.Queue.{AreEntriesRising, inserted_entry}
use Rattle.issue_queue.proofs.Rising.{above_at}

-- one place is written: what stands before it and behind it stays
module _ {X : Type 0} (xs ys zs : List X) (p : ℕ) (inside : p < length xs) where
  pub written : (y : X) → ys ≡ take (p + 1) xs ++ zs → set ys p y ≡ take p xs ++ y ∷ zs
  written y is =
      let long : length (take p xs) ≡ p = omega (arith, length-take p xs, inside) in
      ap (λ l. set l p y)
      (is ∙ ap (λ l. l ++ zs) (take_more xs p y inside) ∙ append_assoc (take p xs) (get_or xs p y ∷ []) zs)
      ∙ set_at (take p xs) (get_or xs p y) zs y p long

-- down by one
pub closed_more : {X : Type 0} (xs ys : List X) (k i : ℕ) (d : X) → k ≤ i → i + 1 < length xs
    → ys ≡ take i (remove xs k) ++ drop i xs
    → set ys i (get_or ys (i + 1) d) ≡ take (i + 1) (remove xs k) ++ drop (i + 1) xs
closed_more xs ys k i d from inside is =
    let shorter = length-remove xs k (omega (arith, from, inside)) in
    let front = take i (remove xs k) in
    let long : length front ≡ i = omega (arith, length-take i (remove xs k), shorter, inside) in
    let on : i + 1 ≡ length front + 1 = omega (arith, long) in
    let read : get_or ys (i + 1) d ≡ get_or (remove xs k) i d =
    ap (λ l. get_or l (i + 1) d) is ∙ ap (λ n. get_or (front ++ drop i xs) n d) on
    ∙ get_or-append-add front (drop i xs) 1 d ∙ get_or-drop i xs 1 d
    ∙ sym (get_or-remove_above xs k d i from (omega (arith, from, inside))) in
    let parts : ys ≡ front ++ get_or xs i d ∷ drop (i + 1) xs =
    is ∙ ap (λ l. front ++ l) (drop_more xs i d (omega (arith, inside))) in
    (λ j. set (parts j) i (read j)) ∙ set_at front (get_or xs i d) (drop (i + 1) xs) (get_or (remove xs k) i d) i long
    ∙ sym (append_assoc front (get_or (remove xs k) i d ∷ []) (drop (i + 1) xs))
    ∙ ap (λ l. l ++ drop (i + 1) xs) (sym (take_more (remove xs k) i d (omega (arith, shorter, inside))))

-- behind one that isn't higher
behind : (e d : Entry) (i : ℕ) (xs : List Entry) → AreEntriesRising xs → i < length xs → (get_or xs i d).seq ≤ e.seq
    → inserted_entry e xs ≡ take (suc i) xs ++ inserted_entry e (drop (suc i) xs)
behind e d i [] rising inside low = absurd (omega (arith, inside))
behind e d zero (x ∷ xs) rising inside low =
    let later : ltb e.seq x.seq ≡ false = grind (arith, nat_tests, low) in
    rw later refl
behind e d (suc i) (x ∷ xs) rising inside low =
    let above = above_at x.seq i d xs rising.0 (omega (arith, inside)) in
    let later : ltb e.seq x.seq ≡ false = grind (arith, nat_tests, above, low) in
    rw later (ap (λ ys. x ∷ ys) (behind e d i xs rising.1 (omega (arith, inside)) low))

-- before one that is higher
before : (e x : Entry) (xs : List Entry) → e.seq < x.seq → inserted_entry e (x ∷ xs) ≡ e ∷ x ∷ xs
before e x xs high = let first : ltb e.seq x.seq ≡ true = grind (arith, nat_tests, high) in rw first refl

-- up by one: of xs the first n belong there, p of them haven't moved, and what is above e has
module _ (e d : Entry) (xs ys : List Entry) (n p : ℕ) (some : 0 < p) (most : p ≤ n) (spare : n < length xs)
    (moved : ys ≡ take (p + 1) xs ++ drop p (take n xs)) where
  here : p - 1 + 1 ≡ p
  here = omega (arith, some)

  long : length (take n xs) ≡ n
  long = omega (arith, length-take n xs, spare)

  pub read : get_or ys (p - 1) d ≡ get_or (take n xs) (p - 1) d
  read = ap (λ l. get_or l (p - 1) d) moved
      ∙ get_or_append_left (take (p + 1) xs) (drop p (take n xs)) d (p - 1)
      (omega (arith, length-take (p + 1) xs, some, most, spare))
      ∙ get_or-take (p + 1) xs (p - 1) d (omega (arith, some))
      ∙ sym (get_or-take n xs (p - 1) d (omega (arith, some, most)))

  rest : drop (p - 1) (take n xs) ≡ get_or ys (p - 1) d ∷ drop p (take n xs)
  rest = drop_more (take n xs) (p - 1) d (omega (arith, long, some, most))
      ∙ (λ j. sym read j ∷ drop (here j) (take n xs))

  pub moved_more : set ys (p - 1 + 1) (get_or ys (p - 1) d) ≡ take (p - 1 + 1) xs ++ drop (p - 1) (take n xs)
  moved_more = rw (here, rest) (written xs ys (drop p (take n xs)) p (omega (arith, most, spare)) (get_or ys (p - 1) d) moved)

  pub above_more : e.seq < (get_or ys (p - 1) d).seq
      → inserted_entry e (drop (p - 1) (take n xs)) ≡ e ∷ drop (p - 1) (take n xs)
  above_more high = rw rest (before e (get_or ys (p - 1) d) (drop p (take n xs)) high)

  pub placed_behind : AreEntriesRising (take n xs) → (get_or ys (p - 1) d).seq ≤ e.seq
      → inserted_entry e (drop p (take n xs)) ≡ e ∷ drop p (take n xs)
      → set ys (p - 1 + 1) e ≡ inserted_entry e (take n xs)
  placed_behind rising low above =
      let on : suc (p - 1) ≡ p = omega (arith, some) in
      let low_there : (get_or (take n xs) (p - 1) d).seq ≤ e.seq = rw (← read) low in
      let all = behind e d (p - 1) (take n xs) rising (omega (arith, long, some, most)) low_there in
      rw here (written xs ys (drop p (take n xs)) p (omega (arith, most, spare)) e moved)
      ∙ (λ j. sym (take-take p n xs most) j ++ sym above j)
      ∙ ap (λ k. take k (take n xs) ++ inserted_entry e (drop k (take n xs))) (sym on) ∙ sym all

pub before_last : (xs ys : List Entry) (e : Entry) → ys ≡ xs ++ e ∷ [] → take (length ys - 1) ys ≡ xs
before_last xs ys e is =
    (λ j. take (length (is j) - 1) (is j)) ∙ take_at xs (e ∷ []) (length (xs ++ e ∷ []) - 1) (omega (arith, length_push xs e))

-- what a vector has after it lent its elements for that
module _ (v : ArrayVec Entry) (lent new : List Entry) (is_lent : lent ≡ v.items) (same : length new ≡ length lent) where
  written_back : (with_items v new).items ≡ new
  written_back = items-with_items v new (same ∙ ap length is_lent)

  pub has_inserted : (e : Entry) (old : List Entry) → v.items ≡ old ++ e ∷ []
      → new ≡ inserted_entry e (take (length lent - 1) lent) → (with_items v new).items ≡ inserted_entry e old
  has_inserted e old pushed sunk =
      written_back ∙ sunk ∙ ap (inserted_entry e) (before_last old lent e (is_lent ∙ pushed))

  pub has_as_many : length (with_items v new).items ≡ length v.items
  has_as_many = ap length written_back ∙ same ∙ ap length is_lent

  pub has_removed : (place : ℕ) (popped : List Entry) → take (length lent - 1) new ≡ remove lent place
      → popped ≡ take (length (with_items v new).items - 1) (with_items v new).items → popped ≡ remove v.items place
  has_removed place popped closed rest =
      rest ∙ (λ j. take (length (written_back j) - 1) (written_back j)) ∙ ap (λ n. take (n - 1) new) same ∙ closed
      ∙ ap (λ l. remove l place) is_lent
