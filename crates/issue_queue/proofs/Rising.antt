-- Entries by rising number: after one more, after some less, and which ready one is the oldest.
use Rattle.std.proofs.Common.{◌≡◌, ◌≢◌, ℕ, ◌<◌, ◌≤◌, ◌==◌, ltb, Bool, true, false, cond, Some, List, [], ◌∷◌, map}
use Rattle.std.proofs.Common.{zero, suc, ◌++◌, filter, length, get_or, take, drop, refl, sym, ap, ◌∙◌, subst, arith}
use Rattle.std.proofs.lemmas.Bool.Decides.{nat_tests}
use Rattle.std.specs.Prelude.{Option, None, IfSome}
use Rattle.std.specs.List.{AllByRecursion}
use Rattle.std.proofs.lemmas.Bool.{ltb-true, ltb-false, eqb-false, or_parts, false≢true}
use Rattle.rv_instr.specs.declared.op.UnitKind.{UnitKind}
use Rattle.issue_queue.specs.{declared.entry.Entry.Entry, Entry.can_issue, Entry.woken_entry}
use Rattle.issue_queue.specs.Queue.{Queue, AreEntriesRising, has_number, inserted_entry, first_ready, is_other, IsOldestReady}

-- some less
AllByRecursion-filter : (P : Entry → Type 0) (test : Entry → Bool) (xs : List Entry) → AllByRecursion P xs
    → AllByRecursion P (filter test xs)
AllByRecursion-filter P test [] all = tt
AllByRecursion-filter P test (x ∷ xs) all =
    elim (test x) as (λ b. AllByRecursion P (cond b (x ∷ filter test xs) (filter test xs)))
    [ true ↦ (all.0, AllByRecursion-filter P test xs all.1) | false ↦ AllByRecursion-filter P test xs all.1 ]

pub IsRising-filter : (test : Entry → Bool) (xs : List Entry) → AreEntriesRising xs → AreEntriesRising (filter test xs)
IsRising-filter test [] rising = tt
IsRising-filter test (x ∷ xs) rising =
    elim (test x) as (λ b. AreEntriesRising (cond b (x ∷ filter test xs) (filter test xs))) [
      | true ↦ (AllByRecursion-filter (λ y. x.seq < y.seq) test xs rising.0, IsRising-filter test xs rising.1)
      | false ↦ IsRising-filter test xs rising.1
    ]

-- a value that is handed on leaves the numbers
AllByRecursion-woken : (n register value : ℕ) (xs : List Entry) → AllByRecursion (λ y. n < y.seq) xs
    → AllByRecursion (λ y. n < y.seq) (map (woken_entry register value) xs)
AllByRecursion-woken n register value [] all = tt
AllByRecursion-woken n register value (x ∷ xs) all = (all.0, AllByRecursion-woken n register value xs all.1)

pub IsRising-woken : (register value : ℕ) (xs : List Entry) → AreEntriesRising xs
    → AreEntriesRising (map (woken_entry register value) xs)
IsRising-woken register value [] rising = tt
IsRising-woken register value (x ∷ xs) rising =
    (AllByRecursion-woken x.seq register value xs rising.0, IsRising-woken register value xs rising.1)

-- one more
AllByRecursion-inserted : (P : Entry → Type 0) (e : Entry) (xs : List Entry) → P e → AllByRecursion P xs
    → AllByRecursion P (inserted_entry e xs)
AllByRecursion-inserted P e [] here all = (here, tt)
AllByRecursion-inserted P e (x ∷ xs) here all =
    elim (ltb e.seq x.seq) as (λ b. AllByRecursion P (cond b (e ∷ x ∷ xs) (x ∷ inserted_entry e xs)))
    [ true ↦ (here, all) | false ↦ (all.0, AllByRecursion-inserted P e xs here all.1) ]

-- what is above x is above what is below x
AllByRecursion-below : (m n : ℕ) (xs : List Entry) → m < n → AllByRecursion (λ y. n < y.seq) xs
    → AllByRecursion (λ y. m < y.seq) xs
AllByRecursion-below m n [] below all = tt
AllByRecursion-below m n (x ∷ xs) below all = (omega (arith, all.0), AllByRecursion-below m n xs below all.1)

-- e in front of x, or behind it
placed : (e x : Entry) (xs : List Entry) → AreEntriesRising (x ∷ xs) → x.seq ≢ e.seq
    → AreEntriesRising (inserted_entry e xs)
    → (b : Bool) → ltb e.seq x.seq ≡ b → AreEntriesRising (cond b (e ∷ x ∷ xs) (x ∷ inserted_entry e xs))
placed e x xs rising other later true is =
    let below : e.seq < x.seq = ltb-true e.seq x.seq is in
    ((below, AllByRecursion-below e.seq x.seq xs below rising.0), rising)
placed e x xs rising other later false is =
    let above : x.seq ≤ e.seq = ltb-false e.seq x.seq is in
    (AllByRecursion-inserted (λ y. x.seq < y.seq) e xs (omega arith) rising.0, later)

pub IsRising-inserted : (e : Entry) (xs : List Entry) → AreEntriesRising xs → has_number e.seq xs ≡ false
    → AreEntriesRising (inserted_entry e xs)
IsRising-inserted e [] rising absent = (tt, tt)
IsRising-inserted e (x ∷ xs) rising absent =
    let others = or_parts (x.seq == e.seq) (has_number e.seq xs) absent in
    placed e x xs rising (eqb-false x.seq e.seq others.0) (IsRising-inserted e xs rising.1 others.1)
    (ltb e.seq x.seq) refl

-- the first ready one is the oldest
none_below : (kind : UnitKind) (n : ℕ) (xs : List Entry) → AllByRecursion (λ y. n < y.seq) xs
    → AllByRecursion (λ y. can_issue kind y ≡ true → n ≤ y.seq) xs
none_below kind n [] all = tt
none_below kind n (x ∷ xs) all = (λ _. omega (arith, all.0), none_below kind n xs all.1)

oldest_step : (kind : UnitKind) (e x : Entry) (xs : List Entry) → AreEntriesRising (x ∷ xs)
    → (first_ready kind xs ≡ Some e → IsOldestReady kind xs e)
    → (b : Bool) → can_issue kind x ≡ b → cond b (Some x) (first_ready kind xs) ≡ Some e → IsOldestReady kind (x ∷ xs) e
oldest_step kind e x xs rising later true is found =
    let it : x ≡ e = cc in
    subst (IsOldestReady kind (x ∷ xs)) it
    (record { ready = is; oldest = ((λ _. omega arith), none_below kind x.seq xs rising.0) })
oldest_step kind e x xs rising later false is found =
    let oldest = later found in
    record { ready = oldest.ready; oldest = ((λ ready. absurd (false≢true (sym is ∙ ready))), oldest.oldest) }

pub IsOldest-first_ready : (kind : UnitKind) (e : Entry) (xs : List Entry) → AreEntriesRising xs
    → first_ready kind xs ≡ Some e → IsOldestReady kind xs e
IsOldest-first_ready kind e [] rising found = absurd cc
IsOldest-first_ready kind e (x ∷ xs) rising found =
    oldest_step kind e x xs rising (IsOldest-first_ready kind e xs rising.1) (can_issue kind x) refl found

abbrev pub queue : ℕ → List Entry → Queue
queue size xs = record { size = size; entries = xs }

pub same_entries : (size : ℕ) (xs ys : List Entry) → xs ≡ ys → queue size xs ≡ queue size ys
same_entries size xs ys same = ap (queue size) same

-- without the entry of a number, which stands in one place alone
others_stay : (n m : ℕ) (xs : List Entry) → m ≡ n → AllByRecursion (λ y. m < y.seq) xs → filter (is_other n) xs ≡ xs
others_stay n m [] same all = refl
others_stay n m (x ∷ xs) same all =
    let apart : is_other n x ≡ true = grind (arith, nat_tests, all.0, same) in
    rw apart (ap (λ ys. x ∷ ys) (others_stay n m xs same all.1))

pub above_at : (n i : ℕ) (d : Entry) (xs : List Entry) → AllByRecursion (λ y. n < y.seq) xs → i < length xs
    → n < (get_or xs i d).seq
above_at n i d [] all inside = absurd (omega (arith, inside))
above_at n zero d (x ∷ xs) all inside = all.0
above_at n (suc i) d (x ∷ xs) all inside = above_at n i d xs all.1 (omega (arith, inside))

pub without_place : (n i : ℕ) (xs : List Entry) → AreEntriesRising xs → i < length xs
    → ((d : Entry) → (get_or xs i d).seq ≡ n) → filter (is_other n) xs ≡ take i xs ++ drop (suc i) xs
without_place n i [] rising inside it = absurd (omega (arith, inside))
without_place n zero (x ∷ xs) rising inside it =
    let gone : is_other n x ≡ false = grind (arith, nat_tests, it x) in
    rw gone (others_stay n x.seq xs (it x) rising.0)
without_place n (suc i) (x ∷ xs) rising inside it =
    let above = above_at x.seq i x xs rising.0 (omega (arith, inside)) in
    let apart : is_other n x ≡ true = grind (arith, nat_tests, above, it x) in
    rw apart (ap (λ ys. x ∷ ys) (without_place n i xs rising.1 (omega (arith, inside)) it))

pub without_none : (n : ℕ) (xs : List Entry) → has_number n xs ≡ false → filter (is_other n) xs ≡ xs
without_none n [] absent = refl
without_none n (x ∷ xs) absent =
    let parts = or_parts (x.seq == n) (has_number n xs) absent in
    let apart : is_other n x ≡ true = rw parts.0 refl in
    rw apart (ap (λ ys. x ∷ ys) (without_none n xs parts.1))

pub IsOldest-answered : (kind : UnitKind) (xs : List Entry) (r : Option Entry) → AreEntriesRising xs
    → r ≡ first_ready kind xs → IfSome r (IsOldestReady kind xs)
IsOldest-answered kind xs None rising is = tt
IsOldest-answered kind xs (Some e) rising is = IsOldest-first_ready kind e xs rising (sym is)
