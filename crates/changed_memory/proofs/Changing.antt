-- What lists of changes leave at an address: of two, one after another, of one that is put in or written over, and of
-- one of which an address was taken out.
use Rattle.std.proofs.Common.{◌≡◌, ℕ, suc, ◌+◌, ◌==◌, ◌<◌, ◌≢◌, not, true, false, if◌then◌else◌, List, [], ◌∷◌, ◌++◌}
use Rattle.std.proofs.Common.{length, take, drop, set, get_or, insert, filter, refl, sym, ap, subst, ◌∙◌, inl, inr, arith}
use Rattle.std.proofs.lemmas.Bool.{cases_Bool}
use Rattle.std.proofs.lemmas.Bool.Decides.{nat_tests}
use Rattle.std.proofs.lemmas.List.{take-append-drop, take_more, set_split}
use Rattle.std.proofs.Math.Seq.{drop-cons}
use Rattle.changed_memory.specs.declared.change.Change.{Change}
use Rattle.changed_memory.specs.Places.{IsClear, IsAt, IsPlace}
use Rattle.changed_memory.specs.Shared.{changed}

pub changed_joined : (xs ys : List Change) (addr before : ℕ)
    → changed (xs ++ ys) addr before ≡ changed xs addr (changed ys addr before)
changed_joined [] ys addr before = refl
changed_joined (x ∷ xs) ys addr before =
    ap (λ (n : ℕ). if x.addr == addr then x.byte else n) (changed_joined xs ys addr before)

-- The change at a place that is clear is found, and one of another address is passed.
changed_here : (c : Change) (ys : List Change) (before : ℕ) → changed (c ∷ ys) c.addr before ≡ c.byte
changed_here c ys before = grind (arith, nat_tests)

abbrev changed_by : Change → ℕ → ℕ → ℕ
changed_by c addr before = if c.addr == addr then c.byte else before

pub clear_more : (xs : List Change) (addr k : ℕ) (d : Change) → k < length xs → IsClear xs addr k
    → (get_or xs k d).addr ≢ addr → IsClear xs addr (k + 1)
clear_more xs addr k d inside clear other before =
    let x = get_or xs k d in
    let passed : (x.addr == addr) ≡ false = grind (arith, nat_tests, other) in
    ap (λ ys. changed ys addr before) (take_more xs k d inside)
    ∙ changed_joined (take k xs) (x ∷ []) addr before
    ∙ clear (changed_by x addr before) ∙ ap (λ b. if b then x.byte else before) passed

-- A change between two lists of which the first is clear at its address.
between : (xs ys : List Change) (c : Change) → ((before : ℕ) → changed xs c.addr before ≡ before)
    → (addr before : ℕ)
    → changed (xs ++ c ∷ ys) addr before ≡ (if c.addr == addr then c.byte else changed xs addr (changed ys addr before))
between xs ys c clear addr before =
    changed_joined xs (c ∷ ys) addr before ∙ elim (cases_Bool (c.addr == addr)) [
      | inl here ↦ rw here (found here)
      | inr other ↦ rw other refl
    ]
  where
    found : (c.addr == addr) ≡ true → changed xs addr c.byte ≡ c.byte
    found here = let same : c.addr ≡ addr = grind (arith, nat_tests) in
        subst (λ a. changed xs a c.byte ≡ c.byte) same (clear c.byte)

pub put_before : (xs : List Change) (c : Change) (k : ℕ) → IsPlace xs c.addr k → (addr before : ℕ)
    → changed (insert xs k c) addr before ≡ (if c.addr == addr then c.byte else changed xs addr before)
put_before xs c k is addr before =
    between (take k xs) (drop k xs) c is.clear addr before
    ∙ ap (λ (n : ℕ). if c.addr == addr then c.byte else n)
    (sym (changed_joined (take k xs) (drop k xs) addr before)
    ∙ ap (λ ys. changed ys addr before) (take-append-drop k xs))

pub put_over : (xs : List Change) (c : Change) (k : ℕ) → IsAt xs c.addr k → (addr before : ℕ)
    → changed (set xs k c) addr before ≡ (if c.addr == addr then c.byte else changed xs addr before)
put_over xs c k is addr before =
    let old = get_or xs k c in
    let rest = drop (suc k) xs in
    ap (λ ys. changed ys addr before) (set_split xs k c is.within)
    ∙ between (take k xs) rest c is.clear addr before
    ∙ elim (cases_Bool (c.addr == addr)) [
      | inl here ↦ rw here refl
      | inr other ↦ rw other (
          sym (ap (λ ys. changed ys addr before) whole
          ∙ changed_joined (take k xs) (old ∷ rest) addr before
          ∙ ap (λ b. changed (take k xs) addr (if b then old.byte else changed rest addr before))
          (ap (λ n. n == addr) (is.same c) ∙ other)))
    ]
  where
    whole : xs ≡ take k xs ++ get_or xs k c ∷ drop (suc k) xs
    whole = sym (take-append-drop k xs) ∙ ap (λ ys. take k xs ++ ys) (drop-cons xs k c is.within)

pub taken_out : (x : ℕ) (xs : List Change) (addr before : ℕ)
    → changed (filter (λ c. not (c.addr == x)) xs) addr before ≡ (if x == addr then before else changed xs addr before)
taken_out x [] addr before = grind arith
taken_out x (c ∷ xs) addr before =
    let later = taken_out x xs addr before in
    elim (cases_Bool (c.addr == x)) [
      | inl out ↦ rw out (grind (arith, nat_tests, later))
      | inr stays ↦ rw stays (grind (arith, nat_tests, later))
    ]
