-- Changes stay in their one form as they are put in, written over and taken out; and equal memories have equal changes.
use Rattle.std.proofs.Common.{◌≡◌, ◌≢◌, ℕ, zero, suc, ◌+◌, ◌==◌, ◌<◌, ◌≤◌, not, false, if◌then◌else◌, List, [], ◌∷◌}
use Rattle.std.proofs.Common.{length, set, get_or, insert, filter, refl, sym, ap, subst, ◌∙◌, inl, inr, arith}
use Rattle.std.proofs.Common.{Some, slice_get}
use Rattle.std.proofs.lemmas.Bool.{cases_Bool, cases_eq, cases_lt}
use Rattle.std.proofs.lemmas.Bool.Decides.{nat_tests}
use Rattle.std.proofs.lemmas.Option.{get_or_from_slice_get}
use Rattle.changed_memory.specs.declared.change.Change.{Change}
use Rattle.changed_memory.specs.Canonical.{RiseFrom, AreCanonical}
use Rattle.changed_memory.specs.Places.{AreLower, IsAt, IsPlace}
use Rattle.changed_memory.specs.Shared.{changed}

-- ---- The changes stay in their form

pub rise_same : (f g : ℕ → ℕ) (least : ℕ) (xs : List Change) → ((a : ℕ) → f a ≡ g a) → RiseFrom f least xs
    → RiseFrom g least xs
rise_same f g least [] same rise = rise
rise_same f g least (x ∷ xs) same rise =
    (rise.0, subst (λ n. x.byte ≢ n) (same x.addr) rise.1, rise_same f g (x.addr + 1) xs same rise.2)

-- From a lower address on too.
rise_sooner : (first : ℕ → ℕ) (low high : ℕ) (xs : List Change) → low ≤ high → RiseFrom first high xs
    → RiseFrom first low xs
rise_sooner first low high [] less rise = rise
rise_sooner first low high (x ∷ xs) less rise = let above = rise.0 in (omega arith, rise.1, rise.2)

rise_without : (first : ℕ → ℕ) (least addr : ℕ) (xs : List Change) → RiseFrom first least xs
    → RiseFrom first least (filter (λ c. not (c.addr == addr)) xs)
rise_without first least addr [] rise = rise
rise_without first least addr (x ∷ xs) rise =
    let later = rise_without first (x.addr + 1) addr xs rise.2 in
    let above = rise.0 in
    let rest = filter (λ c. not (c.addr == addr)) xs in
    elim (cases_Bool (x.addr == addr)) [
      | inl out ↦ rw out (rise_sooner first least (x.addr + 1) rest (omega arith) later)
      | inr stays ↦ rw stays (above, rise.1, later)
    ]

pub stay_without : (first : ℕ → ℕ) (addr : ℕ) (xs : List Change) → AreCanonical first xs
    → AreCanonical first (filter (λ c. not (c.addr == addr)) xs)
stay_without first addr xs are = record { rise = rise_without first 0 addr xs are.rise }

rise_over : (first : ℕ → ℕ) (least k : ℕ) (c : Change) (xs : List Change) → k < length xs
    → ((d : Change) → (get_or xs k d).addr ≡ c.addr) → c.byte ≢ first c.addr → RiseFrom first least xs
    → RiseFrom first least (set xs k c)
rise_over first least k c [] inside same changes rise = absurd (omega arith)
rise_over first least zero c (x ∷ xs) inside same changes rise =
    (subst (λ a. least ≤ a) (same c) rise.0, changes, subst (λ a. RiseFrom first (a + 1) xs) (same c) rise.2)
rise_over first least (suc k) c (x ∷ xs) inside same changes rise =
    (rise.0, rise.1, rise_over first (x.addr + 1) k c xs (omega arith) same changes rise.2)

pub stay_over : (first : ℕ → ℕ) (k : ℕ) (c : Change) (xs : List Change) → IsAt xs c.addr k → c.byte ≢ first c.addr
    → AreCanonical first xs → AreCanonical first (set xs k c)
stay_over first k c xs is changes are = record { rise = rise_over first 0 k c xs is.within is.same changes are.rise }

rise_before : (first : ℕ → ℕ) (least k : ℕ) (c : Change) (xs : List Change) → k ≤ length xs → least ≤ c.addr
    → AreLower xs c.addr k → ((x : Change) → slice_get xs k ≡ Some x → c.addr < x.addr) → c.byte ≢ first c.addr
    → RiseFrom first least xs → RiseFrom first least (insert xs k c)
rise_before first least zero c [] inside above lower higher changes rise = (above, changes, rise)
rise_before first least zero c (x ∷ xs) inside above lower higher changes rise =
    let next = higher x refl in (above, changes, (omega arith, rise.1, rise.2))
rise_before first least (suc k) c [] inside above lower higher changes rise = absurd (omega arith)
rise_before first least (suc k) c (x ∷ xs) inside above lower higher changes rise =
    let below = lower 0 x (omega arith) refl in (
      rise.0,
      rise.1,
      rise_before first (x.addr + 1) k c xs (omega arith) (omega arith)
          (λ j y less at. lower (suc j) y (omega arith) at) higher changes rise.2,
    )

pub stay_before : (first : ℕ → ℕ) (k : ℕ) (c : Change) (xs : List Change) → IsPlace xs c.addr k
    → c.byte ≢ first c.addr → AreCanonical first xs → AreCanonical first (insert xs k c)
stay_before first k c xs is changes are = record {
  rise = rise_before first 0 k c xs is.within (omega arith) is.lower is.higher changes are.rise;
}

-- ---- Equal memories have equal changes

-- Below the first of the changes nothing is changed.
unchanged_below : (first : ℕ → ℕ) (least addr before : ℕ) (xs : List Change) → addr < least → RiseFrom first least xs
    → changed xs addr before ≡ before
unchanged_below first least addr before [] below rise = refl
unchanged_below first least addr before (x ∷ xs) below rise =
    let above = rise.0 in
    let apart : (x.addr == addr) ≡ false = grind (arith, nat_tests) in
    ap (λ b. if b then x.byte else changed xs addr before) apart
    ∙ unchanged_below first (x.addr + 1) addr before xs (omega arith) rise.2

changed_at : (x : Change) (xs : List Change) (before : ℕ) → changed (x ∷ xs) x.addr before ≡ x.byte
changed_at x xs before = grind (arith, nat_tests)

-- A list whose first change is lower than all of another one has another byte there.
lower_differs : (first : ℕ → ℕ) (least high : ℕ) (x : Change) (xs ys : List Change) → x.addr < high
    → RiseFrom first least (x ∷ xs) → RiseFrom first high ys
    → changed (x ∷ xs) x.addr (first x.addr) ≡ changed ys x.addr (first x.addr) → ⊥
lower_differs first least high x xs ys below rise other same =
    rise.1
    (sym (changed_at x xs (first x.addr)) ∙ same ∙ unchanged_below first high x.addr (first x.addr) ys below other)

rise_one : (first : ℕ → ℕ) (low high : ℕ) (xs ys : List Change) → RiseFrom first low xs → RiseFrom first high ys
    → ((a : ℕ) → changed xs a (first a) ≡ changed ys a (first a)) → xs ≡ ys
rise_one first low high [] [] rise other same = refl
rise_one first low high [] (y ∷ ys) rise other same =
    absurd (lower_differs first high (y.addr + 1) y ys [] (omega arith) other rise (sym (same y.addr)))
rise_one first low high (x ∷ xs) [] rise other same =
    absurd (lower_differs first low (x.addr + 1) x xs [] (omega arith) rise other (same x.addr))
rise_one first low high (x ∷ xs) (y ∷ ys) rise other same = elim (cases_lt x.addr y.addr) [
  | inl lower ↦
      absurd (lower_differs first low y.addr x xs (y ∷ ys) lower rise (omega arith, other.1, other.2) (same x.addr))
  | inr least ↦ elim (cases_lt y.addr x.addr) [
    | inl lower ↦
        absurd (lower_differs first high x.addr y ys (x ∷ xs) lower other (omega arith, rise.1, rise.2)
        (sym (same y.addr)))
    | inr most ↦
        let at : x.addr ≡ y.addr = omega arith in
        heads at (rise_one first (x.addr + 1) (y.addr + 1) xs ys rise.2 other.2 (tails at))
  ]
]
  where
    heads : x.addr ≡ y.addr → xs ≡ ys → x ∷ xs ≡ y ∷ ys
    heads at rest =
        let byte : x.byte ≡ y.byte =
        sym (changed_at x xs (first x.addr)) ∙ same x.addr
        ∙ subst (λ a. changed (y ∷ ys) a (first a) ≡ y.byte) (sym at) (changed_at y ys (first y.addr)) in
        λ i. record { addr = at i; byte = byte i } ∷ rest i

    tails : x.addr ≡ y.addr → (a : ℕ) → changed xs a (first a) ≡ changed ys a (first a)
    tails at a = elim (cases_lt a (x.addr + 1)) [
      | inl low ↦
          unchanged_below first (x.addr + 1) a (first a) xs low rise.2
          ∙ sym (unchanged_below first (y.addr + 1) a (first a) ys (omega (arith, at)) other.2)
      | inr high ↦
          let one : (x.addr == a) ≡ false = grind (arith, nat_tests) in
          let two : (y.addr == a) ≡ false = grind (arith, nat_tests, at) in
          sym (ap (λ b. if b then x.byte else changed xs a (first a)) one)
          ∙ same a ∙ ap (λ b. if b then y.byte else changed ys a (first a)) two
    ]

pub canonical_is_one : (first : ℕ → ℕ) (xs ys : List Change) → AreCanonical first xs → AreCanonical first ys
    → ((a : ℕ) → changed xs a (first a) ≡ changed ys a (first a)) → xs ≡ ys
canonical_is_one first xs ys one other same = rise_one first 0 0 xs ys one.rise other.rise same

-- ---- Where a change of an address stands

-- The change at a place that is neither of the address nor of a higher one is of a lower one.
pub lower_more : (xs : List Change) (addr k : ℕ) (d : Change) → k < length xs → AreLower xs addr k
    → (get_or xs k d).addr ≢ addr → (get_or xs k d).addr ≤ addr → AreLower xs addr (k + 1)
lower_more xs addr k d inside lower other not_higher j c less at = elim (cases_eq j k) [
  | inl here ↦
      let same : get_or xs k d ≡ c =
      get_or_from_slice_get xs k c d (subst (λ (n : ℕ). slice_get xs n ≡ Some c) here at) in
      let apart = subst (λ (x : Change). x.addr ≢ addr) same other in
      let within = subst (λ (x : Change). x.addr ≤ addr) same not_higher in
      omega (arith, apart, within)
  | inr before ↦ lower j c (omega arith) at
]

pub stay_of : (f g : ℕ → ℕ) (xs : List Change) → ((a : ℕ) → f a ≡ g a) → AreCanonical f xs → AreCanonical g xs
stay_of f g xs same are = record { rise = rise_same f g 0 xs same are.rise }
