-- What stands at a step of the ring, and what a write, a turn or another count makes of it.
use Rattle.std.proofs.Common.{◌≡◌, ◌≢◌, ℕ, zero, suc, ◌+◌, ◌-◌, ◌<◌, ◌≤◌, ◌⊎◌, inl, inr, List, [], ◌∷◌, ◌++◌}
use Rattle.std.proofs.Common.{length, take, drop, min, get_or, set, sym, ap, ◌∙◌, arith}
use Rattle.std.proofs.lemmas.List.{same_lists, append-nil, take-append-le, length-take-le, take-take, length-append}
use Rattle.std.proofs.lemmas.List.{length-drop, length-set, get_or-take, get_or-drop, get_or_append_left}
use Rattle.std.proofs.lemmas.List.{get_or-append_right, get_or-set_same, get_or-set_other, set_split, take_all}
use Rattle.std.proofs.lemmas.List.{take_more, drop_all, drop_more}
use Rattle.std.proofs.Math.Seq.{take-append-add}
use Rattle.std.proofs.lemmas.Bool.{cases_eq}
use Rattle.numbers.specs.Sizes.{most_in_flight}
use Rattle.retire_squash.specs.declared.active.Active.{Active}
use Rattle.retire_squash.specs.Active.{AreActivesRising}
use Rattle.retire_squash.specs.Ring.{turned, in_ring, place_from, steps_to}

-- ---- Places and steps

below_or_not : (a b : ℕ) → (a < b) ⊎ (b ≤ a)
below_or_not zero zero = inr (omega arith)
below_or_not zero (suc b) = inl (omega arith)
below_or_not (suc a) zero = inr (omega arith)
below_or_not (suc a) (suc b) = elim (below_or_not a b) [ inl h ↦ inl (omega arith) | inr h ↦ inr (omega arith) ]

pub place_inside : (first steps : ℕ) → place_from first steps < most_in_flight
place_inside first steps = omega arith

pub steps_there : (first steps : ℕ) → first < most_in_flight → steps < most_in_flight
    → steps_to first (place_from first steps) ≡ steps
steps_there first steps inside within = omega arith

pub place_there : (first place : ℕ) → first < most_in_flight → place < most_in_flight
    → place_from first (steps_to first place) ≡ place
place_there first place inside within = omega arith

other_place : (first i k : ℕ) → first < most_in_flight → i < most_in_flight → k < most_in_flight → i ≢ k
    → place_from first i ≢ place_from first k
other_place first i k inside one two other same =
    other (sym (steps_there first i inside one) ∙ ap (steps_to first) same ∙ steps_there first k inside two)

-- ---- What stands there

module _ (first : ℕ) (xs : List Active) (long : length xs ≡ most_in_flight) (inside : first < most_in_flight) where
  pub length-turned : length (turned first xs) ≡ most_in_flight
  length-turned =
      let round = length-take-le first xs (omega arith) in
      omega (arith, length-append (drop first xs) (take first xs), length-drop first xs, round)

  pub length-in_ring : (count : ℕ) → count ≤ most_in_flight → length (in_ring first count xs) ≡ count
  length-in_ring count fits = length-take-le count (turned first xs) (omega (arith, length-turned))

  turned_at : (i : ℕ) (d : Active) → i < most_in_flight → get_or (turned first xs) i d ≡ get_or xs (place_from first i) d
  turned_at i d within =
      let straight = length-drop first xs in
      elim (below_or_not (first + i) most_in_flight) [
        | inl h ↦
            let there : first + i ≡ place_from first i = omega arith in
            get_or_append_left (drop first xs) (take first xs) d i (omega arith) ∙ get_or-drop first xs i d
            ∙ ap (λ k. get_or xs k d) there
        | inr h ↦
            let there : i - (most_in_flight - first) ≡ place_from first i = omega arith in
            get_or-append_right (drop first xs) (take first xs) (most_in_flight - first) i d (omega arith) (omega arith)
            ∙ get_or-take first xs (i - (most_in_flight - first)) d (omega arith) ∙ ap (λ k. get_or xs k d) there
      ]

  pub in_ring_at : (count i : ℕ) (d : Active) → count ≤ most_in_flight → i < count
      → get_or (in_ring first count xs) i d ≡ get_or xs (place_from first i) d
  in_ring_at count i d fits within =
      get_or-take count (turned first xs) i d within ∙ turned_at i d (omega arith)

  -- fewer
  pub fewer : (count : ℕ) → in_ring first (count - 1) xs ≡ take (count - 1) (in_ring first count xs)
  fewer count = sym (take-take (count - 1) count (turned first xs) (omega arith))

-- one is written
module _ (first : ℕ) (xs : List Active) (long : length xs ≡ most_in_flight) (inside : first < most_in_flight) where
  pub written : (count k : ℕ) (a : Active) → count ≤ most_in_flight → k < count
      → in_ring first count (set xs (place_from first k) a) ≡ set (in_ring first count xs) k a
  written count k a fits within =
      let ys = set xs (place_from first k) a in
      let same : length ys ≡ most_in_flight = length-set xs (place_from first k) a ∙ long in
      let was = length-in_ring first xs long inside count fits in
      let is = length-in_ring first ys same inside count fits in
      same_lists _ _ (is ∙ sym was ∙ sym (length-set (in_ring first count xs) k a)) (λ i d h.
      let there : i < count = omega (arith, is, h) in
      in_ring_at first ys same inside count i d fits there ∙ elim (cases_eq i k) [
        | inl it ↦ rw it (get_or-set_same xs (place_from first k) a d (omega (arith, place_inside first k))
            ∙ sym (get_or-set_same (in_ring first count xs) k a d (omega arith)))
        | inr other ↦ get_or-set_other xs (place_from first k) (place_from first i) a d
            (other_place first i k inside (omega arith) (omega arith) other)
            ∙ sym (in_ring_at first xs long inside count i d fits there)
            ∙ sym (get_or-set_other (in_ring first count xs) k i a d other)
      ])

  -- one more
  pub pushed : (count : ℕ) (a : Active) → count < most_in_flight
      → in_ring first (count + 1) (set xs (place_from first count) a) ≡ in_ring first count xs ++ a ∷ []
  pushed count a room =
      let more = in_ring first (count + 1) xs in
      let long_more = length-in_ring first xs long inside (count + 1) (omega arith) in
      written (count + 1) count a (omega arith) (omega arith) ∙ set_split more count a (omega arith)
      ∙ ap (λ l. l ++ a ∷ drop (suc count) more) (take-take count (count + 1) (turned first xs) (omega arith))
      ∙ ap (λ l. in_ring first count xs ++ a ∷ l) (drop_all (suc count) more (omega arith))

  -- the oldest leaves
  pub popped : (count : ℕ) → 0 < count → count ≤ most_in_flight
      → in_ring (place_from first 1) (count - 1) xs ≡ drop 1 (in_ring first count xs)
  popped count some fits =
      let next = place_from first 1 in
      let was = length-in_ring first xs long inside count fits in
      let is = length-in_ring next xs long (place_inside first 1) (count - 1) (omega arith) in
      same_lists _ _ (is ∙ sym (length-drop 1 (in_ring first count xs) ∙ ap (λ n. n - 1) was)) (λ i d h.
      let there : place_from next i ≡ place_from first (1 + i) = omega arith in
      in_ring_at next xs long (place_inside first 1) (count - 1) i d (omega arith) (omega (arith, is, h))
      ∙ ap (λ k. get_or xs k d) there ∙ sym (in_ring_at first xs long inside count (1 + i) d fits (omega (arith, is, h)))
      ∙ sym (get_or-drop 1 (in_ring first count xs) i d))

  -- at a place in flight
  pub at_place : (count p : ℕ) (d : Active) → count ≤ most_in_flight → p < most_in_flight → steps_to first p < count
      → get_or (in_ring first count xs) (steps_to first p) d ≡ get_or xs p d
  at_place count p d fits there within =
      in_ring_at first xs long inside count (steps_to first p) d fits within
      ∙ ap (λ k. get_or xs k d) (place_there first p inside there)

  pub written_at : (count p : ℕ) (a : Active) → count ≤ most_in_flight → p < most_in_flight → steps_to first p < count
      → in_ring first count (set xs p a) ≡ set (in_ring first count xs) (steps_to first p) a
  written_at count p a fits there within =
      ap (λ k. in_ring first count (set xs k a)) (sym (place_there first p inside there))
      ∙ written count (steps_to first p) a fits within

-- how many are in flight
pub count_is : (first count : ℕ) (xs now : List Active)
    → (length xs ≡ most_in_flight) × (first < most_in_flight) × (count ≤ most_in_flight)
    × AreActivesRising (in_ring first count xs)
    → in_ring first count xs ≡ now → length now ≡ count
count_is first count xs now ring is = sym (ap length is) ∙ length-in_ring first xs ring.0 ring.1 count ring.2

module _ (first count : ℕ) (xs now : List Active)
    (ring : (length xs ≡ most_in_flight) × (first < most_in_flight) × (count ≤ most_in_flight)
    × AreActivesRising (in_ring first count xs)) (is : in_ring first count xs ≡ now) (some : 0 < count) (d : Active) where
  -- the oldest
  pub oldest_is : now ≡ get_or xs first d ∷ drop 1 now
  oldest_is =
      let there : place_from first 0 ≡ first = omega (arith, ring.1) in
      drop_more now 0 d (omega (arith, count_is first count xs now ring is))
      ∙ ap (λ y. y ∷ drop 1 now) (ap (λ l. get_or l 0 d) (sym is) ∙ in_ring_at first xs ring.0 ring.1 count 0 d ring.2 some
      ∙ ap (λ k. get_or xs k d) there)

  -- the youngest
  pub youngest_is : now ≡ take (length now - 1) now ++ get_or xs (place_from first (count - 1)) d ∷ []
  youngest_is =
      let long = count_is first count xs now ring is in
      let last : length now - 1 ≡ count - 1 = omega (arith, long) in
      sym (take_all (length now - 1 + 1) now (omega (arith, long))) ∙ take_more now (length now - 1) d (omega (arith, long))
      ∙ ap (λ y. take (length now - 1) now ++ y ∷ []) (ap (λ k. get_or now k d) last ∙ ap (λ l. get_or l (count - 1) d) (sym is)
      ∙ in_ring_at first xs ring.0 ring.1 count (count - 1) d ring.2 (omega (arith, some)))

-- up to the end of the ring, and from its beginning on
pub two_runs : (count : ℕ) (ss rs : List Active)
    → take (min count (length ss)) ss ++ take (count - min count (length ss)) rs ≡ take count (ss ++ rs)
two_runs count ss rs =
    elim (below_or_not count (length ss)) [
      | inl fewer_than ↦
          let all : min count (length ss) ≡ count = omega (arith, fewer_than) in
          let none : count - count ≡ 0 = omega arith in
          rw (all, none) (append-nil (take count ss) ∙ sym (take-append-le count ss rs (omega (arith, fewer_than))))
      | inr more_than ↦
          let all : min count (length ss) ≡ length ss = omega (arith, more_than) in
          let sum : length ss + (count - length ss) ≡ count = omega (arith, more_than) in
          rw all (ap (λ l. l ++ take (count - length ss) rs) (take_all (length ss) ss (omega arith))
          ∙ sym (take-append-add ss rs (count - length ss)) ∙ ap (λ n. take n (ss ++ rs)) sum)
    ]
