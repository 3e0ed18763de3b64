-- The instruction of a number, where the numbers rise: found, and given a stage.
use Rattle.std.proofs.Common.{◌≡◌, ◌≢◌, ℕ, zero, suc, ◌+◌, ◌<◌, ◌≤◌, ◌==◌, true, false, cond, find, List, [], ◌∷◌}
use Rattle.std.proofs.Common.{length, drop, get_or, set, Some, None, refl, sym, ap, ◌∙◌, arith}
use Rattle.std.specs.List.{AllByRecursion}
use Rattle.std.proofs.lemmas.{Bool.Decides.nat_tests, Bool.ne_eqb, List.drop_more}
use Rattle.numbers.specs.Sizes.{most_in_flight}
use Rattle.retire_squash.specs.{declared.active.Active.Active, declared.active.Stage.Stage}
use Rattle.retire_squash.specs.Active.{AreActivesRising, with_stage}
use Rattle.retire_squash.specs.Ring.{IsAt, in_ring, place_from, steps_to}
use Rattle.retire_squash.proofs.Turning.{length-in_ring, in_ring_at, at_place, written_at}

-- those behind one have another number
later : (n : ℕ) (xs : List Active) (i : ℕ) (d : Active) → AllByRecursion (λ y. n < y.seq) xs → i < length xs
    → n < (get_or xs i d).seq
later n [] i d all inside = absurd (omega (arith, inside))
later n (x ∷ xs) zero d all inside = all.0
later n (x ∷ xs) (suc i) d all inside = later n xs i d all.1 (omega (arith, inside))

later_stay : (seq : ℕ) (stage : Stage) (n : ℕ) (xs : List Active) → n ≡ seq → AllByRecursion (λ y. n < y.seq) xs
    → with_stage seq stage xs ≡ xs
later_stay seq stage n [] same all = refl
later_stay seq stage n (x ∷ xs) same all =
    let apart : (x.seq == seq) ≡ false = grind (arith, nat_tests, all.0, same) in
    rw apart (ap (λ ys. x ∷ ys) (later_stay seq stage n xs same all.1))

-- the instruction at i has the number
pub found : (seq : ℕ) (xs : List Active) (i : ℕ) (d : Active) → AreActivesRising xs → i < length xs
    → (get_or xs i d).seq ≡ seq → find (λ x. x.seq == seq) xs ≡ Some (get_or xs i d)
found seq [] i d rising inside it = absurd (omega (arith, inside))
found seq (x ∷ xs) zero d rising inside it =
    let same : (x.seq == seq) ≡ true = grind (arith, nat_tests, it) in rw same refl
found seq (x ∷ xs) (suc i) d rising inside it =
    let within : i < length xs = omega (arith, inside) in
    let apart : (x.seq == seq) ≡ false = grind (arith, nat_tests, later x.seq xs i d rising.0 within, it) in
    rw apart (found seq xs i d rising.1 within it)

pub staged_at : (seq : ℕ) (stage : Stage) (xs : List Active) (i : ℕ) (d : Active) → AreActivesRising xs → i < length xs
    → (get_or xs i d).seq ≡ seq → set xs i (record (get_or xs i d) { stage = stage }) ≡ with_stage seq stage xs
staged_at seq stage [] i d rising inside it = absurd (omega (arith, inside))
staged_at seq stage (x ∷ xs) zero d rising inside it =
    let same : (x.seq == seq) ≡ true = grind (arith, nat_tests, it) in
    rw same (ap (λ ys. record x { stage = stage } ∷ ys) (sym (later_stay seq stage x.seq xs it rising.0)))
staged_at seq stage (x ∷ xs) (suc i) d rising inside it =
    let within : i < length xs = omega (arith, inside) in
    let apart : (x.seq == seq) ≡ false = grind (arith, nat_tests, later x.seq xs i d rising.0 within, it) in
    rw apart (ap (λ ys. x ∷ ys) (staged_at seq stage xs i d rising.1 within it))

-- none has the number
pub none_staged : (seq : ℕ) (stage : Stage) (xs : List Active) → find (λ x. x.seq == seq) xs ≡ None
    → with_stage seq stage xs ≡ xs
none_staged seq stage [] none = refl
none_staged seq stage (x ∷ xs) none =
    elim (x.seq == seq) as
    (λ b. cond b (Some x) (find (λ y. y.seq == seq) xs) ≡ None
    → cond b (record x { stage = stage }) x ∷ with_stage seq stage xs ≡ x ∷ xs) [
      | true ↦ λ one. absurd (grind (arith, one))
      | false ↦ λ rest. ap (λ ys. x ∷ ys) (none_staged seq stage xs rest)
    ] none

-- ---- In a ring

module _ (first count : ℕ) (xs : List Active) (long : length xs ≡ most_in_flight) (inside : first < most_in_flight)
    (fits : count ≤ most_in_flight) (seq : ℕ) where
  pub found_in_ring : (p : ℕ) (d : Active) → AreActivesRising (in_ring first count xs) → IsAt first count xs seq p
      → find (λ x. x.seq == seq) (in_ring first count xs) ≡ Some (get_or xs p d)
  found_in_ring p d rising at =
      let stands = at_place first xs long inside count p d fits at.inside at.in_flight in
      found seq (in_ring first count xs) (steps_to first p) d rising
      (omega (arith, at.in_flight, length-in_ring first xs long inside count fits)) (ap (λ a. a.seq) stands ∙ at.number d)
      ∙ ap Some stands

  pub staged_in_ring : (p : ℕ) (d : Active) (stage : Stage) → AreActivesRising (in_ring first count xs)
      → IsAt first count xs seq p
      → in_ring first count (set xs p (record (get_or xs p d) { stage = stage }))
      ≡ with_stage seq stage (in_ring first count xs)
  staged_in_ring p d stage rising at =
      let stands = at_place first xs long inside count p d fits at.inside at.in_flight in
      let now : Active = record (get_or xs p d) { stage = stage } in
      written_at first xs long inside count p now fits at.inside at.in_flight
      ∙ ap (λ a. set (in_ring first count xs) (steps_to first p) (record a { stage = stage })) (sym stands)
      ∙ staged_at seq stage (in_ring first count xs) (steps_to first p) d rising
      (omega (arith, at.in_flight, length-in_ring first xs long inside count fits)) (ap (λ a. a.seq) stands ∙ at.number d)

  -- a turn of the search
  pub searched : (steps : ℕ) (d : Active) → steps < count → (get_or xs (place_from first steps) d).seq ≢ seq
      → find (λ x. x.seq == seq) (drop (steps + 1) (in_ring first count xs))
      ≡ find (λ x. x.seq == seq) (drop steps (in_ring first count xs))
  searched steps d within other =
      let stands = in_ring_at first xs long inside count steps d fits within in
      let apart : ((get_or (in_ring first count xs) steps d).seq == seq) ≡ false =
      ne_eqb _ seq (λ same. other (ap (λ a. a.seq) (sym stands) ∙ same)) in
      let there : steps < length (in_ring first count xs) =
      omega (arith, within, length-in_ring first xs long inside count fits) in
      rw (drop_more (in_ring first count xs) steps d there, apart) refl
