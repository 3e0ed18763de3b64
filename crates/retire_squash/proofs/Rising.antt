-- A list whose numbers rise, after it grows, shrinks or has a stage set.
use Rattle.std.proofs.Common.{◌≡◌, ℕ, ◌<◌, ◌≤◌, ◌==◌, true, false, cond, List, [], ◌∷◌, ◌++◌, drop, refl}
use Rattle.std.proofs.Common.{sym, subst, arith}
use Rattle.std.specs.List.{AllByRecursion}
use Rattle.retire_squash.specs.{declared.active.Active.Active, declared.active.Stage.Stage}
use Rattle.retire_squash.specs.Active.{Above, Within, AreActivesRising, staged, with_stage}

-- one more at the end
AllByRecursion-push : (P : Active → Type 0) (xs : List Active) (y : Active) → AllByRecursion P xs → P y
    → AllByRecursion P (xs ++ y ∷ [])
AllByRecursion-push P [] y all here = (here, tt)
AllByRecursion-push P (x ∷ xs) y all here = (all.0, AllByRecursion-push P xs y all.1 here)

pub IsRising-push : (xs : List Active) (y : Active) → AreActivesRising xs → Above y.seq xs
    → AreActivesRising (xs ++ y ∷ [])
IsRising-push [] y rising above = (tt, tt)
IsRising-push (x ∷ xs) y rising above =
    (AllByRecursion-push (λ z. x.seq < z.seq) xs y rising.0 above.0, IsRising-push xs y rising.1 above.1)

-- a front
AllByRecursion-front : (P : Active → Type 0) (xs ys : List Active) → AllByRecursion P (xs ++ ys) → AllByRecursion P xs
AllByRecursion-front P [] ys all = tt
AllByRecursion-front P (x ∷ xs) ys all = (all.0, AllByRecursion-front P xs ys all.1)

pub IsRising-front : (xs ys : List Active) → AreActivesRising (xs ++ ys) → AreActivesRising xs
IsRising-front [] ys rising = tt
IsRising-front (x ∷ xs) ys rising =
    (AllByRecursion-front (λ z. x.seq < z.seq) xs ys rising.0, IsRising-front xs ys rising.1)

All-last : (P : Active → Type 0) (xs : List Active) (y : Active) → AllByRecursion P (xs ++ y ∷ []) → P y
All-last P [] y all = all.0
All-last P (x ∷ xs) y all = All-last P xs y all.1

-- what is behind the oldest
pub IsRising-behind : (xs : List Active) → AreActivesRising xs → AreActivesRising (drop 1 xs)
IsRising-behind [] rising = tt
IsRising-behind (x ∷ xs) rising = rising.1

-- the youngest tells of all
pub Within-more : (xs : List Active) (n m : ℕ) → Within n xs → n ≤ m → Within m xs
Within-more [] n m within more = tt
Within-more (x ∷ xs) n m within more = (omega (arith, within.0, more), Within-more xs n m within.1 more)

pub Within-last : (xs : List Active) (y : Active) → AreActivesRising (xs ++ y ∷ []) → Within y.seq (xs ++ y ∷ [])
Within-last [] y rising = (omega arith, tt)
Within-last (x ∷ xs) y rising =
    (omega (arith, All-last (λ z. x.seq < z.seq) xs y rising.0), Within-last xs y rising.1)

pub Above-from : (xs : List Active) (n seq : ℕ) → Within n xs → n < seq → Above seq xs
Above-from [] n seq within less = tt
Above-from (x ∷ xs) n seq within less = (omega (arith, within.0, less), Above-from xs n seq within.1 less)

pub Above-last : (xs : List Active) (y : Active) (seq : ℕ) → Above seq (xs ++ y ∷ []) → y.seq < seq
Above-last xs y seq above = All-last (λ z. z.seq < seq) xs y above

-- a stage leaves the number of its instruction
seq-staged : (seq : ℕ) (stage : Stage) (x : Active) → (staged seq stage x).seq ≡ x.seq
seq-staged seq stage x =
    elim (x.seq == seq) as (λ b. (cond b (record x { stage = stage }) x).seq ≡ x.seq) [ true ↦ refl | false ↦ refl ]

AllByRecursion-with_stage : (n seq : ℕ) (stage : Stage) (xs : List Active) → AllByRecursion (λ y. n < y.seq) xs
    → AllByRecursion (λ y. n < y.seq) (with_stage seq stage xs)
AllByRecursion-with_stage n seq stage [] all = tt
AllByRecursion-with_stage n seq stage (x ∷ xs) all =
    (omega (arith, seq-staged seq stage x, all.0), AllByRecursion-with_stage n seq stage xs all.1)

pub IsRising-with_stage : (seq : ℕ) (stage : Stage) (xs : List Active) → AreActivesRising xs
    → AreActivesRising (with_stage seq stage xs)
IsRising-with_stage seq stage [] rising = tt
IsRising-with_stage seq stage (x ∷ xs) rising = (
  subst (λ n. AllByRecursion (λ y. n < y.seq) (with_stage seq stage xs)) (sym (seq-staged seq stage x))
      (AllByRecursion-with_stage x.seq seq stage xs rising.0),
  IsRising-with_stage seq stage xs rising.1,
)
