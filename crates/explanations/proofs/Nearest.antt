-- A loop that looks for the nearest of some names.
use Rattle.std.specs.Int.{div_ceil}
use Rattle.std.proofs.Common.{◌≡◌, ℕ, ◌+◌, ◌-◌, ◌*◌, ◌^◌, ◌<◌, ◌≤◌, List, [], length, get_or, Option, Some, None}
use Rattle.std.proofs.Common.{arith, ap, subst, sym, refl, ◌∙◌}
use Rattle.std.proofs.Math.Nat.{eq-or-lt_of_le}
use mathlib.Core.Logic.{inl, inr}
use Rattle.explanations.specs.ConfigRefusal.{distance, distance_to, IsNear}

-- Of so many names the nearest was found, at this distance; or none of them is near.
pub record IsNearestBefore (other : List ℕ) (names : List (List ℕ)) (count least index : ℕ) : Type 0 where
  pub inside : index < count
  pub near : IsNear other names index
  pub is : least ≡ distance_to other names index
  pub first : (k : ℕ) → k < index → IsNear other names k → least < distance_to other names k
  pub all : (k : ℕ) → k < count → IsNear other names k → least ≤ distance_to other names k

pub record IsNoneBefore (other : List ℕ) (names : List (List ℕ)) (count least : ℕ) : Type 0 where
  pub greatest : least ≡ 2 ^ 64 - 1
  pub none : (k : ℕ) → k < count → IsNear other names k → ⊥

abbrev pub IsNearestOf : List ℕ → List (List ℕ) → ℕ → ℕ → Option ℕ → Type 0
IsNearestOf other names count least (Some index) = IsNearestBefore other names count least index
IsNearestOf other names count least None = IsNoneBefore other names count least

pub none_yet : (other : List ℕ) (names : List (List ℕ)) → IsNearestOf other names 0 (2 ^ 64 - 1) None
none_yet other names = record { greatest = refl; none = λ k below near. absurd (omega (arith, below)) }

-- the next one is nearer
farther : (other : List ℕ) (names : List (List ℕ)) (count d least : ℕ) (found : Option ℕ)
    → IsNearestOf other names count least found → d < least → (k : ℕ) → k < count → IsNear other names k
    → d < distance_to other names k
farther other names count d least (Some index) so nearer k below near =
    let all = so.all k below near in omega (arith, all, nearer)
farther other names count d least None so nearer k below near = absurd (so.none k below near)

pub taken : (other : List ℕ) (names : List (List ℕ)) (count d least : ℕ) (found : Option ℕ) (name : List ℕ)
    → name ≡ get_or names count [] → d ≡ distance other name → d < least → d ≤ div_ceil (length name) 3
    → IsNearestOf other names count least found → IsNearestOf other names (count + 1) d (Some count)
taken other names count d least found name here is nearer near so =
    let same : d ≡ distance_to other names count = is ∙ ap (distance other) here in
    let long : length name ≡ length (get_or names count []) = ap length here in
    record {
      inside = omega arith;
      near = omega (arith, same, near, long);
      is = same;
      first = λ k below one. farther other names count d least found so nearer k below one;
      all = λ k below one.
          elim (eq-or-lt_of_le {n = k} {m = count} (omega (arith, below))) [
            | inl last ↦ let there = same ∙ ap (distance_to other names) (sym last) in omega (arith, there)
            | inr less ↦
                let there = farther other names count d least found so nearer k less one in omega (arith, there)
          ];
    }

-- the next one isn't
pub passed : (other : List ℕ) (names : List (List ℕ)) (count d least : ℕ) (found : Option ℕ) (name : List ℕ)
    → name ≡ get_or names count [] → d ≡ distance other name
    → (d ≤ div_ceil (length name) 3 → (least ≤ d) × (d < 2 ^ 64 - 1))
    → IsNearestOf other names count least found → IsNearestOf other names (count + 1) least found
passed other names count d least (Some index) name here is farther so =
    let same : d ≡ distance_to other names count = is ∙ ap (distance other) here in
    let long : length name ≡ length (get_or names count []) = ap length here in
    record {
      inside = omega (arith, so.inside);
      near = so.near;
      is = so.is;
      first = so.first;
      all = λ k below one.
          elim (eq-or-lt_of_le {n = k} {m = count} (omega (arith, below))) [
            | inl last ↦
                let near : IsNear other names count = subst (λ (n : ℕ). IsNear other names n) last one in
                let there = ap (distance_to other names) last in
                let far = farther (omega (arith, near, same, long)) in
                omega (arith, far.0, same, there)
            | inr less ↦ so.all k less one
          ];
    }
passed other names count d least None name here is farther so =
    let same : d ≡ distance_to other names count = is ∙ ap (distance other) here in
    let long : length name ≡ length (get_or names count []) = ap length here in
    record {
      greatest = so.greatest;
      none = λ k below one.
          elim (eq-or-lt_of_le {n = k} {m = count} (omega (arith, below))) [
            | inl last ↦
                let near : IsNear other names count = subst (λ (n : ℕ). IsNear other names n) last one in
                let far = farther (omega (arith, near, same, long)) in
                absurd (omega (arith, far.0, far.1, so.greatest))
            | inr less ↦ so.none k less one
          ];
    }
