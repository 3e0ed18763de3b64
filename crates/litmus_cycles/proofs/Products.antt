-- Products and sums that stop at the greatest number.
use Rattle.std.proofs.Common.{◌≡◌, ℕ, zero, suc, ◌+◌, ◌-◌, ◌*◌, ◌^◌, ◌≤◌, ◌<◌, min, List, arith, ap, ap₂, refl, sym, ◌∙◌, inl, inr}
use Rattle.std.proofs.Common.{subst, mul-zero, mul_comm, mul-le-mul_right, le-mul_of_pos_right, zero-lt-suc, le_of_lt, le_trans}
use Rattle.std.proofs.lemmas.Bool.{cases_lt}
use Rattle.std.proofs.Math.Nat.{min-eq_left, min-eq_right}
use Rattle.litmus_cycles.specs.declared.event.MemoryEvent.{MemoryEvent}
use Rattle.litmus_cycles.specs.Choices.{writes_at}
use Rattle.litmus_cycles.specs.Counts.{orders, all_orders}

pub orders_next : (count : ℕ) → (count ≡ 0 → ⊥) → orders count ≡ orders (count - 1) * count
orders_next zero some = absurd (some refl)
orders_next (suc count) some =
    let e : suc count - 1 ≡ count = omega arith in
    ap (λ n. orders n * suc count) (sym e)

pub all_orders_next : (events : List MemoryEvent) (locations : ℕ) → (locations ≡ 0 → ⊥)
    → all_orders events locations ≡ all_orders events (locations - 1) * orders (writes_at (locations - 1) events)
all_orders_next events zero some = absurd (some refl)
all_orders_next events (suc location) some =
    let e : suc location - 1 ≡ location = omega arith in
    ap (λ n. all_orders events n * orders (writes_at n events)) (sym e)

-- One factor is stopped at the limit, the other is 0, or is 1 at least: the product is stopped at the same.
stopped_by : (limit a b : ℕ) → min (min a limit * b) limit ≡ min (a * b) limit
stopped_by limit a zero =
    let left : min a limit * zero ≡ 0 = mul-zero (min a limit) in
    let right : a * zero ≡ 0 = mul-zero a in
    ap (λ n. min n limit) (left ∙ sym right)
stopped_by limit a (suc b) =
    elim (cases_lt a limit) [
      | inl less ↦ ap (λ n. min (n * suc b) limit) (min-eq_left (le_of_lt less))
      | inr more ↦
          let e : min a limit ≡ limit = min-eq_right more in
          let up : limit ≤ limit * suc b = le-mul_of_pos_right limit (zero-lt-suc b) in
          min-eq_right (subst (λ n. limit ≤ n * suc b) (sym e) up)
          ∙ sym (min-eq_right (le_trans up (mul-le-mul_right (suc b) more)))
    ]

pub stopped : (limit a b : ℕ) → min (min a limit * min b limit) limit ≡ min (a * b) limit
stopped limit a b =
    stopped_by limit a (min b limit) ∙ ap (λ n. min n limit) (mul_comm a (min b limit))
    ∙ stopped_by limit b a ∙ ap (λ n. min n limit) (mul_comm b a)

-- One factor is small.
pub stopped_left : (limit a b : ℕ) → min (min a limit * b) limit ≡ min (a * b) limit
stopped_left limit a b = stopped_by limit a b

pub stopped_right : (limit a b : ℕ) → min (a * min b limit) limit ≡ min (a * b) limit
stopped_right limit a b =
    ap (λ n. min n limit) (mul_comm a (min b limit)) ∙ stopped_by limit b a ∙ ap (λ n. min n limit) (mul_comm b a)

pub stopped_sum : (limit a b c first second : ℕ) → min b limit ≡ min (a + first) limit
    → min c limit ≡ min (b + second) limit → min c limit ≡ min (a + (first + second)) limit
stopped_sum limit a b c first second one other = omega (arith, one, other)

pub once_stopped : (limit a b asked total : ℕ) → asked ≡ min total limit → b ≡ min (a + asked) limit
    → min b limit ≡ min (a + total) limit
once_stopped limit a b asked total is sum = omega (arith, is, sum)
