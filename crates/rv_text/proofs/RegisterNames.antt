-- The search for the register of a name.
use Rattle.std.proofs.Common.{◌≡◌, ◌≢◌, ℕ, ◌+◌, ◌≤◌, ◌⊎◌, Bool, true, false, ◌==◌, List, refl, arith}
use Rattle.rv_text.specs.Registers.{abi_name, x_name, IsNameOf}

-- a turn of the search for the register of a name
pub another_name : (name : List ℕ) (k : ℕ) → ((r : ℕ) → IsNameOf r name → k ≤ r)
    → ((name ≡ abi_name k) ⊎ (name ≡ x_name k) → ⊥) → (r : ℕ) → IsNameOf r name → k + 1 ≤ r
another_name name k below other r is = by_test (r == k) refl
  where
    by_test : (b : Bool) → (r == k) ≡ b → k + 1 ≤ r
    by_test true same = let is_k : r ≡ k = grind arith in absurd (other (rw is_k at is.name))
    by_test false apart =
        let least = below r is in
        let not_k : r ≢ k = grind arith in grind arith
