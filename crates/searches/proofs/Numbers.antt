-- Cases of two numbers.
use Rattle.std.proofs.Common.{◌≡◌, ◌≢◌, ℕ, ◌+◌, ◌<◌, ◌≤◌, ◌⊎◌, arith}

pub less_or_more : (m n : ℕ) → (m < n) ⊎ (n ≤ m)
less_or_more m n = grind arith

pub less_or_same : (m n : ℕ) → m < n + 1 → (m < n) ⊎ (m ≡ n)
less_or_same m n below = grind arith

pub same_or_other : (m n : ℕ) → (m ≡ n) ⊎ (m ≢ n)
same_or_other m n = grind arith

pub three_ways : (m n : ℕ) → (m < n) ⊎ ((n < m) ⊎ (m ≡ n))
three_ways m n = grind arith
