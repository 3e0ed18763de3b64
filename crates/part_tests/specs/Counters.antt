-- The machine of the tests of `searches`: two harts that count.
use Rattle.std.specs.Prelude.{◌≡◌, ℕ, ◌+◌, nat_lt, Bool, true, ◌==◌, ◌&&◌}
use Rattle.std.specs.Prelude.{Option, Some, None, if◌then◌else◌}
use Rattle.std.proofs.Common.{arith}
use Rattle.std.proofs.lemmas.Grind.{common_steps}
use Rattle.searches.specs.declared.step.Step.{Step}

-- The first hart counts to the limit.
abbrev pub first_after : ℕ → ℕ → Option ℕ
first_after limit own = if nat_lt own limit then Some (own + 1) else None

-- So does the second; but where it waits, it stays at 1 once the first has begun.
abbrev pub second_after : ℕ → Bool → ℕ → ℕ → Option ℕ
second_after limit waits first own =
    if waits && ((own == 1) && nat_lt 0 first) then Some own else first_after limit own

-- The way of a step is the count that it comes to.
abbrev pub first_step : ℕ × ℕ → Option ℕ → Option (Step (ℕ × ℕ) ℕ)
first_step s None = None
first_step s (Some count) = Some (record { state = (count, s.1); way = count })

abbrev pub second_step : ℕ × ℕ → Option ℕ → Option (Step (ℕ × ℕ) ℕ)
second_step s None = None
second_step s (Some count) = Some (record { state = (s.0, count); way = count })

abbrev pub step_of : ℕ → Bool → ℕ × ℕ → ℕ → Option (Step (ℕ × ℕ) ℕ)
step_of limit waits s h =
    if h == 0 then first_step s (first_after limit s.0)
    else second_step s (second_after limit waits s.0 s.1)

pub same_counts : (s t : ℕ × ℕ) → ((s.0 == t.0) && (s.1 == t.1)) ≡ true → s ≡ t
same_counts s t e = grind (arith, common_steps)
