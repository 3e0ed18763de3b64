-- How a search goes on that has met its budget.
use Rattle.std.specs.Prelude.{ℕ, ◌<◌, ◌≤◌, Option, Some, None, length}
use Rattle.searches.specs.declared.step.Step.{Step}
use Rattle.searches.specs.declared.turn.Turn.{Turn}
use Rattle.searches.specs.declared.diving.Reached.{Reached}
use Rattle.searches.specs.Found.{Found, IsEndAt}

-- One of these harts, from the first on and before the last, makes this step from state s; or none of them has one.
abbrev pub IsNextTurn : {S W : Type 0} → (S → Type 0) → (S → ℕ → Option (Step S W) → Type 0) → S → ℕ → ℕ
    → Option (Turn S W) → Type 0
IsNextTurn Knows Steps s first behind None = (h : ℕ) → first ≤ h → h < behind → Steps s h None
IsNextTurn Knows Steps s first behind (Some t) =
    (t.hart < behind) × Knows t.step.state × Steps s t.hart (Some t.step)

-- A dive has gone on to another place; or it is at an end.
abbrev pub HasGoneOn : {S W : Type 0} → (S → ℕ → Option (Step S W) → Type 0) → Found S W → ℕ → Option Reached → Type 0
HasGoneOn Steps found place None = IsEndAt Steps found place
HasGoneOn Steps found place (Some reached) = (reached.place < length found.states) × (reached.hart < found.harts)
