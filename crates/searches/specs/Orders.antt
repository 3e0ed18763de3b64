-- Where the moves of a machine's harts lead. `Steps s h next` says what hart h's next step from state
-- s comes to: another state and the way there, or nothing, where it has no step.
use Rattle.std.specs.Prelude.{◌≡◌, ℕ, List, [], ◌∷◌, Option, Some}
use Rattle.searches.specs.declared.moves.Move.{Move}
use Rattle.searches.specs.declared.step.Step.{Step}

-- The steps of the moves are there, in turn, and lead from s to t.
abbrev pub Leads : {S W : Type 0} → (S → ℕ → Option (Step S W) → Type 0) → S → List (Move W) → S → Type 0
Leads Steps s [] t = s ≡ t
Leads {S} Steps s (m ∷ moves) t =
    (u : S) × Steps s m.hart (Some (record { state = u; way = m.way })) × Leads Steps u moves t

-- Some moves lead from s to t.
abbrev pub IsReachable : {S W : Type 0} → (S → ℕ → Option (Step S W) → Type 0) → S → S → Type 0
IsReachable {S} {W} Steps s t = (moves : List (Move W)) × Leads Steps s moves t
