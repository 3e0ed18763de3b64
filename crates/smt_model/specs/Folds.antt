-- How a history is read. Its newest event stands first, so that the rest of the list is what came
-- before an event.
use Rattle.std.specs.Prelude.{ℕ, List, [], ◌∷◌, Option, None}
use Rattle.smt_model.specs.{Words.Effect, Words.Event, Words.Retire, Basics.or_else}

-- What the newest event that says something of s says of it.
abbrev pub latest : {A : Type 0} → (Event → ℕ → Option A) → List Event → ℕ → Option A
latest says [] s = None
latest says (e ∷ past) s = or_else (says e s) (latest says past s)

-- What the retirements make of a start, one after the other: by the number and the effect of each,
-- and the history before it.
abbrev pub by_retirements : {A : Type 0} → (ℕ → Effect → List Event → A → A) → A → List Event → A
by_retirements change start [] = start
by_retirements change start (Retire actor seq effect ∷ past) =
    change seq effect past (by_retirements change start past)
by_retirements change start (_ ∷ past) = by_retirements change start past
