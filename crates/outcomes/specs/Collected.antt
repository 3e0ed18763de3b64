-- The outcomes of a search's ends, and what its states have in memory.
use Rattle.std.specs.Prelude.{◌≡◌, ℕ, ◌==◌, Bool, List, Contains, Some, slice_get}
use Rattle.std.specs.List.{list_all}
use Rattle.condensed_machine.specs.{Machine.Machine, Decoded.state_of, declared.state.State.State}
use Rattle.outcomes.specs.declared.{listed.Listed.Listed}
use Rattle.watched_outcomes.specs.declared.{watch.Watch.Watch, watch.WatchedBytes.WatchedBytes}
use Rattle.outcomes.specs.{Lists.HasEnding}
use Rattle.watched_outcomes.specs.{Endings.Ending, Endings.ending_of, Endings.word_in}

-- What a state is as an end.
abbrev pub ending_at : Machine → Watch → State → Ending
ending_at m watch s = ending_of m.program.harts watch (state_of m s)

-- The outcome of a state is asked for.
abbrev pub IsAskedAt : (Ending → Type 0) → Machine → Watch → State → Type 0
IsAskedAt Asks m watch s = Asks (ending_at m watch s)

-- It is the outcome of the end at its place.
pub record IsOfEnd (m : Machine) (watch : Watch) (states : List State) (ends : List ℕ) (l : Listed) : Type 0 where
  pub state : State
  pub is_end : Contains ends l.place
  pub at : slice_get states l.place ≡ Some state
  pub is : l.outcome ≡ ending_at m watch state

-- Each end's outcome is listed, and nothing else.
pub record AreOutcomes (m : Machine) (watch : Watch) (states : List State) (ends : List ℕ)
    (listed : List Listed) : Type 0 where
  pub all : (place : ℕ) (s : State) → Contains ends place → slice_get states place ≡ Some s
      → HasEnding listed (ending_at m watch s)
  pub each : (l : Listed) → Contains listed l → IsOfEnd m watch states ends l

-- 0 is at a place in a state; and in all of them.
abbrev pub is_zero : Machine → WatchedBytes → State → Bool
is_zero m w s = word_in (state_of m s) w == 0

abbrev pub is_unwritten : Machine → List State → WatchedBytes → Bool
is_unwritten m states w = list_all (is_zero m w) states
