-- The lines of a history's script. (This project's own choice: an issue and its completion are asked
-- for apart, since other events may come between them.)
use Rattle.std.specs.Prelude.{ℕ, List, [], ◌∷◌, ◌++◌, flat_map, map, slice_index_or}
use Rattle.events.specs.declared.event.Event.{Event}
use Rattle.events.specs.declared.event.Event.TheVariants.{Fetch, Decode, Rename, Issue, Complete}
use Rattle.events.specs.declared.event.Event.TheVariants.{Drop, Retire, Refetch}
use Rattle.scripts.specs.{declared.actions.Action.Action, declared.actions.ScriptWord.ScriptWord}
use Rattle.scripts.specs.Lines.{line_text}
use Rattle.scripts.specs.declared.actions.Action.TheVariants as action

-- The harts of the fetched instructions, by their numbers.
abbrev pub hart_in : Event → List ℕ
hart_in (Fetch actor hart seq pc word predicted) = hart ∷ []
hart_in _ = []

abbrev pub harts_in : List Event → List ℕ
harts_in [] = []
harts_in (e ∷ past) = harts_in past ++ hart_in e

-- What is asked for an event: its actor's step, of its instruction's hart. A drop is asked for as a
-- completion is, and a refetch as a retirement is.
abbrev pub action_for : List ℕ → Event → Action
action_for harts (Fetch actor hart seq pc word predicted) = action.Fetch actor
action_for harts (Decode actor seq) = action.Decode actor (slice_index_or harts seq 0)
action_for harts (Rename actor seq phys) = action.Rename actor (slice_index_or harts seq 0)
action_for harts (Issue actor seq) = action.Issue actor
action_for harts (Complete actor seq outcome) = action.Complete actor
action_for harts (Drop actor seq) = action.Complete actor
action_for harts (Retire actor seq effect) = action.Retire actor (slice_index_or harts seq 0)
action_for harts (Refetch actor seq) = action.Retire actor (slice_index_or harts seq 0)

abbrev pub word_for : List ℕ → Event → ScriptWord
word_for harts e = record { action = action_for harts e; repeat = 1 }

-- A line for each event, the oldest first.
abbrev pub line_for : List ℕ → Event → List ScriptWord
line_for harts e = word_for harts e ∷ []

abbrev pub lines_for : List ℕ → List Event → List (List ScriptWord)
lines_for harts events = map (line_for harts) events

abbrev pub text_for : List ℕ → List Event → List ℕ
text_for harts events = flat_map line_text (lines_for harts events)
