-- The same tests of the rows of a history: what the events say at the places that a row names.
use Rattle.std.specs.Prelude.{ℕ, Bool, false, List, Option, option_and_then, slice_get, is_some}
use Rattle.std.specs.Option.{option_map}
use Rattle.events.specs.{declared.event.Event.Event}
use Rattle.events.specs.declared.event.Event.TheVariants.{Fetch, Decode, Rename, Issue, Complete}
use Rattle.events.specs.declared.event.Event.TheVariants.{Drop, Retire, Refetch}
use Rattle.smt_model.specs.{Basics.holds_of, Nexts.redirect_pc}
use Rattle.chart_rows.specs.{declared.row.Row.Row}
use Rattle.history_counts.specs.declared.instructions.Reason.{Reason}
use Rattle.history_counts.specs.Numbers.{squashes_for}

abbrev pub goes_elsewhere : ℕ → Event → Bool
goes_elsewhere predicted (Fetch actor hart seq pc word other) = false
goes_elsewhere predicted (Decode actor seq) = false
goes_elsewhere predicted (Rename actor seq phys) = false
goes_elsewhere predicted (Issue actor seq) = false
goes_elsewhere predicted (Complete actor seq outcome) = is_some (redirect_pc outcome.next predicted)
goes_elsewhere predicted (Drop actor seq) = false
goes_elsewhere predicted (Retire actor seq effect) = false
goes_elsewhere predicted (Refetch actor seq) = false

-- The event at which it completed goes on elsewhere than was predicted.
abbrev pub is_mispredicted_row : List Event → Row → Bool
is_mispredicted_row events row =
    holds_of (goes_elsewhere row.predicted) (option_and_then (slice_get events) row.completed)

abbrev pub is_replayed_row : Row → Bool
is_replayed_row row = row.replayed

-- The event that squashed it did so for this reason.
abbrev pub is_squashed_row : Reason → List Event → Row → Bool
is_squashed_row reason events row =
    holds_of (squashes_for reason)
    (option_and_then (λ q. slice_get events q.place) row.squashed)
