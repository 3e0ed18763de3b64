-- Which events of a history stand in one column of a chart by rounds: the longest run of events, from where the one
-- before it ends, in which no actor comes twice and no row has two marks. A history has its newest event first; an
-- event's place is how many came before it. (This project's own choice.)
use Rattle.std.specs.Prelude.{◌≡◌, ℕ, suc, ◌+◌, ◌-◌, ◌<◌, Bool, false, ◌==◌, ◌&&◌, ◌||◌, nat_le, nat_lt}
use Rattle.std.specs.Prelude.{if◌then◌else◌, List, [], ◌∷◌, length, reverse, take, slice_index_or, Option, Some, None}
use Rattle.std.specs.List.{list_any}
use Rattle.events.specs.{declared.event.Event.Event, Event.actor_of}
use Rattle.chart_columns.specs.declared.rounds.Round.{Round}
use Rattle.chart_rows.specs.{declared.row.Row.Row, Cells.is_at, Views.place_of_squash}

-- Where a row has a mark: under each event of its instruction, and under the one that squashed it.
abbrev pub marks : Row → List (Option ℕ)
marks row = Some row.fetched ∷ row.decoded ∷ row.renamed ∷ row.issued ∷ row.completed ∷ row.dropped
    ∷ row.retired ∷ row.refetched ∷ place_of_squash row.squashed ∷ []

-- One of these marks is at this place; and one is at a place from one on, before another.
abbrev pub is_marked : ℕ → List (Option ℕ) → Bool
is_marked place all = list_any (λ mark. is_at mark place) all

abbrev pub lies_between : ℕ → ℕ → Option ℕ → Bool
lies_between from place None = false
lies_between from place (Some at) = nat_le from at && nat_lt at place

abbrev pub has_between : ℕ → ℕ → List (Option ℕ) → Bool
has_between from place all = list_any (lies_between from place) all

-- A row has marks of the event at a place, and of one from a place on, before it.
abbrev pub shares_row : List Row → ℕ → ℕ → Bool
shares_row rows from place =
    list_any (λ row. is_marked place (marks row) && has_between from place (marks row)) rows

-- One of these events is the actor's.
abbrev pub has_actor : ℕ → List Event → Bool
has_actor actor events = list_any (λ e. actor_of e == actor) events

-- The event that comes next has its actor, or a row that it marks, in common with one from this place on.
abbrev pub meets : List Row → Event → List Event → ℕ → Bool
meets rows e past from =
    has_actor (actor_of e) (take (length past - from) past) || shares_row rows from (length past)

-- The round of the newest event: the place at which it begins, and how many rounds came before.
abbrev pub next_round : Bool → ℕ → Round → Round
next_round begins place round =
    if begins then record { start = place; column = suc round.column } else round

abbrev pub round : List Row → List Event → Round
round rows [] = record { start = 0; column = 0 }
round rows (e ∷ past) =
    next_round (meets rows e past (round rows past).start) (length past) (round rows past)

-- The column of the event at a place.
abbrev pub column_at : List Row → List Event → ℕ → ℕ
column_at rows events place = (round rows (reverse (take (place + 1) events))).column

-- These are the columns of all events, the oldest first.
pub record AreColumns (rows : List Row) (events : List Event) (columns : List ℕ) : Type 0 where
  pub count : length columns ≡ length events
  pub each : (place d : ℕ) → place < length events → slice_index_or columns place d ≡ column_at rows events place
