-- What one more event makes of the rows of a history.
use Rattle.std.specs.Prelude.{◌≡◌, ℕ, ◌<◌, Bool, true, false, not, ◌==◌, ◌&&◌, ◌||◌, nat_lt}
use Rattle.std.specs.Prelude.{if◌then◌else◌, List, length, Some, is_some, slice_index_or}
use Rattle.events.specs.{Event.seq_of, declared.effect.Effect.Effect, declared.event.Event.Event}
use Rattle.events.specs.declared.event.Event.TheVariants.{Fetch, Decode, Rename, Issue, Complete}
use Rattle.events.specs.declared.event.Event.TheVariants.{Drop, Retire, Refetch}
use Rattle.smt_model.specs.{Words.op_of_word, Basics.or_else, Basics.same_number, Kinds.kind_of}
use Rattle.smt_model.specs.{Kinds.is_loading, Nexts.is_last, Nexts.redirect_pc}
use Rattle.chart_rows.specs.{declared.row.Row.Row, declared.row.Squash.Squash, Causes.cause_as}
use Rattle.chart_rows.specs.declared.cause.Cause.TheVariants.{Refetched}

-- The instruction of the row is replayed as it retires with this effect.
abbrev pub is_replay : Row → Effect → Bool
is_replay row effect =
    is_loading (kind_of (op_of_word row.word))
    && (is_some row.completed && not (same_number row.value effect.value))

-- What a squash makes of the row of an instruction.
abbrev pub gone : Squash → Row → Row
gone by row = record row { squashed = or_else row.squashed (Some by) }

-- What an event at a place makes of the row of its own instruction.
abbrev pub moved : Event → ℕ → Row → Row
moved (Fetch actor hart seq pc word predicted) place row = row
moved (Decode actor seq) place row = record row { decoded = Some place }
moved (Rename actor seq phys) place row = record row { renamed = Some place }
moved (Issue actor seq) place row = record row { issued = Some place }
moved (Complete actor seq outcome) place row =
    record row { completed = Some place; value = outcome.value }
moved (Drop actor seq) place row = record row { dropped = Some place }
moved (Retire actor seq effect) place row =
    record row { retired = Some place; replayed = is_replay row effect }
moved (Refetch actor seq) place row =
    gone (record { place = place; by = seq; cause = Refetched }) (record row { refetched = Some place })

-- The event squashes the younger instructions of its own one's hart.
abbrev pub cuts : Event → Row → Bool
cuts (Complete actor seq outcome) own = is_some (redirect_pc outcome.next own.predicted)
cuts (Retire actor seq effect) own = is_last effect.next || is_replay own effect
cuts (Refetch actor seq) own = true
cuts _ own = false

-- What a squash makes of the row of a younger instruction, where it is of this hart.
abbrev pub cut : ℕ → Squash → Row → Row
cut hart by row = if row.hart == hart then gone by row else row

-- What an event at a place makes of the row of instruction k.
abbrev pub row_after : Event → ℕ → Row → ℕ → Row → Row
row_after e place own k row =
    if seq_of e == k then moved e place row
    else (if cuts e own && nat_lt (seq_of e) k
    then cut own.hart (record { place = place; by = seq_of e; cause = cause_as e own.predicted }) row else row)

-- The rows behind an event, which fetches none.
pub record HaveMoved (e : Event) (place : ℕ) (old new : List Row) : Type 0 where
  pub count : length new ≡ length old
  pub each : (k : ℕ) (d : Row) → k < length old
      → slice_index_or new k d ≡ row_after e place (slice_index_or old (seq_of e) d) k (slice_index_or old k d)

-- The rows from number `first` on are cut.
pub record AreCut (first hart : ℕ) (by : Squash) (old new : List Row) : Type 0 where
  pub count : length new ≡ length old
  pub each : (k : ℕ) (d : Row) → k < length old
      → slice_index_or new k d ≡ (if nat_lt k first then slice_index_or old k d else cut hart by (slice_index_or old k d))
