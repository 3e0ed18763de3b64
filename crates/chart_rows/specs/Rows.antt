-- The rows of a chart: at which event of a history an instruction moved on, and which event squashed
-- it. An event's place is how many came before it. (This project's own choice.)
use Rattle.std.specs.Prelude.{◌≡◌, ℕ, ◌<◌, Bool, false, ◌==◌, ◌&&◌, if◌then◌else◌, List, [], ◌∷◌}
use Rattle.std.specs.Prelude.{length, reverse, Option, Some, None, is_some, slice_index_or}
use Rattle.events.specs.{Event.seq_of, Kind.event_kind, Kind.letter_of}
use Rattle.events.specs.{declared.effect.Outcome.Outcome, declared.event.Event.Event}
use Rattle.events.specs.{declared.event.Event.TheVariants.Retire, declared.kind.EventKind.EventKind}
use Rattle.events.specs.declared.kind.EventKind.TheVariants as kinds
use Rattle.smt_model.specs.{Basics.or_else, Rules.is_legal, Setup.Setup}
use Rattle.smt_model.specs.Fates.{fetches, fetching, completion, squashes, is_replayed, fate, is}
use Rattle.smt_model.specs.Fates.{Squashed}
use Rattle.chart_rows.specs.{declared.row.Row.Row, declared.row.Squash.Squash, Causes.cause}

-- The event is of this kind, and of instruction s.
abbrev pub is_event : EventKind → Event → ℕ → Bool
is_event kind e s = (letter_of (event_kind e) == letter_of kind) && (seq_of e == s)

-- The place of the last event of a kind that instruction s has: it has no two of one kind.
abbrev pub place : EventKind → List Event → ℕ → Option ℕ
place kind [] s = None
place kind (e ∷ past) s = if is_event kind e s then Some (length past) else place kind past s

-- The place of the first event that squashed instruction s, the instruction which that event is of, and why
-- it did: a mispredicted one, one that ended or stopped its hart, a load that was replayed, or one that
-- is fetched again, which may be s itself.
abbrev pub squash_of : Event → List Event → ℕ → Option Squash
squash_of e past s =
    if squashes e past s then Some (record { place = length past; by = seq_of e; cause = cause e past }) else None

abbrev pub squash : List Event → ℕ → Option Squash
squash [] s = None
squash (e ∷ past) s = or_else (squash past s) (squash_of e past s)

-- Instruction s retired with another number than that of its first look.
abbrev pub looked_twice : List Event → ℕ → Bool
looked_twice [] s = false
looked_twice (Retire actor seq effect ∷ past) s =
    if seq == s then is_replayed past s effect else looked_twice past s
looked_twice (_ ∷ past) s = looked_twice past s

-- The number that a completion gave.
abbrev pub value_of : Option Outcome → Option ℕ
value_of None = None
value_of (Some outcome) = outcome.value

-- The row of instruction s in the chart of a history.
pub record IsRow (past : List Event) (s : ℕ) (row : Row) : Type 0 where
  pub instruction : fetching past s ≡ Some (record {
    hart = row.hart;
    pc = row.pc;
    word = row.word;
    predicted = row.predicted;
  })
  pub fetched : place kinds.Fetch past s ≡ Some row.fetched
  pub decoded : place kinds.Decode past s ≡ row.decoded
  pub renamed : place kinds.Rename past s ≡ row.renamed
  pub issued : place kinds.Issue past s ≡ row.issued
  pub completed : place kinds.Complete past s ≡ row.completed
  pub dropped : place kinds.Drop past s ≡ row.dropped
  pub retired : place kinds.Retire past s ≡ row.retired
  pub refetched : place kinds.Refetch past s ≡ row.refetched
  pub squashed : squash past s ≡ row.squashed
  pub value : value_of (completion past s) ≡ row.value
  pub replayed : looked_twice past s ≡ row.replayed

-- The rows of all instructions that were fetched, by rising number.
pub record AreRows (past : List Event) (rows : List Row) : Type 0 where
  pub count : length rows ≡ fetches past
  pub each : (s : ℕ) (d : Row) → s < length rows → IsRow past s (slice_index_or rows s d)

-- A row says that its instruction was squashed exactly where its fate is that. So one that retired isn't
-- shown as squashed.
pub record TellSquashes (past : List Event) (rows : List Row) : Type 0 where
  pub squashed : (s : ℕ) (d : Row) → s < length rows
      → is (fate past s) Squashed ≡ is_some (slice_index_or rows s d).squashed

-- The events, the oldest first, are a legal history of some core.
abbrev pub AreHistory : List Event → Type 0
AreHistory events = (setup : Setup) × is_legal setup (reverse events)
