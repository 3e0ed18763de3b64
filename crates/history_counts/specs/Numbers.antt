-- The numbers of a history: how many of its events, its instructions and its records pass a test.
use Rattle.std.specs.Prelude.{ℕ, Bool, true, false, ◌==◌, ◌&&◌, if◌then◌else◌, List, [], ◌∷◌, Option}
use Rattle.std.specs.Prelude.{Some, None, is_some}
use Rattle.events.specs.{Kind.event_kind, Kind.letter_of, declared.event.Event.Event}
use Rattle.events.specs.{declared.kind.EventKind.EventKind, declared.effect.Next.Next}
use Rattle.events.specs.declared.effect.Record.{Record}
use Rattle.events.specs.declared.effect.Next.TheVariants.{Pc, Ended, Stopped}
use Rattle.events.specs.declared.event.Event.TheVariants.{Fetch, Decode, Rename, Issue, Complete}
use Rattle.events.specs.declared.event.Event.TheVariants.{Drop, Retire, Refetch}
use Rattle.events.specs.declared.kind.EventKind.TheVariants as kinds
use Rattle.rv_instr.specs.{Registers.op_unit, Registers.same_unit, Decode.op_of_word}
use Rattle.rv_instr.specs.declared.op.UnitKind.{UnitKind}
use Rattle.smt_model.specs.{Basics.how_many, Basics.holds_of, Basics.below, Basics.or_else}
use Rattle.smt_model.specs.Fates.{fetches, completion, mispredicts, squashes}
use Rattle.chart_rows.specs.Rows.{looked_twice}
use Rattle.history_counts.specs.declared.instructions.Reason.{Reason}
use Rattle.history_counts.specs.declared.instructions.Reason.TheVariants.{Mispredicted, Replayed}
use Rattle.history_counts.specs.declared.instructions.Reason.TheVariants.{Refetched, HartEnded}
use Rattle.history_counts.specs.declared.instructions.Reason.TheVariants.{HartStopped}
use Rattle.history_counts.specs.declared.counts.Counts.{Counts}

-- ---- Events

-- How many events are of a kind.
abbrev pub is_kind : EventKind → Event → Bool
is_kind kind e = letter_of (event_kind e) == letter_of kind

abbrev pub events_of : EventKind → List Event → ℕ
events_of kind past = how_many (is_kind kind) past

-- ---- Instructions: how many of those that were fetched pass a test.

abbrev pub instructions : (ℕ → Bool) → List Event → ℕ
instructions test past = how_many test (below (fetches past))

-- Instruction s completed, and its completion goes on elsewhere than was predicted.
abbrev pub is_mispredicted : List Event → ℕ → Bool
is_mispredicted past s = holds_of (λ o. mispredicts past s o.next) (completion past s)

abbrev pub mispredictions : List Event → ℕ
mispredictions past = instructions (is_mispredicted past) past

-- It retired with another number than that of its first look: a load that was replayed.
abbrev pub replays : List Event → ℕ
replays past = instructions (looked_twice past) past

-- The first event that squashed instruction s.
abbrev pub squasher : List Event → ℕ → Option Event
squasher [] s = None
squasher (e ∷ past) s = or_else (squasher past s) (if squashes e past s then Some e else None)

-- Why an event squashes: a completion squashes what was fetched on a wrong path; a retirement does
-- where it ends or stops its hart, and else is that of a load with another number now; a refetch
-- squashes its own instruction and what was fetched behind it.
abbrev pub is_next_for : Reason → Next → Bool
is_next_for Mispredicted next = false
is_next_for Replayed (Pc pc) = true
is_next_for Replayed (Ended number) = false
is_next_for Replayed (Stopped cause) = false
is_next_for Refetched next = false
is_next_for HartEnded (Pc pc) = false
is_next_for HartEnded (Ended number) = true
is_next_for HartEnded (Stopped cause) = false
is_next_for HartStopped (Pc pc) = false
is_next_for HartStopped (Ended number) = false
is_next_for HartStopped (Stopped cause) = true

abbrev pub is_misprediction : Reason → Bool
is_misprediction Mispredicted = true
is_misprediction Replayed = false
is_misprediction Refetched = false
is_misprediction HartEnded = false
is_misprediction HartStopped = false

abbrev pub is_refetch : Reason → Bool
is_refetch Mispredicted = false
is_refetch Replayed = false
is_refetch Refetched = true
is_refetch HartEnded = false
is_refetch HartStopped = false

abbrev pub squashes_for : Reason → Event → Bool
squashes_for reason (Fetch actor hart seq pc word predicted) = false
squashes_for reason (Decode actor seq) = false
squashes_for reason (Rename actor seq phys) = false
squashes_for reason (Issue actor seq) = false
squashes_for reason (Complete actor seq outcome) = is_misprediction reason
squashes_for reason (Drop actor seq) = false
squashes_for reason (Retire actor seq effect) = is_next_for reason effect.next
squashes_for reason (Refetch actor seq) = is_refetch reason

-- How many instructions were squashed for a reason.
abbrev pub is_squashed_for : Reason → List Event → ℕ → Bool
is_squashed_for reason past s = holds_of (squashes_for reason) (squasher past s)

abbrev pub squashed_for : Reason → List Event → ℕ
squashed_for reason past = instructions (is_squashed_for reason past) past

-- ---- All of one history

unfoldable pub counts_of : List Event → Counts
counts_of past = record {
  fetched = events_of kinds.Fetch past;
  decoded = events_of kinds.Decode past;
  renamed = events_of kinds.Rename past;
  issued = events_of kinds.Issue past;
  completed = events_of kinds.Complete past;
  dropped = events_of kinds.Drop past;
  retired = events_of kinds.Retire past;
  mispredicted = mispredictions past;
  replayed = replays past;
  refetched = events_of kinds.Refetch past;
  squashed_mispredicted = squashed_for Mispredicted past;
  squashed_replayed = squashed_for Replayed past;
  squashed_refetched = squashed_for Refetched past;
  squashed_ended = squashed_for HartEnded past;
  squashed_stopped = squashed_for HartStopped past;
}

-- ---- Records

-- How many of these retired instructions are of a hart and were executed by a kind of unit.
abbrev pub is_record_of : ℕ → UnitKind → Record → Bool
is_record_of hart unit r = (r.hart == hart) && same_unit unit (op_unit (op_of_word r.word))

abbrev pub retired_by : ℕ → UnitKind → List Record → ℕ
retired_by hart unit records = how_many (is_record_of hart unit) records
