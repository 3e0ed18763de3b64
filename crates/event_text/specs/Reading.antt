-- How a line is read back as an event: what the reader answers on every text. The rules are tried
-- in their order, the fields from left to right. (This project's own choice.)

use Rattle.std.specs.Prelude.{ℕ, ◌/◌, ◌||◌, ◌==◌, if◌then◌else◌, List, length, drop, slice_index}
use Rattle.std.specs.Prelude.{Bool, true, Option, None, Some, Result, Ok, Err}
use Rattle.text_fields.specs.{declared.read.FieldError.FieldError}
use Rattle.text_fields.specs.{declared.read.FieldError.TheVariants.Misspelled}
use Rattle.text_fields.specs.{declared.read.FieldError.TheVariants.OutOfRange}
use Rattle.text_fields.specs.{Reading.decimal_field, Reading.hex_field, Reading.optional_field}
use Rattle.text_fields.specs.{Splitting.field, Splitting.field_count, Splitting.rest}
use Rattle.events.specs.{declared.effect.Effect.Effect, declared.effect.Next.Next}
use Rattle.events.specs.{declared.effect.Next.TheVariants.Pc}
use Rattle.events.specs.{declared.effect.Next.TheVariants.Ended}
use Rattle.events.specs.{declared.effect.Next.TheVariants.Stopped, declared.effect.Outcome.Outcome}
use Rattle.events.specs.{declared.effect.Written.Written, declared.event.Event.Event}
use Rattle.events.specs.{Kind.fields_after, Kind.kind_of_letter, declared.kind.EventKind.EventKind}
use Rattle.event_text.specs.{declared.ranges.Ranges.Ranges}
use Rattle.event_text.specs.{declared.read.Rule.Rule, declared.read.Rule.TheVariants.FirstField}
use Rattle.event_text.specs.{declared.read.Rule.TheVariants.FieldCount}
use Rattle.event_text.specs.{declared.read.Rule.TheVariants.Field}
use Rattle.events.specs.declared.event.Event.TheVariants.{Fetch, Decode, Rename, Issue, Complete}
use Rattle.events.specs.declared.event.Event.TheVariants.{Drop, Retire, Refetch}
use Rattle.events.specs.declared.kind.EventKind.TheVariants as kind

-- the number of a rule that a line breaks
abbrev pub rule_number : Rule → ℕ
rule_number FirstField = 3
rule_number FieldCount = 4
rule_number (Field Misspelled) = 5
rule_number (Field OutOfRange) = 6

-- the rest of a reading, which goes on only with what was read
infixl 10 ◌>>=◌
abbrev pub ◌>>=◌ : {A B E : Type 0} → Result A E → (A → Result B E) → Result B E
Ok value >>= next = next value
Err error >>= next = Err error

-- the first field of a line, and those after it
abbrev pub first_field : List ℕ → List ℕ
first_field fields = field 32 fields

abbrev pub others : List ℕ → List ℕ
others fields = rest 32 fields

-- what stands after a `p`: the next pc
unfoldable pub pc_field : List ℕ → Result Next FieldError
pc_field digits = do
  pc ← hex_field 8 digits
  Ok (Pc pc)

-- after an `e`: the status
unfoldable pub ended_of : List ℕ → Result Next FieldError
ended_of digits = do
  status ← hex_field 8 digits
  Ok (Ended status)

-- a cause that isn't one is misspelled too
abbrev pub cause_read : Result ℕ FieldError → Result Next FieldError
cause_read (Ok cause) = Ok (Stopped cause)
cause_read (Err error) = Err Misspelled

-- after an `s`: the cause
unfoldable pub stopped_of : List ℕ → Result Next FieldError
stopped_of digits = cause_read (decimal_field 8 digits)

-- what comes next, by its letter
unfoldable pub next_field : List ℕ → Result Next FieldError
next_field text =
    if slice_index text 0 == 112 then pc_field (drop 1 text)
    else (if slice_index text 0 == 101 then ended_of (drop 1 text)
    else (if slice_index text 0 == 115 then stopped_of (drop 1 text) else Err Misspelled))

-- a number of 1, 2 or 4 bytes, two digits for each of them: how many bytes, and the number
unfoldable pub sized_field : List ℕ → Result (ℕ × ℕ) FieldError
sized_field text =
    if (length text == 2 || length text == 4) || length text == 8 then (do
      datum ← hex_field (length text) text
      Ok (length text / 2, datum))
    else Err Misspelled

-- a write has both an address and a number, or neither
abbrev pub written_of : Option ℕ → Option (ℕ × ℕ) → Result (Option Written) FieldError
written_of None None = Ok None
written_of (Some addr) (Some number) =
    Ok (Some (record { addr = addr; n = number.0; datum = number.1 }))
written_of None (Some number) = Err Misspelled
written_of (Some addr) None = Err Misspelled

-- value next addr data out
unfoldable pub outcome_of : List ℕ → Result Outcome FieldError
outcome_of fields = do
  value ← optional_field (hex_field 8) (first_field fields)
  next ← next_field (first_field (others fields))
  addr ← optional_field (hex_field 8) (first_field (others (others fields)))
  datum ← optional_field (hex_field 8) (first_field (others (others (others fields))))
  out ← optional_field (hex_field 2) (others (others (others (others fields))))
  Ok (record { value = value; next = next; addr = addr; datum = datum; out = out })

-- value next waddr wdata out
unfoldable pub effect_of : List ℕ → Result Effect FieldError
effect_of fields = do
  value ← optional_field (hex_field 8) (first_field fields)
  next ← next_field (first_field (others fields))
  addr ← optional_field (hex_field 8) (first_field (others (others fields)))
  number ← optional_field sized_field (first_field (others (others (others fields))))
  write ← written_of addr number
  out ← optional_field (hex_field 2) (others (others (others (others fields))))
  Ok (record { value = value; next = next; write = write; out = out })

-- an event of each kind, from the fields behind its actor
unfoldable pub fetch_of : Ranges → ℕ → List ℕ → Result Event FieldError
fetch_of ranges actor fields = do
  hart ← decimal_field ranges.hart (first_field fields)
  seq ← decimal_field ranges.seq (first_field (others fields))
  pc ← hex_field 8 (first_field (others (others fields)))
  word ← optional_field (hex_field 8) (first_field (others (others (others fields))))
  predicted ← hex_field 8 (others (others (others (others fields))))
  Ok (Fetch actor hart seq pc word predicted)

unfoldable pub decode_of : Ranges → ℕ → List ℕ → Result Event FieldError
decode_of ranges actor fields = do
  seq ← decimal_field ranges.seq fields
  Ok (Decode actor seq)

unfoldable pub rename_of : Ranges → ℕ → List ℕ → Result Event FieldError
rename_of ranges actor fields = do
  seq ← decimal_field ranges.seq (first_field fields)
  phys ← optional_field (decimal_field ranges.phys) (others fields)
  Ok (Rename actor seq phys)

unfoldable pub issue_of : Ranges → ℕ → List ℕ → Result Event FieldError
issue_of ranges actor fields = do
  seq ← decimal_field ranges.seq fields
  Ok (Issue actor seq)

unfoldable pub complete_of : Ranges → ℕ → List ℕ → Result Event FieldError
complete_of ranges actor fields = do
  seq ← decimal_field ranges.seq (first_field fields)
  outcome ← outcome_of (others fields)
  Ok (Complete actor seq outcome)

unfoldable pub drop_of : Ranges → ℕ → List ℕ → Result Event FieldError
drop_of ranges actor fields = do
  seq ← decimal_field ranges.seq fields
  Ok (Drop actor seq)

unfoldable pub retire_of : Ranges → ℕ → List ℕ → Result Event FieldError
retire_of ranges actor fields = do
  seq ← decimal_field ranges.seq (first_field fields)
  effect ← effect_of (others fields)
  Ok (Retire actor seq effect)

unfoldable pub refetch_of : Ranges → ℕ → List ℕ → Result Event FieldError
refetch_of ranges actor fields = do
  seq ← decimal_field ranges.seq fields
  Ok (Refetch actor seq)

abbrev pub behind_actor : Ranges → EventKind → ℕ → List ℕ → Result Event FieldError
behind_actor ranges kind.Fetch actor fields = fetch_of ranges actor fields
behind_actor ranges kind.Decode actor fields = decode_of ranges actor fields
behind_actor ranges kind.Rename actor fields = rename_of ranges actor fields
behind_actor ranges kind.Issue actor fields = issue_of ranges actor fields
behind_actor ranges kind.Complete actor fields = complete_of ranges actor fields
behind_actor ranges kind.Drop actor fields = drop_of ranges actor fields
behind_actor ranges kind.Retire actor fields = retire_of ranges actor fields
behind_actor ranges kind.Refetch actor fields = refetch_of ranges actor fields

-- the fields after the letter of a kind
unfoldable pub event_fields : Ranges → EventKind → List ℕ → Result Event FieldError
event_fields ranges kind fields = do
  actor ← decimal_field ranges.actor (first_field fields)
  behind_actor ranges kind actor (others fields)

-- a version has events of this kind
abbrev pub has_kind : Ranges → EventKind → Bool
has_kind ranges kind.Refetch = ranges.refetches
has_kind ranges _ = true

abbrev pub kind_among : Ranges → Option EventKind → Option EventKind
kind_among ranges None = None
kind_among ranges (Some kind) = if has_kind ranges kind then Some kind else None

-- the kind that a field names: a letter alone, of a kind that the version has
abbrev pub kind_named : Ranges → List ℕ → Option EventKind
kind_named ranges text =
    if length text == 1 then kind_among ranges (kind_of_letter (slice_index text 0)) else None

-- a refused field breaks a rule of the line
abbrev pub of_fields : Result Event FieldError → Result Event Rule
of_fields (Ok event) = Ok event
of_fields (Err error) = Err (Field error)

-- the event of a kind, where there are as many fields as it has
abbrev pub event_as : Ranges → Option EventKind → List ℕ → Result Event Rule
event_as ranges None fields = Err FirstField
event_as ranges (Some kind) fields =
    if field_count 32 fields == fields_after kind then of_fields (event_fields ranges kind fields)
    else Err FieldCount

-- the event of a line without its newline, of a version of the format that has these ranges
unfoldable pub event_within : Ranges → List ℕ → Result Event Rule
event_within ranges line = event_as ranges (kind_named ranges (first_field line)) (others line)
