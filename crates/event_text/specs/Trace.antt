-- The text of a trace: the lines that name its version and its core, and a line for each event. What a text that is
-- none is refused for. (This project's own choice.)

use Rattle.std.specs.Prelude.{◌≡◌, ◌≢◌, ℕ, ◌+◌, ◌==◌, ◌⊎◌, List, [], ◌++◌, length, flat_map, All}
use Rattle.std.specs.Prelude.{MatchBool, IsErrAnd}
use Rattle.text_fields.specs.Splitting.{field, field_count}
use Rattle.events.specs.{declared.event.Event.Event}
use Rattle.event_text.specs.{declared.head.TraceHead.TraceHead, declared.ranges.Ranges.Ranges}
use Rattle.event_text.specs.{declared.head.LaterVersion.LaterVersion}
use Rattle.event_text.specs.declared.head.TraceHead.TheVariants.{First, Later}
use Rattle.event_text.specs.Core.{AreCoreSizes}
use Rattle.event_text.specs.Heads.{config_of, ended, first_header, head_count}
use Rattle.event_text.specs.Heads.{head_lines, later_header}
use Rattle.event_text.specs.{Line.line_of, Ranges.IsEventWithin, Ranges.ranges_of}
use Rattle.event_text.specs.Reading.{event_within, rule_number}

-- the lines of events
unfoldable pub event_lines : List Event → List ℕ
event_lines events = flat_map (λ event. ended (line_of event)) events

-- how it begins, and the lines of the events
unfoldable pub trace_text : TraceHead → List Event → List ℕ
trace_text head events = head_lines head ++ event_lines events

-- a trace may begin so: what it says of its core are sizes of one
abbrev pub IsHead : TraceHead → Type 0
IsHead First = Unit {0}
IsHead (Later version sizes) = AreCoreSizes sizes

-- the events are within the ranges of the version
abbrev pub AreWithin : TraceHead → List Event → Type 0
AreWithin head events = All (IsEventWithin (ranges_of head)) events

-- The first line of a text breaks a rule: 2 where no newline ends it, else one of its own.
unfoldable pub Breaks : (List ℕ → ℕ → Type 0) → List ℕ → ℕ → Type 0
Breaks OwnRule text rule =
    MatchBool (field_count 10 text == 1) (rule ≡ 2) (OwnRule (field 10 text) rule)

-- the rule of the first line: it names a version
abbrev pub BreaksHeader : List ℕ → ℕ → Type 0
BreaksHeader line rule =
    (line ≢ first_header) × ((version : LaterVersion) → line ≢ later_header version) × (rule ≡ 1)

-- the rules of the second line of a later version: it says of what core the trace is
abbrev pub BreaksConfig : List ℕ → ℕ → Type 0
BreaksConfig line rule = IsErrAnd (config_of line) (λ broken. rule ≡ rule_number broken)

-- the rules of the others: a line is that of an event
abbrev pub BreaksEvent : Ranges → List ℕ → ℕ → Type 0
BreaksEvent ranges line rule = IsErrAnd (event_within ranges line) (λ broken. rule ≡ rule_number broken)

-- Behind the line that names a later version stands no line of a core.
pub record IsRefusedAsConfig (text : List ℕ) (rule : ℕ) : Type 0 where
  pub version : LaterVersion
  pub behind : List ℕ
  pub parts : text ≡ ended (later_header version) ++ behind
  pub breaks : Breaks BreaksConfig behind rule

-- Behind the lines of some events stands another line, which breaks a rule.
pub record IsRefusedBehind (text : List ℕ) (line rule : ℕ) : Type 0 where
  pub head : TraceHead
  pub events : List Event
  pub behind : List ℕ
  pub is_head : IsHead head
  pub in_range : AreWithin head events
  pub parts : text ≡ trace_text head events ++ behind
  pub more : behind ≢ []
  pub place : line ≡ length events + head_count head + 1
  pub breaks : Breaks (BreaksEvent (ranges_of head)) behind rule

-- The line, counted from 1, is the first that breaks a rule, and the rule is the first that it
-- breaks.
abbrev pub IsRefusedAt : List ℕ → ℕ → ℕ → Type 0
IsRefusedAt text line rule =
    ((line ≡ 1) × Breaks BreaksHeader text rule) ⊎ (((line ≡ 2) × IsRefusedAsConfig text rule)
    ⊎ IsRefusedBehind text line rule)
