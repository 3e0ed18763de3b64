-- When a text is refused as a trace, and what is answered for a text that is one.

use Rattle.std.specs.Prelude.{◌≡◌, ℕ, Bool, List, is_some, unwrap_or, Result, MatchResult}
use Rattle.text_fields.specs.Splitting.{field}
use Rattle.events.specs.{declared.event.Event.Event}
use Rattle.event_text.specs.{declared.head.TraceHead.TraceHead}
use Rattle.event_text.specs.{declared.head.LaterVersion.LaterVersion}
use Rattle.event_text.specs.declared.head.LaterVersion.TheVariants.{Third}
use Rattle.event_text.specs.declared.head.TraceHead.TheVariants.{First, Later}
use Rattle.event_text.specs.{declared.trace.reading.TraceRefused.TraceRefused}
use Rattle.event_text.specs.{declared.trace.reading.TraceRefused.TheVariants.Line}
use Rattle.event_text.specs.{declared.trace.reading.TraceRefused.TheVariants.Memory}
use Rattle.event_text.specs.{declared.trace.migrating.MigrateRefused.MigrateRefused}
use Rattle.event_text.specs.declared.trace.migrating.MigrateRefused.TheVariants as migrate
use Rattle.event_text.specs.{Contents.TraceContent, Core.CoreSizes}
use Rattle.event_text.specs.{Heads.later_header, Heads.told_core}
use Rattle.event_text.specs.Trace.{AreWithin, IsHead, IsRefusedAt, trace_text}

-- a line is refused as the format says; want of memory may come at any text
abbrev pub IsRefusedFor : List ℕ → TraceRefused → Type 0
IsRefusedFor text (Line line rule) = IsRefusedAt text line rule
IsRefusedFor text Memory = Unit {0}

-- the answer is this trace, or there was no memory for it
abbrev pub Gives : TraceHead → List Event → Result TraceContent TraceRefused → Type 0
Gives head events result =
    MatchResult result (λ read. (read.head ≡ head) × (read.events ≡ events)) (λ refused. refused ≡ Memory)

-- the text names version 3 in its first line, whether or not a newline ends it
abbrev pub IsNewest : List ℕ → Type 0
IsNewest text = field 10 text ≡ later_header Third

-- the first line of the text names a version whose traces say of what core they are, whether or not a newline ends it
abbrev pub NamesCore : List ℕ → Type 0
NamesCore text = (version : LaterVersion) × (field 10 text ≡ later_header version)

-- it is a trace, which says of its core or not
pub record IsTelling (text : List ℕ) (told : Bool) : Type 0 where
  pub head : TraceHead
  pub events : List Event
  pub is_head : IsHead head
  pub in_range : AreWithin head events
  pub is_text : text ≡ trace_text head events
  pub tells : is_some (told_core head) ≡ told

-- A trace and this text have the same events, in their order; this one is of version 3, and of the
-- core that the other says, or where it says none, of the one that is given.
pub record IsMigrated (old : List ℕ) (given : CoreSizes) (new : List ℕ) : Type 0 where
  pub head : TraceHead
  pub events : List Event
  pub is_head : IsHead head
  pub in_range : AreWithin head events
  pub was : old ≡ trace_text head events
  pub is : new ≡ trace_text (Later Third (unwrap_or (told_core head) given)) events

-- When a text isn't migrated: it has version 3 already, which is looked at first; or it is no
-- trace.
abbrev pub IsUnmigrated : List ℕ → MigrateRefused → Type 0
IsUnmigrated text migrate.Version = IsNewest text
IsUnmigrated text (migrate.Line line rule) = (IsNewest text → ⊥) × IsRefusedAt text line rule
IsUnmigrated text migrate.Memory = IsNewest text → ⊥
