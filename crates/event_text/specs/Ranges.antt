-- The greatest number of an actor, of a hart, of an instruction and of a register in each version
-- of a trace, whether it has lines of refetches, and the events that are within that. (This
-- project's own choice.)

use Rattle.std.specs.Prelude.{◌≡◌, ℕ, ◌≤◌, Bool, true, false, IfSome}
use Rattle.events.specs.{declared.event.Event.Event, Range.IsEffect, Range.IsOutcome, Range.IsWord}
use Rattle.events.specs.declared.event.Event.TheVariants.{Fetch, Decode, Rename, Issue, Complete}
use Rattle.events.specs.declared.event.Event.TheVariants.{Drop, Retire, Refetch}
use Rattle.event_text.specs.{declared.ranges.Ranges.Ranges, declared.head.TraceHead.TraceHead}
use Rattle.event_text.specs.declared.head.LaterVersion.TheVariants.{Second, Third}
use Rattle.event_text.specs.declared.head.TraceHead.TheVariants.{First, Later}

-- of version 1, for ever: 16 actors, 8 harts, 16,777,216 instructions and 504 registers
abbrev pub first_ranges : Ranges
first_ranges = record { actor = 15; hart = 7; seq = 16777215; phys = 503; refetches = false }

-- of versions 2 and 3, for ever: 32 actors, 16 harts, as many instructions, and 1024 registers
abbrev pub later_ranges : Bool → Ranges
later_ranges refetches = record { actor = 31; hart = 15; seq = 16777215; phys = 1023; refetches = refetches }

abbrev pub ranges_of : TraceHead → Ranges
ranges_of First = first_ranges
ranges_of (Later Second sizes) = later_ranges false
ranges_of (Later Third sizes) = later_ranges true

-- an actor, and an instruction's number
abbrev pub HasActorAndNumber : Ranges → ℕ → ℕ → Type 0
HasActorAndNumber ranges actor seq = (actor ≤ ranges.actor) × (seq ≤ ranges.seq)

-- the fields of an event are within these ranges, which have events of its kind
abbrev pub IsEventWithin : Ranges → Event → Type 0
IsEventWithin ranges (Fetch actor hart seq pc word predicted) =
    HasActorAndNumber ranges actor seq × (hart ≤ ranges.hart) × IsWord pc × IfSome word IsWord × IsWord predicted
IsEventWithin ranges (Decode actor seq) = HasActorAndNumber ranges actor seq
IsEventWithin ranges (Rename actor seq phys) =
    HasActorAndNumber ranges actor seq × IfSome phys (λ p. p ≤ ranges.phys)
IsEventWithin ranges (Issue actor seq) = HasActorAndNumber ranges actor seq
IsEventWithin ranges (Complete actor seq outcome) = HasActorAndNumber ranges actor seq × IsOutcome outcome
IsEventWithin ranges (Drop actor seq) = HasActorAndNumber ranges actor seq
IsEventWithin ranges (Retire actor seq effect) = HasActorAndNumber ranges actor seq × IsEffect effect
IsEventWithin ranges (Refetch actor seq) = HasActorAndNumber ranges actor seq × (ranges.refetches ≡ true)
