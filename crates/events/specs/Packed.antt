-- The event that a packed one gives back: a tag says whether the number beside it is there.

use Rattle.std.specs.Prelude.{ℕ, Bool, true, false, Option, None, Some}
use Rattle.events.specs.{declared.effect.Effect.Effect, declared.effect.Next.Next}
use Rattle.events.specs.{declared.effect.Next.TheVariants.Pc}
use Rattle.events.specs.{declared.effect.Next.TheVariants.Ended}
use Rattle.events.specs.{declared.effect.Next.TheVariants.Stopped}
use Rattle.events.specs.{declared.effect.Outcome.Outcome, declared.effect.Written.Written}
use Rattle.events.specs.{declared.event.Event.Event}
use Rattle.events.specs.declared.event.Event.TheVariants as event
use Rattle.events.specs.{declared.history.packed.Packed.Packed}
use Rattle.events.specs.declared.history.packed.Packed.TheVariants.{Fetch, Decode, Rename, Issue}
use Rattle.events.specs.declared.history.packed.Packed.TheVariants.{Complete, Drop, Retire, Refetch}
use Rattle.events.specs.{declared.history.packed.PackedEffect.PackedEffect}
use Rattle.events.specs.{declared.history.packed.PackedOutcome.PackedOutcome}
use Rattle.events.specs.{declared.history.packed.NextKind.NextKind}
use Rattle.events.specs.declared.history.packed.NextKind.TheVariants as kind

-- a number, if it is there
abbrev pub number_in : Bool → ℕ → Option ℕ
number_in true n = Some n
number_in false n = None

-- what comes next
abbrev pub next_in : NextKind → ℕ → Next
next_in kind.Pc n = Pc n
next_in kind.Ended n = Ended n
next_in (kind.Stopped cause) n = Stopped cause

-- a write of so many bytes, if there is one
abbrev pub write_in : Option ℕ → ℕ → ℕ → Option Written
write_in (Some n) addr datum = Some (record { addr = addr; n = n; datum = datum })
write_in None addr datum = None

abbrev pub outcome_in : PackedOutcome → Outcome
outcome_in o = record {
  value = number_in o.has_value o.value;
  next = next_in o.next_kind o.next;
  addr = number_in o.has_addr o.addr;
  datum = number_in o.has_datum o.datum;
  out = o.out;
}

abbrev pub effect_in : PackedEffect → Effect
effect_in e = record {
  value = number_in e.has_value e.value;
  next = next_in e.next_kind e.next;
  write = write_in e.n e.addr e.datum;
  out = e.out;
}

abbrev pub event_in : Packed → Event
event_in (Fetch actor hart seq pc word predicted) = event.Fetch actor hart seq pc word predicted
event_in (Decode actor seq) = event.Decode actor seq
event_in (Rename actor seq phys) = event.Rename actor seq phys
event_in (Issue actor seq) = event.Issue actor seq
event_in (Complete actor seq outcome) = event.Complete actor seq (outcome_in outcome)
event_in (Drop actor seq) = event.Drop actor seq
event_in (Retire actor seq effect) = event.Retire actor seq (effect_in effect)
event_in (Refetch actor seq) = event.Refetch actor seq
