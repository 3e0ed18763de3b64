-- Why an event squashes the younger instructions of its hart: a completion finds that the hart goes on elsewhere than was
-- predicted, a retirement is of a load with another number now, or the last of its hart, or an instruction is fetched
-- again. [Tullsen and others, ISCA 1996; for replays Cain and Lipasti, ISCA 2004] Of an event that squashes none nothing
-- is asked.
use Rattle.std.specs.Prelude.{ℕ, List, Option, None, Some}
use Rattle.events.specs.{declared.event.Event.Event, Event.seq_of, declared.effect.Next.Next}
use Rattle.events.specs.declared.event.Event.TheVariants.{Complete, Retire}
use Rattle.events.specs.declared.effect.Next.TheVariants as next
use Rattle.smt_model.specs.Fates.{Fetched, fetching}
use Rattle.chart_rows.specs.declared.cause.Cause.{Cause}
use Rattle.chart_rows.specs.declared.cause.Cause.TheVariants.{Mispredicted, Replayed, Ended, Stopped, Refetched}

-- Where a hart goes on.
abbrev pub goes_to : Next → ℕ
goes_to (next.Pc pc) = pc
goes_to _ = 0

abbrev pub at_retirement : Next → Cause
at_retirement (next.Pc pc) = Replayed
at_retirement (next.Ended number) = Ended
at_retirement (next.Stopped reason) = Stopped

-- The cause, where this pc was predicted to follow the instruction which the event is of.
abbrev pub cause_as : Event → ℕ → Cause
cause_as (Complete actor seq outcome) predicted = Mispredicted (goes_to outcome.next) predicted
cause_as (Retire actor seq effect) predicted = at_retirement effect.next
cause_as _ predicted = Refetched

-- The cause by the history before the event.
abbrev pub predicted_of : Option Fetched → ℕ
predicted_of None = 0
predicted_of (Some f) = f.predicted

abbrev pub cause : Event → List Event → Cause
cause e past = cause_as e (predicted_of (fetching past (seq_of e)))
