-- The numbers behind an event of a history: how full the parts of a core are. (This project's own choice.)
use Rattle.std.specs.Prelude.{◌≡◌, ℕ, ◌+◌, ◌-◌, ◌<◌, min, nat_lt, if◌then◌else◌, List, length, reverse, take}
use Rattle.std.specs.Prelude.{Option, Some, None, slice_index_or}
use Rattle.numbers.specs.Sizes.{most_harts, most_registers}
use Rattle.rv_instr.specs.{declared.op.UnitKind.UnitKind, Registers.op_unit, Registers.same_unit}
use Rattle.rv_instr.specs.declared.op.UnitKind.TheVariants.{Alu, Mul, Mem}
use Rattle.events.specs.declared.event.Event.{Event}
use Rattle.events.specs.declared.event.Event.TheVariants.{Fetch}
use Rattle.smt_model.specs.{Basics.below, Basics.how_many, Fates.op_at, Picture.is_free, Setup.Setup}
use Rattle.smt_model.specs.Flights.{flight, icount, queue}
use Rattle.chart_counters.specs.declared.counters.{Counters.Counters, Waiting.Waiting}

-- A number of hart h: 0 where the core hasn't so many.
abbrev pub of_hart : ℕ → (ℕ → ℕ) → ℕ → ℕ
of_hart harts number h = if nat_lt h harts then number h else 0

-- There is a number for each hart that a core may have.
pub record AreByHart (harts : ℕ) (number : ℕ → ℕ) (counts : List ℕ) : Type 0 where
  pub count : length counts ≡ most_harts
  pub each : (h d : ℕ) → h < most_harts → slice_index_or counts h d ≡ of_hart harts number h

-- The hart that an event fetches.
abbrev pub fetched_hart : Event → Option ℕ
fetched_hart (Fetch actor hart seq pc word predicted) = Some hart
fetched_hart _ = None

-- How many instructions wait in the queue that a kind of unit executes.
abbrev pub waiting_for : UnitKind → List Event → ℕ
waiting_for kind past = how_many (λ s. same_unit kind (op_unit (op_at past s))) (queue past)

abbrev pub waiting : List Event → Waiting
waiting past = record {
  alu = waiting_for Alu past;
  mul = waiting_for Mul past;
  mem = waiting_for Mem past;
}

-- How many physical registers are free.
abbrev pub free_count : Setup → List Event → ℕ
free_count setup past = how_many (is_free setup past) (below most_registers)

-- The numbers of a history whose last event is this one.
pub record AreCounters (setup : Setup) (past : List Event) (last : Event) (counters : Counters) : Type 0 where
  pub icount : AreByHart setup.harts (icount past) counters.icount
  pub chosen : counters.chosen ≡ fetched_hart last
  pub queue : counters.queue ≡ waiting past
  pub in_flight : AreByHart setup.harts (λ h. length (flight past h)) counters.in_flight
  pub free : counters.free ≡ free_count setup past

-- The history of the first n of some events, which have the oldest first.
abbrev pub past_at : List Event → ℕ → List Event
past_at events n = reverse (take n events)

-- There are the numbers behind each event from one place to another, as far as there are so many.
pub record AreCountersBetween (setup : Setup) (events : List Event) (from to : ℕ) (all : List Counters) : Type 0 where
  pub count : length all ≡ min (length events) (to + 1) - from
  pub each : (k : ℕ) (d : Counters) (e : Event) → k < length all
      → AreCounters setup (past_at events (from + k + 1)) (slice_index_or events (from + k) e) (slice_index_or all k d)
