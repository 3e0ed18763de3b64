-- Which store a load looks again for: the last write, between the load's completion and its retirement, that shares a
-- byte with what it loads. A load that no such write touched has no need of a second look. [Cain and Lipasti, ISCA 2004,
-- section 3]
use Rattle.std.specs.Prelude.{◌≡◌, ℕ, ◌<◌, Bool, true, false, ◌&&◌, List, Option, None, Some, option_and_then, slice_get}
use Rattle.events.specs.declared.event.Event.{Event}
use Rattle.events.specs.declared.event.Event.TheVariants.{Complete, Retire}
use Rattle.rv_instr.specs.declared.op.Op.{Op}
use Rattle.smt_model.specs.{Words.op_of_word, Kinds.kind_of, Kinds.is_loading, Touched.touches_access, Basics.holds_of}
use Rattle.chart_rows.specs.declared.row.Row.{Row}

-- The address of which a completion tells; and what the row's instruction accesses, as the event says at which it
-- completed.
abbrev pub address_in : Event → Option ℕ
address_in (Complete actor seq outcome) = outcome.addr
address_in _ = None

abbrev pub address_of : List Event → Option ℕ → Option ℕ
address_of events completed = option_and_then address_in (option_and_then (slice_get events) completed)

-- The event's write shares a byte with the access of an instruction that loads.
abbrev pub writes_into : Op → Option ℕ → Event → Bool
writes_into op address (Retire actor seq effect) = is_loading (kind_of op) && touches_access effect.write op address
writes_into op address _ = false

abbrev pub writes_at : List Event → Op → Option ℕ → ℕ → Bool
writes_at events op address place = holds_of (writes_into op address) (slice_get events place)

-- It is the last such event between two places.
pub record IsLastWrite (events : List Event) (op : Op) (address : Option ℕ) (from to place : ℕ) : Type 0 where
  pub behind : from < place
  pub before : place < to
  pub writes : writes_at events op address place ≡ true
  pub last : (later : ℕ) → place < later → later < to → writes_at events op address later ≡ false

-- None between two places is one.
abbrev pub HasNoWrite : List Event → Op → Option ℕ → ℕ → ℕ → Type 0
HasNoWrite events op address from to =
    (place : ℕ) → from < place → place < to → writes_at events op address place ≡ false

-- The store that wrote last between the completion of the row's load and its retirement stands at this place.
pub record IsStoreBetween (events : List Event) (row : Row) (place : ℕ) : Type 0 where
  pub from : ℕ
  pub to : ℕ
  pub completed : row.completed ≡ Some from
  pub retired : row.retired ≡ Some to
  pub is : IsLastWrite events (op_of_word row.word) (address_of events row.completed) from to place

-- No write came between them.
abbrev pub IsUntouched : List Event → Row → Type 0
IsUntouched events row = (from to : ℕ) → row.completed ≡ Some from → row.retired ≡ Some to
    → HasNoWrite events (op_of_word row.word) (address_of events row.completed) from to
