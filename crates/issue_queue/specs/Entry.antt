-- An instruction that waits for its operands or for a unit.
use Rattle.std.specs.Prelude.{ℕ, ◌==◌, ◌&&◌, Bool, true, false, map, if◌then◌else◌}
use Rattle.std.specs.List.{list_all}
use Rattle.rv_instr.specs.{declared.op.UnitKind.UnitKind, Registers.op_unit, Registers.same_unit}
use Rattle.issue_queue.specs.{declared.entry.Source.Source, declared.entry.Source.TheVariants.Value}
use Rattle.issue_queue.specs.{declared.entry.Source.TheVariants.Waits, declared.entry.Entry.Entry}

-- the operand is known
abbrev pub is_value : Source → Bool
is_value (Value value) = true
is_value (Waits register) = false

-- the operand once a physical register has this value
abbrev pub woken_source : ℕ → ℕ → Source → Source
woken_source register value (Value known) = Value known
woken_source register value (Waits waited) =
    if waited == register then Value value else Waits waited

-- the entry, both its operands, once a physical register has this value
abbrev pub woken_entry : ℕ → ℕ → Entry → Entry
woken_entry register value e = record e { sources = map (woken_source register value) e.sources }

-- both operands are known
abbrev pub has_values : Entry → Bool
has_values e = list_all is_value e.sources

-- a unit of this kind may take the entry up
abbrev pub can_issue : UnitKind → Entry → Bool
can_issue kind e = same_unit kind (op_unit e.op) && has_values e
