-- What an instruction finds in a core, as it is renamed: before its own register enters the map.
use Rattle.std.specs.Prelude.{◌≡◌, ◌≢◌, ℕ, ◌<◌, ◌≤◌, ◌==◌, length, set, if◌then◌else◌, List, Option, Some, None, slice_index_or}
use Rattle.rv_instr.specs.declared.op.Op.{Op}
use Rattle.events.specs.declared.event.Event.{Event}
use Rattle.smt_model.specs.{Basics.first, Flights.in_rename, Setup.Setup, Setup.registers_of}
use Rattle.smt_model.specs.Fates.{Fetched, fetching, op_of_fetched}
use Rattle.smt_model.specs.Registers.{holder, mapped}
use Rattle.core_state.specs.View.{CoreView}
use Rattle.chart_registers.specs.declared.registers.Source.{Source}

-- At each physical register's place stands the instruction that was given it last.
abbrev pub AreHolders : List Event → List (Option ℕ) → Type 0
AreHolders past holders = (p : ℕ) → slice_index_or holders p None ≡ holder past p

-- They have a place for each physical register of a core.
abbrev pub HasRoom : Setup → List (Option ℕ) → Type 0
HasRoom setup holders = registers_of setup ≤ length holders

-- They, once instruction s was given a register, or none.
abbrev pub holders_with : Option ℕ → ℕ → List (Option ℕ) → List (Option ℕ)
holders_with None s holders = holders
holders_with (Some p) s holders = set holders p (Some s)

-- What the map has for a register, and who holds that.
abbrev pub held_source : List Event → ℕ → ℕ → Option Source
held_source past h r =
    if r == 0 then None
    else Some (record { register = r; physical = mapped past h r; by = holder past (mapped past h r) })

abbrev pub other_source : List Event → ℕ → ℕ → ℕ → Option Source
other_source past h first second = if first == second then None else held_source past h second

-- Instruction s is the oldest decoded one of hart h, and has this operation.
pub record IsDecoded (core : CoreView) (s h : ℕ) (op : Op) : Type 0 where
  pub inside : h < core.setup.harts
  pub oldest : first (in_rename core.past h) ≡ Some s
  pub instruction : Fetched
  pub fetched : fetching core.past s ≡ Some instruction
  pub hart : instruction.hart ≡ h
  pub is : op ≡ op_of_fetched (Some instruction)

-- It is the oldest decoded one of none.
abbrev pub NoneIsDecoded : CoreView → ℕ → Type 0
NoneIsDecoded core s = (h : ℕ) → h < core.setup.harts → first (in_rename core.past h) ≢ Some s
