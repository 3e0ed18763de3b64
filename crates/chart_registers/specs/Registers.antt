-- The registers of an instruction, as it was renamed. (This project's own choice.)
use Rattle.std.specs.Prelude.{◌≡◌, ℕ, ◌<◌, ◌==◌, if◌then◌else◌, List, [], ◌∷◌, length, Option, Some, None, slice_index_or}
use Rattle.rv_instr.specs.declared.op.Op.{Op}
use Rattle.events.specs.declared.event.Event.{Event}
use Rattle.events.specs.declared.event.Event.TheVariants.{Rename}
use Rattle.smt_model.specs.Kinds.{destination, first_source, second_source}
use Rattle.smt_model.specs.Fates.{Fetched, fetches, fetching, op_of_fetched}
use Rattle.smt_model.specs.Registers.{source, source_register}
use Rattle.chart_registers.specs.declared.registers.{Destination.Destination, Registers.Registers, Source.Source}

-- The physical register that it was given for its destination, where it was given one.
abbrev pub destination_by : Op → Option ℕ → Option Destination
destination_by op None = None
destination_by op (Some physical) = Some (record { register = destination op; physical = physical })

-- What instruction s of hart h finds for its source r: the physical register, and the youngest older writer that is in
-- flight or has retired without ending or stopping. x0 is none.
abbrev pub source_by : List Event → ℕ → ℕ → ℕ → Option Source
source_by past h s r =
    if r == 0 then None
    else Some (record { register = r; physical = source_register past h r s; by = source past h r s })

-- The second source, where it is another than the first.
abbrev pub second_by : List Event → ℕ → ℕ → ℕ → ℕ → Option Source
second_by past h s first second = if first == second then None else source_by past h s second

abbrev pub registers_by : List Event → ℕ → Option ℕ → Option Fetched → Registers
registers_by past s given None = record { destination = None; sources = None ∷ None ∷ [] }
registers_by past s given (Some f) =
    let op = op_of_fetched (Some f) in
    record {
      destination = destination_by op given;
      sources = source_by past f.hart s (first_source op)
          ∷ second_by past f.hart s (first_source op) (second_source op) ∷ [];
    }

-- What instruction s has found behind the event that renamed it.
unfoldable pub found_by : List Event → ℕ → ℕ → Option ℕ → Registers
found_by past actor s given =
    let now = Rename actor s given ∷ past in
    registers_by now s given (fetching now s)

-- The registers of instruction s: those that it found as it was renamed.
abbrev pub registers : List Event → ℕ → Option Registers
registers [] s = None
registers (Rename actor seq phys ∷ past) s =
    if seq == s then Some (found_by past actor seq phys) else registers past s
registers (_ ∷ past) s = registers past s

-- The registers of all instructions that were fetched, by rising number.
pub record AreRegisters (past : List Event) (table : List (Option Registers)) : Type 0 where
  pub count : length table ≡ fetches past
  pub each : (s : ℕ) (d : Option Registers) → s < length table → slice_index_or table s d ≡ registers past s
