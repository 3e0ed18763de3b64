-- No two states that a machine tells apart are alike.
use Rattle.std.specs.Prelude.{◌≡◌, ℕ, ◌<◌, Bool, false, List, length, Some, slice_get, slice_index}
use Rattle.elf_image.specs.Image.{ProgramImage}
use Rattle.smt_model.specs.Plain.{is_going_status}
use Rattle.outcome_laws.specs.Live.{AreAlike}
use Rattle.live_registers.specs.declared.table.LiveTable.{LiveTable}
use Rattle.sc_machine.specs.declared.hart.Hart.{Hart}
use Rattle.changed_memory.specs.{Canonical.IsCanonical, Shared.Shared}
use Rattle.condensed_machine.specs.{Machine.Machine, Machine.tables_of, Resting.is_watched, Resting.is_kept}
use Rattle.condensed_machine.specs.{Decoded.Knows, Decoded.state_of, declared.state.State.State}

-- Known states that are alike have the same numbers: so each number stands for states of the definitions' machine for
-- which no other one does.
abbrev pub AreDistinct : Machine → Type 0
AreDistinct m = (s t : State) → Knows m s → Knows m t
    → AreAlike (is_watched m.program.watched) (tables_of m.program) (state_of m s) (state_of m t) → s ≡ t

-- Each hart has its 32 registers.
abbrev pub HaveRegisters : List Hart → Type 0
HaveRegisters xs = (n : ℕ) (x : Hart) → slice_get xs n ≡ Some x → length x.registers ≡ 32

-- The hart has 0 in each register that isn't kept; and so it is of each.
abbrev pub IsAtRest : LiveTable → List Bool → Hart → Type 0
IsAtRest live watched x = (r : ℕ) → 0 < r → r < 32 → is_kept live watched x.pc (is_going_status x.status) r ≡ false
    → slice_index x.registers r ≡ 0

abbrev pub AreAtRest : LiveTable → List Bool → List Hart → Type 0
AreAtRest live watched xs = (n : ℕ) (x : Hart) → slice_get xs n ≡ Some x → IsAtRest live watched x

-- In shared parts the changes of memory are kept in their one form.
abbrev pub HaveOneForm : ProgramImage → List Shared → Type 0
HaveOneForm image xs = (n : ℕ) (x : Shared) → slice_get xs n ≡ Some x → IsCanonical image x
