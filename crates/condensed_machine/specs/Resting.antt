-- Which registers of a hart are kept, and whether its reservation is.
use Rattle.std.specs.Prelude.{◌≡◌, ℕ, ◌<◌, Bool, false, ◌&&◌, ◌||◌, if◌then◌else◌, List, slice_index}
use Rattle.std.specs.List.{slice_index_or}
use Rattle.smt_model.specs.Plain.{is_going_status}
use Rattle.live_registers.specs.Table.{live_of}
use Rattle.live_registers.specs.declared.table.LiveTable.{LiveTable}
use Rattle.sc_machine.specs.declared.hart.Hart.{Hart}
use Rattle.condensed_machine.specs.Machine.{Program, keeps_at}

-- Register r is watched.
abbrev pub is_watched : List Bool → ℕ → Bool
is_watched watched r = slice_index_or watched r false

-- Register r of a hart at this pc, which goes or is over, is watched, or the hart may read it yet.
abbrev pub is_kept : LiveTable → List Bool → ℕ → Bool → ℕ → Bool
is_kept live watched pc going r = is_watched watched r || (going && live_of live pc r)

-- The hart goes, and a reservation that it has is kept at its pc.
abbrev pub keeps_reservation : Program → Hart → Bool
keeps_reservation p x = is_going_status x.status && keeps_at p x.pc

-- The hart y is x with 0 in each register that isn't kept; x0 is as it was.
pub record IsRested (live : LiveTable) (watched : List Bool) (x y : Hart) : Type 0 where
  pub pc : y.pc ≡ x.pc
  pub status : y.status ≡ x.status
  pub zero : slice_index y.registers 0 ≡ slice_index x.registers 0
  pub registers : (r : ℕ) → 0 < r → r < 32 → slice_index y.registers r
      ≡ (if is_kept live watched x.pc (is_going_status x.status) r then slice_index x.registers r else 0)
