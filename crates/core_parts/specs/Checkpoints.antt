-- The checkpoints of each hart: of which instructions its maps are kept, and what these are.
use Rattle.std.specs.Prelude.{◌≡◌, ℕ, ◌<◌, ◌==◌, ◌&&◌, Bool, true, false, not, List, length}
use Rattle.std.specs.Prelude.{slice_index_or}
use Rattle.std.specs.List.{AllByRecursion, list_any}
use Rattle.rv_instr.specs.{declared.op.Op.Op, declared.op.Op.TheVariants.Known}
use Rattle.rv_instr.specs.declared.instr.Instr.TheVariants.{Jal, Jalr, Branch}
use Rattle.rename_map.specs.Maps.{Maps, Checkpoint, kept_of, committed_of}
use Rattle.retire_squash.specs.{declared.active.Active.Active, declared.active.Stage.Stage}
use Rattle.retire_squash.specs.declared.active.Stage.TheVariants as stage
use Rattle.core_parts.specs.Squash.{older, mapped_by}
use Rattle.core_parts.specs.declared.hart.HartState.{HartState}

-- A branch, JAL or JALR (RISC-V Unprivileged ISA, "Control Transfer Instructions").
unfoldable pub is_control_transfer : Op → Bool
is_control_transfer (Known (Jal rd offset)) = true
is_control_transfer (Known (Jalr rd rs1 offset)) = true
is_control_transfer (Known (Branch op rs1 rs2 offset)) = true
is_control_transfer _ = false

abbrev pub is_completed : Stage → Bool
is_completed stage.Renamed = false
is_completed stage.Issued = false
is_completed (stage.Completed outcome) = true

-- It is number n, a branch, JAL or JALR that isn't completed.
abbrev pub is_open_transfer : ℕ → Active → Bool
is_open_transfer n a = (a.seq == n) && (is_control_transfer a.op && not (is_completed a.stage))

-- A map that is kept of a hart with this active list and these maps.
pub record IsCheckpoint (xs : List Active) (m : Maps) (k : Checkpoint) : Type 0 where
  -- the value: it is the map that the hart had after that instruction, which the committed one and
  -- the instructions in flight up to it make
  pub value : (r : ℕ) → 0 < r → r < 32
      → kept_of k r ≡ mapped_by r (older k.seq xs) (committed_of m r)
  -- which are kept: it is of a branch, JAL or JALR of that hart, in flight, that isn't completed
  pub which : list_any (is_open_transfer k.seq) xs ≡ true

abbrev pub AreCheckpoints : List Active → Maps → Type 0
AreCheckpoints xs m = AllByRecursion (IsCheckpoint xs m) m.kept

abbrev pub HasCheckpoints : HartState → Type 0
HasCheckpoints x = AreCheckpoints x.active x.maps

abbrev pub CheckpointsAgree : List HartState → Type 0
CheckpointsAgree harts =
    (h : ℕ) (d : HartState) → h < length harts → HasCheckpoints (slice_index_or harts h d)
