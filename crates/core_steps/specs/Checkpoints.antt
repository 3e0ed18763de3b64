-- What the steps make of the maps that are kept of a hart, and a hart's map that is restored.
use Rattle.std.specs.Prelude.{◌≡◌, ℕ, ◌==◌, ◌&&◌, Bool, true, false, nat_lt, List, length}
use Rattle.std.specs.Prelude.{if◌then◌else◌}
use Rattle.rv_instr.specs.{declared.op.Op.Op}
use Rattle.rename_map.specs.Maps.{Checkpoint, KeepsToo, most_checkpoints, released}
use Rattle.smt_model.specs.{Picture.Picture, Steps.youngest, Steps.up_to}
use Rattle.core_parts.specs.Checkpoints.{is_control_transfer}

-- The map of now is kept too, where this is so.
abbrev pub KeepsWhere : Bool → Checkpoint → List Checkpoint → List Checkpoint → Type 0
KeepsWhere true k old new = KeepsToo k old new
KeepsWhere false k old new = new ≡ old

-- A renamed instruction's map is kept where it is a branch, JAL or JALR and there is room.
abbrev pub is_kept : Op → List Checkpoint → Bool
is_kept op kept = is_control_transfer op && nat_lt (length kept) most_checkpoints

-- A completed instruction's map is released; none but a branch, JAL or JALR has one.
abbrev pub released_by : Op → ℕ → List Checkpoint → List Checkpoint
released_by op seq kept = if is_control_transfer op then released seq kept else kept

-- ---- A hart's map that is restored before its younger instructions are squashed

-- The picture with this map of hart h; or as it is. And the map that a squash behind number n makes.
abbrev pub with_map : (ℕ → ℕ) → Picture → ℕ → Picture
with_map map p h = record p { mapped = λ g r. if g == h then map r else p.mapped g r }

abbrev pub with_map_if : Bool → (ℕ → ℕ) → Picture → ℕ → Picture
with_map_if true map p h = with_map map p h
with_map_if false map p h = p

abbrev pub map_behind : Picture → ℕ → ℕ → ℕ → ℕ
map_behind p h n r = youngest p r (up_to n (p.flight h)) (p.committed h r)
