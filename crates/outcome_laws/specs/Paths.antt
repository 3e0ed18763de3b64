-- Paths of the plain machine: the state that an order of harts leads to, without its records. [Lamport
-- 1979: an execution is one order of all steps, those of each processor in its program's order]
use Rattle.std.specs.Prelude.{◌≡◌, ℕ, Bool, false, ◌&&◌, nat_lt, if◌then◌else◌, List, [], ◌∷◌}
use Rattle.std.specs.Prelude.{Option, Some, None, option_map, reverse}
use Rattle.elf_image.specs.Image.{code_writable}
use Rattle.smt_model.specs.{Setup.Setup}
use Rattle.smt_laws.specs.Code.{HoldsItsCode}
use Rattle.smt_model.specs.Plain.{Plain, run, start, after, is_going_status, op_at_pc, computes, effect_at}

-- Hart h is there and going.
abbrev pub can_step : Setup → ℕ → Plain → Bool
can_step setup h s = nat_lt h setup.harts && is_going_status (s.statuses h)

-- The state after one instruction of hart h.
abbrev pub stepped : Setup → ℕ → Plain → Plain
stepped setup h s = after s h (op_at_pc setup s h) (computes setup s h).addr (effect_at setup s h)

-- The state that an order of harts leads to, the first step first; none where a hart of it can't step.
abbrev pub path : Setup → List ℕ → Plain → Option Plain
path setup [] s = Some s
path setup (h ∷ order) s = if can_step setup h s then path setup order (stepped setup h s) else None

-- Code that may not be written is what the image has. So it is at the start, and after each step.
abbrev pub HasItsCode : Setup → Plain → Type 0
HasItsCode setup s = code_writable setup.image ≡ false → HoldsItsCode setup.image s.bytes

-- The program is at its end: no hart goes.
abbrev pub IsEnd : Setup → Plain → Type 0
IsEnd setup s = (h : ℕ) → can_step setup h s ≡ false

-- A run's order has its newest step first, a path's its first.
abbrev pub RunsArePaths : Type 0
RunsArePaths = (setup : Setup) (order : List ℕ)
    → option_map (λ ran. ran.state) (run setup order) ≡ path setup (reverse order) (start setup)

-- So it is where an order leads, from where it is so; and it is so at the start.
abbrev pub PathsKeepCode : Type 0
PathsKeepCode = (setup : Setup)
    → HasItsCode setup (start setup)
    × ((order : List ℕ) (s t : Plain) → HasItsCode setup s → path setup order s ≡ Some t → HasItsCode setup t)
