-- What a hart has of its own, and what an instruction makes of it.
use Rattle.std.specs.Prelude.{◌≡◌, ℕ, ◌<◌, ◌==◌, ◌&&◌, not, if◌then◌else◌, Option, slice_index}
use Rattle.smt_model.specs.{declared.config.Status.TheVariants.Going, Setup.first_number}
use Rattle.smt_model.specs.Plain.{Plain, register_after, read_register}
use Rattle.sc_machine.specs.declared.hart.Hart.{Hart}

-- Register r, which held `before`, after an instruction that writes rd; x0 stays.
abbrev pub register_written : ℕ → Option ℕ → ℕ → ℕ → ℕ
register_written rd value r before =
    if (r == rd) && not (rd == 0) then register_after value before else before

-- Hart h of these harts as it begins.
pub record IsFirst (h harts entry : ℕ) (x : Hart) : Type 0 where
  pub registers : (r : ℕ) → slice_index x.registers r ≡ first_number harts h r
  pub pc : x.pc ≡ entry
  pub status : x.status ≡ Going

-- It is hart h of the definitions' machine.
pub record HartAgrees (s : Plain) (h : ℕ) (x : Hart) : Type 0 where
  pub registers : (r : ℕ) → r < 32 → slice_index x.registers r ≡ read_register s h r
  pub pc : x.pc ≡ s.pcs h
  pub status : x.status ≡ s.statuses h
