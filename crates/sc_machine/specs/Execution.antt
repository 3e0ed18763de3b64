-- What a hart does next.
use Rattle.std.specs.Prelude.{◌≡◌, ℕ, ◌<◌, false, None, length, is_some, IsTrue, IfSome}
use Rattle.elf_image.specs.Image.{ProgramImage}
use Rattle.rv_instr.specs.Kinds.{destination, first_source, second_source}
use Rattle.rv_instr.specs.Table.{OpInRange}
use Rattle.shared_memory.specs.Contents.{Contents, CanWrite}
use Rattle.smt_model.specs.{Setup.Setup, Plain.Plain, Plain.op_at_pc, Plain.computes}
use Rattle.smt_model.specs.{Plain.record_at, Nexts.is_last, Faults.fault}
use Rattle.sc_machine.specs.{Access.WritesAlone, Machine.Machine}
use Rattle.sc_machine.specs.{Here.word_here, Here.op_here, Here.computed_here, Here.effect_here}
use Rattle.sc_machine.specs.{declared.hart.Hart.Hart}
use Rattle.sc_machine.specs.{declared.execution.Execution.Execution}

-- It is what hart h, with x of its own, does next on a memory.
pub record IsNext (m : Contents) (h : ℕ) (x : Hart) (e : Execution) : Type 0 where
  pub op : e.op ≡ op_here m x
  pub addr : e.addr ≡ (computed_here m x (op_here m x)).addr
  pub hart : e.record.hart ≡ h
  pub pc : e.record.pc ≡ x.pc
  pub word : e.record.word ≡ word_here m x
  pub effect : e.record.effect ≡ effect_here m h (op_here m x) (computed_here m x (op_here m x))

-- The access of one that goes on has no fault.
abbrev pub IsUnfaulted : ProgramImage → Execution → Type 0
IsUnfaulted image e = is_last e.record.effect.next ≡ false → fault image e.op e.addr ≡ None

-- Its registers are there, and it may touch what it touches.
pub record IsAllowed (m : Contents) (e : Execution) : Type 0 where
  pub destination : destination e.op < 32
  pub first : first_source e.op < 32
  pub second : second_source e.op < 32
  pub write : IfSome e.record.effect.write (CanWrite m.image)
  pub alone : WritesAlone e.record.effect
  pub unfaulted : IsUnfaulted m.image e
  pub in_range : OpInRange e.op

-- There is room for the byte that it puts out.
abbrev pub HasRoom : Machine → Execution → Type 0
HasRoom m e = IsTrue (is_some e.record.effect.out) → length m.output < m.room

-- It is what hart h does next in a state of the definitions' machine.
pub record IsExecution (setup : Setup) (s : Plain) (h : ℕ) (e : Execution) : Type 0 where
  pub op : e.op ≡ op_at_pc setup s h
  pub addr : e.addr ≡ (computes setup s h).addr
  pub said : e.record ≡ record_at setup s h
