-- The step that the machine makes next is the step that the definitions' machine makes in a state with which it agrees.
use Rattle.std.proofs.Common.{◌≡◌, ◌∙◌, ℕ, Option, refl, ap}
use Rattle.std.proofs.Math.Path.{fun_ext}
use Rattle.shared_memory.specs.Contents.{Contents, byte_of}
use Rattle.smt_model.specs.Words.{Op, Record}
use Rattle.smt_model.specs.{Setup.Setup, Bytes.number_at, Kinds.access_size}
use Rattle.smt_model.specs.Plain.{Plain, op_at_pc, computes, record_at}
use Rattle.sc_machine.specs.{Machine.Machine, Machine.Agrees, Execution.IsExecution}
use Rattle.sc_machine.specs.{declared.execution.Execution.Execution}
use Rattle.stories.specs.{Deeds.deed_by, Story.step_of, declared.step.Step.Step, declared.deed.Deed.Deed}

-- A step of these parts.
abbrev step_with : ℕ → ℕ → Op → Option Deed → Step
step_with h pc op shown = record { hart = h; pc = pc; op = op; deed = shown }

abbrev step_by : ℕ → Op → ℕ → (ℕ → ℕ) → Record → Step
step_by h op addr bytes r = step_with h r.pc op (deed_by op addr (number_at bytes addr (access_size op)) r.effect)

pub step_is : (setup : Setup) (s : Plain) (m : Machine) (memory : Contents) (h : ℕ) (e : Execution)
    (shown : Option Deed) → Agrees setup s m → memory ≡ m.memory → IsExecution setup s h e
    → shown ≡ deed_by e.op e.addr (number_at (byte_of memory) e.addr (access_size e.op)) e.record.effect
    → step_with h e.record.pc e.op shown ≡ step_of setup s h
step_is setup s m memory h e shown agrees same is told =
    ap (step_with h e.record.pc e.op) told
    ∙ ap (λ (memory : Contents). step_by h e.op e.addr (byte_of memory) e.record) same
    ∙ ap (λ op. step_by h op e.addr (byte_of m.memory) e.record) is.op
    ∙ ap (λ addr. step_by h (op_at_pc setup s h) addr (byte_of m.memory) e.record) is.addr
    ∙ ap (λ bytes. step_by h (op_at_pc setup s h) (computes setup s h).addr bytes e.record) (fun_ext agrees.bytes)
    ∙ ap (step_by h (op_at_pc setup s h) (computes setup s h).addr s.bytes) is.said
