-- The faults of an access, and what they make of what is computed.
use Rattle.std.specs.Prelude.{◌≡◌, ℕ, true, false, Some, None}
use Rattle.std.proofs.Common.{refl, arith}
use Rattle.elf_image.specs.Image.{ProgramImage}
use Rattle.events.specs.declared.effect.Next.TheVariants.{Stopped}
use Rattle.rv_instr.specs.declared.op.Op.{Op}
use Rattle.rv_execute.specs.Access.{reads_memory}
use Rattle.smt_model.specs.{Exec.Computed, Nexts.is_last, Faults.fault, Faults.checked}
use Rattle.smt_model.specs.Kinds.{Kind, Computing, Loading, Storing, Reserving, Conditional, Atomic, kind_of}
use Rattle.smt_model.specs.Kinds.{is_loading}

pub loading_reads : (kind : Kind) → is_loading kind ≡ true → reads_memory kind ≡ true
loading_reads Computing loads = absurd (grind arith)
loading_reads Loading loads = refl
loading_reads Storing loads = absurd (grind arith)
loading_reads Reserving loads = refl
loading_reads Conditional loads = absurd (grind arith)
loading_reads Atomic loads = refl

pub computing_faultless : (image : ProgramImage) (op : Op) (addr : ℕ) → kind_of op ≡ Computing
    → fault image op addr ≡ None
unfolding fault
computing_faultless image op addr computes = rw computes refl

-- ---- What is computed, with the fault of its access

pub checked_last : (image : ProgramImage) (op : Op) (c : Computed) → is_last c.next ≡ true → checked image op c ≡ c
unfolding checked
checked_last image op c last = rw last refl

pub checked_faultless : (image : ProgramImage) (op : Op) (c : Computed) → is_last c.next ≡ false
    → fault image op c.addr ≡ None
    → checked image op c ≡ c
unfolding checked
checked_faultless image op c going none = rw (going, none) refl

pub checked_faulting : (image : ProgramImage) (op : Op) (c : Computed) (cause : ℕ) → is_last c.next ≡ false
    → fault image op c.addr ≡ Some cause
    → checked image op c ≡ record c { next = Stopped cause }
unfolding checked
checked_faulting image op c cause going faults = rw (going, faults) refl
