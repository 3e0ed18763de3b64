-- What a completion says through the memory and the queues of the parts is what the rules want of it.
use Rattle.std.specs.Prelude.{◌≡◌, ℕ, ◌<◌, List, [], ◌∷◌, length, Some, None, slice_index_or}
use Rattle.std.proofs.Common.{◌∙◌, sym, ap, arith}
use Rattle.events.specs.{declared.effect.Outcome.Outcome, declared.event.Event.Event}
use Rattle.rv_instr.specs.declared.op.Op.{Op}
use Rattle.exec_units.specs.Job.{JobView, outcome_of_job}
use Rattle.smt_model.specs.{Bytes.read, Exec.Computed, Faults.checked, Looks.first_look, Outcomes.outcome_of}
use Rattle.smt_model.specs.{Fates.op_of_fetched, Picture.picture, Rules.outcome_now, Setup.Setup}
use Rattle.load_store.specs.{Looks.seen, Queues.queues_of}
use Rattle.load_store.specs.{Histories.HasMemory, Stores.stores_at}
use Rattle.load_store.proofs.Forwarding.{sees_first_look}
use Rattle.core_parts.specs.{Agree.IsOpenJob, Agree.PartsAgree}
use Rattle.core_steps.specs.{Complete.IsSameJob}
use Rattle.core_parts.specs.{declared.hart.HartState.HartState, declared.parts.Parts.Parts}
use Rattle.core_parts.specs.{declared.slot.OpenJob.OpenJob}
use Rattle.core_parts.proofs.{Agreement.Queues.queues_are}
use Rattle.core_state.proofs.{Steps.Complete.Look.looks_right}

-- The first of some harts.
pub first_hart : (harts : List HartState) (h : ℕ) → h < length harts → HartState
first_hart [] h inside = absurd (omega arith)
first_hart (x ∷ xs) h inside = x

module _ (setup : Setup) (past : List Event) (parts : Parts) (agrees : PartsAgree (picture setup past) parts)
    (image : parts.memory.image ≡ setup.image) where
  pub has_memory : (h : ℕ) → HasMemory setup past h parts.memory
  has_memory h = record { image = image; bytes = agrees.memory.byte; reserved = agrees.memory.reserved h }

  -- The stores in a hart's queue are its stores in flight.
  pub stores_are_there : (h : ℕ) → h < length parts.harts.items
      → (queues_of parts.accesses h).stores ≡ stores_at past h
  stores_are_there h inside =
      let d = first_hart parts.harts.items h inside in
      let x = slice_index_or parts.harts.items h d in
      ap (λ q. q.stores) (agrees.accesses.each h d inside
      ∙ queues_are (picture setup past) h x (agrees.harts h d inside))

  -- Through them a load of the hart sees what its first look gives.
  pub looks_first : (h s : ℕ) (op : Op) (addr : ℕ) → h < length parts.harts.items
      → read op (seen s (queues_of parts.accesses h).stores parts.memory) addr ≡ first_look setup past h s op addr
  looks_first h s op addr inside =
      ap (λ stores. read op (seen s stores parts.memory) addr) (stores_are_there h inside)
      ∙ sees_first_look setup past parts.memory h s op addr (has_memory h)

  pub says_now : (k : ℕ) (x : OpenJob) (view : JobView) (o : Outcome)
      → (opened : IsOpenJob (picture setup past) k x) → IsSameJob x view → x.hart < length parts.harts.items
      → ((c : Computed) → outcome_of_job view ≡ outcome_of x.op c None
      → o ≡ outcome_of x.op (checked parts.memory.image x.op c)
      (Some (read x.op (seen x.seq (queues_of parts.accesses x.hart).stores parts.memory) c.addr)))
      → o ≡ outcome_now setup past x.seq opened.instruction
  says_now k x view o opened same inside says =
      let f = opened.instruction in
      let op = op_of_fetched (Some f) in
      let bytes = seen x.seq (queues_of parts.accesses x.hart).stores parts.memory in
      looks_right setup past k x view o opened same (λ c worked.
      says c (worked ∙ ap (λ y. outcome_of y c None) (sym opened.op))
      ∙ ap (λ y. outcome_of y (checked parts.memory.image y c) (Some (read y bytes c.addr))) opened.op
      ∙ ap (λ m. outcome_of op (checked m op c) (Some (read op bytes c.addr))) image
      ∙ ap (λ n. outcome_of op (checked setup.image op c) (Some n))
      (looks_first x.hart x.seq op c.addr inside
      ∙ ap (λ h. first_look setup past h x.seq op c.addr) (sym opened.hart)))
