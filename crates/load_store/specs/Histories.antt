-- That what `completion` and `effect` say is what the rules want: where memory and a hart's stores
-- are as a history has them.
use Rattle.std.specs.Prelude.{◌≡◌, ℕ, List, Some}
use Rattle.events.specs.declared.event.Event.{Event}
use Rattle.rv_instr.specs.declared.op.Op.{Op}
use Rattle.smt_model.specs.{Setup.Setup, Exec.Computed, Exec.exec, Faults.checked, Basics.or_zero}
use Rattle.smt_model.specs.{Bytes.read, Outcomes.outcome_of, Effects.effect_of}
use Rattle.smt_model.specs.{Kinds.first_source, Kinds.second_source, Registers.operand}
use Rattle.smt_model.specs.{Reservations.holds_word, Memory.byte_at, Memory.reserved}
use Rattle.smt_model.specs.{Fates.Fetched, Fates.op_of_fetched, Looks.first_look}
use Rattle.smt_model.specs.{Rules.outcome_now, Rules.effect_now}
use Rattle.shared_memory.specs.Contents.{Contents, byte_of, reserved_of}
use Rattle.load_store.specs.{Looks.seen}
use Rattle.load_store.specs.Stores.{stores_at}

-- Memory is as the history says, for hart h.
pub record HasMemory (setup : Setup) (past : List Event) (h : ℕ) (m : Contents) : Type 0 where
  pub image : m.image ≡ setup.image
  pub bytes : (addr : ℕ) → byte_of m addr ≡ byte_at setup past addr
  pub reserved : reserved_of m h ≡ reserved past h

-- What an instruction computes of its operands, its faults left out.
abbrev pub computed_in : Setup → List Event → ℕ → Fetched → Computed
computed_in setup past s f =
    let op = op_of_fetched (Some f) in
    exec op f.pc (or_zero (operand setup first_source past s))
    (or_zero (operand setup second_source past s))

-- Through the stores in flight a load sees what the history says that its first look gives.
abbrev pub SeesFirstLook : Type 0
SeesFirstLook =
    (setup : Setup) (past : List Event) (m : Contents) (h s : ℕ) (op : Op) (addr : ℕ)
    → HasMemory setup past h m
    → read op (seen s (stores_at past h) m) addr ≡ first_look setup past h s op addr

-- What `completion` says is what the rules want of a completion.
abbrev pub SaysOutcomes : Type 0
SaysOutcomes =
    (setup : Setup) (past : List Event) (m : Contents) (s : ℕ) (f : Fetched)
    → HasMemory setup past f.hart m
    → let op = op_of_fetched (Some f) in
    let c = computed_in setup past s f in
    outcome_of op (checked m.image op c)
    (Some (read op (seen s (stores_at past f.hart) m) c.addr))
    ≡ outcome_now setup past s f

-- What `effect` says is what the rules want of a retirement.
abbrev pub SaysEffects : Type 0
SaysEffects =
    (setup : Setup) (past : List Event) (m : Contents) (s : ℕ) (f : Fetched)
    → HasMemory setup past f.hart m
    → let op = op_of_fetched (Some f) in
    let c = computed_in setup past s f in
    effect_of op (checked m.image op c) (read op (byte_of m) c.addr)
    (holds_word (reserved_of m f.hart) c.addr)
    ≡ effect_now setup past s f
