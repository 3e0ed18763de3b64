-- What the account, the registers and the memory of a core amount to: a run of the plain machine, one
-- instruction at a time.
use Rattle.std.specs.Prelude.{◌≡◌, ℕ, ◌<◌, List, map, reverse, Some}
use Rattle.events.specs.declared.effect.Record.{Record}
use Rattle.smt_model.specs.{declared.config.Status.Status, Account.order, Basics.below, Plain.Run}
use Rattle.smt_model.specs.{Plain.run, Plain.read_register, Setup.Setup}
use Rattle.shared_memory.specs.Contents.{Contents, byte_of, reserved_of}
use Rattle.core_state.specs.View.{CoreView}

-- The plain machine can run the harts of these records in their order, oldest first; it leaves
-- these records, puts out these bytes, and leaves each hart with its status.
pub record IsPlainRun (setup : Setup) (said : List Record) (bytes : List ℕ)
    (statuses : List Status) : Type 0 where
  pub ran : Run
  pub runs : run setup (map (λ r. r.hart) (reverse said)) ≡ Some ran
  pub records : reverse ran.records ≡ said
  pub output : ran.state.output ≡ bytes
  pub stands : map ran.state.statuses (below setup.harts) ≡ statuses

-- The run of what the core has retired leaves this number in hart h's register r.
pub record IsPlainRegister (core : CoreView) (h r : ℕ) (number : ℕ) : Type 0 where
  pub hart : h < core.setup.harts
  pub register : r < 32
  pub ran : Run
  pub runs : run core.setup (order core.past) ≡ Some ran
  pub holds : read_register ran.state h r ≡ number

-- The run of what the core has retired leaves this memory: each byte of it, and the word that each
-- hart has reserved.
pub record IsPlainMemory (core : CoreView) (m : Contents) : Type 0 where
  pub ran : Run
  pub runs : run core.setup (order core.past) ≡ Some ran
  pub bytes : (addr : ℕ) → byte_of m addr ≡ ran.state.bytes addr
  pub reserved : (h : ℕ) → reserved_of m h ≡ ran.state.reserved h
