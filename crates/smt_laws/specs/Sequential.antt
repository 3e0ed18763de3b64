-- The headline: what a core retires, in any legal history, is what the plain machine does one
-- instruction at a time. [Lamport 1979, "How to Make a Multiprocessor Computer That Correctly
-- Executes Multiprocess Programs"]
use Rattle.std.specs.Prelude.{◌≡◌, ℕ, ◌<◌, ◌≤◌, if◌then◌else◌, List, Some}
use Rattle.events.specs.declared.event.Event.{Event}
use Rattle.smt_model.specs.{Setup.Setup, Setup.registers_of, Plain.Run, Plain.run, Nexts.pc_after}
use Rattle.smt_model.specs.{Folds.by_retirements, Fates.is_of, Registers.committed, Registers.value}
use Rattle.smt_model.specs.{Registers.claims, Rules.is_legal, Account.records, Account.order}
use Rattle.smt_model.specs.Memory.{byte_at, reserved, output, status}

-- Where hart h stands in its program by what has retired: where its last retired instruction goes
-- on, or at the entry. An end or a stop leaves it.
abbrev pub retired_pc : Setup → List Event → ℕ → ℕ
retired_pc setup =
    by_retirements (λ s x past stood h.
    if is_of past h s then pc_after x.next (stood h) else stood h)
    (λ h. setup.image.entry)

-- The history's retirements, in the order in which they came, are a run of the plain machine from
-- the start.
pub record IsSequential (setup : Setup) (past : List Event) : Type 0 where
  -- No physical register is claimed twice, and none beyond the last.
  pub claimed_once : (p : ℕ) → claims setup past p ≤ 1
  pub claimed_there : (p : ℕ) → registers_of setup ≤ p → claims setup past p ≡ 0
  -- The plain machine can run its harts in the order of the retirements: each was going when its
  -- turn came.
  pub ran : Run
  pub runs : run setup (order past) ≡ Some ran
  -- It leaves the records of the history: of each instruction its hart, pc, word and effect.
  pub records : ran.records ≡ records past
  -- It ends where the history does: in each hart's committed registers, pc, status and reservation,
  -- in memory and output.
  pub registers : (h r : ℕ) → h < setup.harts → 1 ≤ r → r < 32
      → value setup past (committed past h r) ≡ Some (ran.state.registers h r)
  pub pcs : (h : ℕ) → ran.state.pcs h ≡ retired_pc setup past h
  pub statuses : (h : ℕ) → ran.state.statuses h ≡ status past h
  pub reserved : (h : ℕ) → ran.state.reserved h ≡ reserved past h
  pub bytes : (a : ℕ) → ran.state.bytes a ≡ byte_at setup past a
  pub output : ran.state.output ≡ output past

-- Every legal history is so: of any number of harts, on any program, with any predictions, actors
-- and free registers.
abbrev pub EachIsSequential : Type 0
EachIsSequential = (setup : Setup) (past : List Event) → is_legal setup past
    → IsSequential setup past
