-- The ways of a litmus test's harts to their end, and which numbers a location may have: those that are there at the
-- start, and those that a hart writes on its way, where each of its reads has found such a number.
use Rattle.std.specs.Prelude.{◌≡◌, ℕ, ◌<◌, true, false, List, [], ◌∷◌, All, Contains, Option, Some, None, slice_get, slice_index}
use Rattle.std.specs.List.{AllZip}
use Rattle.rv_instr.specs.declared.op.Op.{Op}
use Rattle.rv_instr.specs.Kinds.{kind_of}
use Rattle.rv_execute.specs.Access.{reads_memory}
use Rattle.litmus_tests.specs.declared.{test.LitmusTest.LitmusTest, test.Thread.Thread, test.RegisterStart.RegisterStart}
use Rattle.litmus_tests.specs.declared.step.LitmusStep.{LitmusStep}
use Rattle.litmus_runs.specs.declared.{access.Access.Access, hart.Hart.Hart, finding.Found.Found}
use Rattle.litmus_runs.specs.declared.{known.Known.Known, known.Held.Held, runs.Run.Run, runs.HartRuns.HartRuns, following.Going.Going}
use Rattle.litmus_runs.specs.{Numbers.initial_number, Numbers.word_of}
use Rattle.litmus_runs.specs.Steps.{op_of, computed_by, register_written, Finds, HasTaken}

-- Register r, which held `before`, once these starts are written, in their order.
abbrev pub started : List RegisterStart → ℕ → ℕ → ℕ
started [] r before = before
started (start ∷ starts) r before = started starts r (register_written start.register (Some (word_of start.value)) r before)

-- A hart at its first step: its registers are those of its starts, the others hold 0. No access has reserved a word.
pub record IsAtStart (thread : Thread) (hart : Hart) : Type 0 where
  pub registers : (r : ℕ) → r < 32 → slice_index hart.registers r ≡ started thread.starts.items r 0
  pub accesses : hart.accesses.items ≡ []
  pub next : hart.next ≡ 0
  pub reserved : hart.reserved ≡ None
  pub reserving : hart.reserving ≡ 0

mutual
  -- A hart is on a way of its thread: it is at its start, or has made a step of its thread with what it may find, where
  -- what it reads is a number that the location may have.
  pub data IsOnWay (test : LitmusTest) : Thread → Hart → Type 0 where
    at_start : (thread : Thread) (hart : Hart) → IsAtStart thread hart → IsOnWay test thread hart
    behind_step : (thread : Thread) (before after : Hart) (step : LitmusStep) (found : Found)
        → IsOnWay test thread before → slice_get thread.steps.items before.next ≡ Some step
        → Finds (op_of step) (computed_by (op_of step) before.registers).addr before.reserved found
        → ((location : ℕ) → reads_memory (kind_of (op_of step)) ≡ true → found.location ≡ Some location
        → MayHave test location found.number)
        → HasTaken step found before after → IsOnWay test thread after

  -- A location may have a number: it is there at the start, or a hart has written it on its way.
  pub data MayHave (test : LitmusTest) : ℕ → ℕ → Type 0 where
    initially : (location number : ℕ) → initial_number test location ≡ Some number → MayHave test location number
    written : (index : ℕ) (thread : Thread) (hart : Hart) (access : Access) (number : ℕ)
        → slice_get test.threads.items index ≡ Some thread → IsOnWay test thread hart
        → Contains hart.accesses.items access → access.writes ≡ Some number
        → MayHave test access.location number

-- What is listed of a hart: a way of it that has come to its end.
pub record IsRun (test : LitmusTest) (thread : Thread) (run : Run) : Type 0 where
  pub hart : Hart
  pub way : IsOnWay test thread hart
  pub ended : slice_get thread.steps.items hart.next ≡ None
  pub accesses : run.accesses.items ≡ hart.accesses.items
  pub registers : run.registers ≡ hart.registers

-- Harts that are on ways of a thread.
abbrev pub AreGoing : LitmusTest → Thread → List Going → Type 0
AreGoing test thread going = All (λ one. IsOnWay test thread one.hart) going

-- What is listed of a hart are ways of it; so it is of each hart of a test, hart 0 first.
abbrev pub AreRunsOf : LitmusTest → Thread → HartRuns → Type 0
AreRunsOf test thread hart = All (IsRun test thread) hart.runs.items

abbrev pub AreRuns : LitmusTest → List HartRuns → Type 0
AreRuns test harts = AllZip (AreRunsOf test) test.threads.items harts

-- Each of these is a number that its location may have.
pub record AreKnown (test : LitmusTest) (known : Known) : Type 0 where
  pub each : All (λ held. MayHave test held.location held.number) known.held.items

-- What an instruction may find where these are the numbers that locations may have.
pub record MayBeFound (known : List Held) (op : Op) (address : ℕ) (reserved : Option ℕ) (found : Found) : Type 0 where
  pub finds : Finds op address reserved found
  pub number : (location : ℕ) → reads_memory (kind_of op) ≡ true → found.location ≡ Some location
      → Contains known (record { location = location; number = found.number })

-- What a read of a location finds: one of its numbers.
pub record IsOneOf (known : List Held) (location : ℕ) (found : Found) : Type 0 where
  pub held : found.held ≡ false
  pub place : found.location ≡ Some location
  pub number : Contains known (record { location = location; number = found.number })

-- What a hart may find at a step.
abbrev pub MayFind : List Held → LitmusStep → Hart → Found → Type 0
MayFind known step hart found =
    MayBeFound known (op_of step) (computed_by (op_of step) hart.registers).addr hart.reserved found
