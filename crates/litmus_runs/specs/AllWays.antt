-- All ways of a hart by given numbers: what is listed leaves out none of them, but for those with a needless turn.
use Rattle.std.specs.Prelude.{◌≡◌, ℕ, ◌<◌, Bool, true, false, List, [], ◌∷◌, ◌++◌, Contains, length, Option, Some, None, is_some, slice_get, slice_index}
use Rattle.rv_instr.specs.declared.{op.Op.Op, kind.Kind.Kind}
use Rattle.rv_instr.specs.declared.kind.Kind.TheVariants.{Computing, Conditional}
use Rattle.rv_instr.specs.Kinds.{kind_of}
use Rattle.rv_execute.specs.Access.{reads_memory}
use Rattle.smt_model.specs.Reservations.{holds_word}
use Rattle.litmus_tests.specs.declared.{test.LitmusTest.LitmusTest, test.Thread.Thread}
use Rattle.litmus_tests.specs.declared.step.LitmusStep.{LitmusStep}
use Rattle.litmus_runs.specs.declared.{access.Access.Access, hart.Hart.Hart, finding.Found.Found}
use Rattle.litmus_runs.specs.declared.{known.Known.Known, known.Held.Held, runs.Run.Run}
use Rattle.litmus_runs.specs.Numbers.{initial_number}
use Rattle.litmus_runs.specs.Steps.{op_of, computed_by, HasTaken}
use Rattle.litmus_runs.specs.Ways.{IsAtStart, MayFind}
use Rattle.litmus_runs.specs.Turns.{IsNeedless}

-- An instruction reaches a word: it accesses memory, and a store-conditional its hart's reserved word.
abbrev pub reaches : Kind → Bool → Bool
reaches Computing reserved = false
reaches Conditional reserved = reserved
reaches _ reserved = true

-- Of what an instruction finds nothing is told that doesn't matter to it: a location exactly where it reaches a word,
-- a number of reads alone, and that the reservation holds of store-conditionals alone.
pub record IsPlain (op : Op) (address : ℕ) (reserved : Option ℕ) (found : Found) : Type 0 where
  pub location : is_some found.location ≡ reaches (kind_of op) (holds_word reserved address)
  pub number : reads_memory (kind_of op) ≡ false → found.number ≡ 0
  pub held : found.held ≡ true → kind_of op ≡ Conditional

abbrev pub IsPlainAt : LitmusStep → Hart → Found → Type 0
IsPlainAt step hart found =
    IsPlain (op_of step) (computed_by (op_of step) hart.registers).addr hart.reserved found

-- A hart that went through these places goes on by one step, of which it finds that by the known numbers; it has made
-- no needless turn.
pub record GoesOn (conditionals : Bool) (thread : Thread) (known : List Held) (trail : List Hart) (step : LitmusStep) (found : Found) (before after : Hart) : Type 0 where
  pub there : slice_get thread.steps.items before.next ≡ Some step
  pub needed : ¬ IsNeedless conditionals trail step before
  pub may : MayFind known step before found
  pub plain : IsPlainAt step before found
  pub taken : HasTaken step found before after
  pub size : length after.registers ≡ 32

-- From a place, behind these that it went through, a hart's way leads to another one.
pub data LeadsTo (conditionals : Bool) (thread : Thread) (known : List Held) : List Hart → Hart → Hart → Type 0 where
  here : (trail : List Hart) (hart : Hart) → LeadsTo conditionals thread known trail hart hart
  by_step : (trail : List Hart) (before after last : Hart) (step : LitmusStep) (found : Found)
      → GoesOn conditionals thread known trail step found before after
      → LeadsTo conditionals thread known (before ∷ trail) after last
      → LeadsTo conditionals thread known trail before last

-- A way of a thread by these numbers, without needless turns, as far as it has come.
pub record IsFollowed (conditionals : Bool) (thread : Thread) (known : List Held) (last : Hart) : Type 0 where
  pub start : Hart
  pub starts : IsAtStart thread start
  pub size : length start.registers ≡ 32
  pub way : LeadsTo conditionals thread known [] start last

-- What a hart has done and holds at its end is listed.
pub record IsListed (runs : List Run) (last : Hart) : Type 0 where
  pub run : Run
  pub listed : Contains runs run
  pub accesses : run.accesses.items ≡ last.accesses.items
  pub registers : (r : ℕ) → r < 32 → slice_index run.registers r ≡ slice_index last.registers r

-- Each way that has come to its end is listed.
abbrev pub AreAllListed : Bool → Thread → List Held → List Run → Type 0
AreAllListed conditionals thread known runs = (last : Hart) → IsFollowed conditionals thread known last
    → slice_get thread.steps.items last.next ≡ None → IsListed runs last

-- What these accesses write is among the numbers of its location.
abbrev pub AreLearnt : List Held → List Access → Type 0
AreLearnt table accesses = (access : Access) (number : ℕ) → Contains accesses access
    → access.writes ≡ Some number → Contains table (record { location = access.location; number = number })

-- So it is of each way, ended or not.
abbrev pub AreAllLearnt : Bool → Thread → List Held → List Held → Type 0
AreAllLearnt conditionals thread known table = (last : Hart) → IsFollowed conditionals thread known last
    → AreLearnt table last.accesses.items

-- What the last of these accesses writes is among them.
abbrev pub IsLastLearnt : List Held → List Access → Type 0
IsLastLearnt table accesses = (before : List Access) (access : Access) (number : ℕ)
    → accesses ≡ before ++ access ∷ [] → access.writes ≡ Some number
    → Contains table (record { location = access.location; number = number })

-- A table has the numbers of the start.
abbrev pub HasInitial : LitmusTest → List Held → Type 0
HasInitial test table = (location number : ℕ) → initial_number test location ≡ Some number
    → Contains table (record { location = location; number = number })

-- What is known grows: no number is forgotten, and what was left out once isn't whole again.
pub record Grows (before after : Known) : Type 0 where
  pub whole : after.is_whole ≡ true → before.is_whole ≡ true
  pub kept : (held : Held) → Contains before.held.items held → Contains after.held.items held
