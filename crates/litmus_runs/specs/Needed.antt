-- The ways of a litmus test's harts without needless turns, by the numbers that come up on them: those that are there
-- at the start, and those that a hart writes on such a way, where each of its reads has found such a number.
use Rattle.std.specs.Prelude.{◌≡◌, ℕ, true, List, [], ◌∷◌, length, Contains, Some, None, slice_get}
use Rattle.std.specs.List.{AllZip}
use Rattle.rv_instr.specs.Kinds.{kind_of}
use Rattle.rv_execute.specs.Access.{reads_memory}
use Rattle.litmus_tests.specs.declared.{test.LitmusTest.LitmusTest, test.Thread.Thread}
use Rattle.litmus_tests.specs.declared.step.LitmusStep.{LitmusStep}
use Rattle.litmus_runs.specs.declared.{access.Access.Access, hart.Hart.Hart, finding.Found.Found}
use Rattle.litmus_runs.specs.declared.runs.HartRuns.{HartRuns}
use Rattle.litmus_runs.specs.Numbers.{initial_number}
use Rattle.litmus_runs.specs.Steps.{op_of, computed_by, Finds, HasTaken}
use Rattle.litmus_runs.specs.Ways.{IsAtStart}
use Rattle.litmus_runs.specs.Turns.{IsNeedless, has_conditionals}
use Rattle.litmus_runs.specs.AllWays.{IsPlainAt, IsListed}

mutual
  -- A hart that went through these places, the last one first, is on a needed way of its thread.
  pub data IsOnNeededWay (test : LitmusTest) : Thread → List Hart → Hart → Type 0 where
    needed_start : (thread : Thread) (hart : Hart) → IsAtStart thread hart → length hart.registers ≡ 32
        → IsOnNeededWay test thread [] hart
    needed_step : (thread : Thread) (trail : List Hart) (before after : Hart) (step : LitmusStep) (found : Found)
        → IsOnNeededWay test thread trail before → slice_get thread.steps.items before.next ≡ Some step
        → ¬ IsNeedless (has_conditionals test) trail step before
        → Finds (op_of step) (computed_by (op_of step) before.registers).addr before.reserved found
        → ((location : ℕ) → reads_memory (kind_of (op_of step)) ≡ true → found.location ≡ Some location
        → ComesUp test location found.number)
        → IsPlainAt step before found → HasTaken step found before after → length after.registers ≡ 32
        → IsOnNeededWay test thread (before ∷ trail) after

  -- A location comes to have a number: it is there at the start, or a hart has written it on a needed way.
  pub data ComesUp (test : LitmusTest) : ℕ → ℕ → Type 0 where
    there_initially : (location number : ℕ) → initial_number test location ≡ Some number → ComesUp test location number
    written_there : (thread : Thread) (trail : List Hart) (hart : Hart) (access : Access) (number : ℕ)
        → Contains test.threads.items thread → IsOnNeededWay test thread trail hart
        → Contains hart.accesses.items access → access.writes ≡ Some number → ComesUp test access.location number

-- Of each hart each needed way that has come to its end is listed.
abbrev pub AreNeededListed : LitmusTest → List HartRuns → Type 0
AreNeededListed test harts = AllZip (λ thread hart. (trail : List Hart) (last : Hart)
    → IsOnNeededWay test thread trail last → slice_get thread.steps.items last.next ≡ None
    → IsListed hart.runs.items last) test.threads.items harts
