-- The work that is left while a hart's ways are followed: which ways come of it.
use Rattle.std.specs.Prelude.{◌≡◌, ◌⊎◌, Bool, true, List, ◌∷◌, ◌++◌, All, Contains, Option, None, slice_get}
use Rattle.litmus_tests.specs.declared.test.Thread.{Thread}
use Rattle.litmus_tests.specs.declared.step.LitmusStep.{LitmusStep}
use Rattle.litmus_runs.specs.declared.{access.Access.Access, hart.Hart.Hart, finding.Found.Found, known.Held.Held}
use Rattle.litmus_runs.specs.declared.{runs.Run.Run, following.Going.Going, following.Ways.Ways, turns.Standing.Standing}
use Rattle.litmus_runs.specs.Steps.{those_made}
use Rattle.litmus_runs.specs.Turns.{IsStandingOf}
use Rattle.litmus_runs.specs.AllWays.{GoesOn, LeadsTo, IsListed, AreLearnt}

-- Two harts stand alike.
pub record IsSame (hart other : Hart) : Type 0 where
  pub registers : other.registers ≡ hart.registers
  pub accesses : other.accesses.items ≡ hart.accesses.items
  pub next : other.next ≡ hart.next
  pub reserved : other.reserved ≡ hart.reserved
  pub reserving : other.reserving ≡ hart.reserving

-- What is kept of a place that was gone through.
pub record IsOfOne (conditionals : Bool) (trail : List Hart) (kept : Standing) : Type 0 where
  pub earlier : Hart
  pub passed : Contains trail earlier
  pub standing : IsStandingOf conditionals earlier kept

-- A hart did all that it had done by then.
pub record HasDone (hart earlier : Hart) : Type 0 where
  pub between : List Access
  pub is : hart.accesses.items ≡ earlier.accesses.items ++ between

-- A hart that is left stands for a place of a way.
pub record StandsFor (conditionals : Bool) (trail : List Hart) (hart : Hart) (one : Going) : Type 0 where
  pub same : IsSame hart one.hart
  pub kept : All (IsOfOne conditionals trail) one.before.items
  pub done : All (HasDone hart) trail

-- A way's place comes of what is left.
pub record Comes (conditionals : Bool) (thread : Thread) (known : List Held) (going : List Going) (last : Hart) : Type 0 where
  pub one : Going
  pub left : Contains going one
  pub trail : List Hart
  pub hart : Hart
  pub stands : StandsFor conditionals trail hart one
  pub leads : LeadsTo conditionals thread known trail hart last

-- What a hart's ways lead to by a step that finds that comes of what is left.
abbrev pub IsGoneBy : Bool → Thread → List Held → Going → LitmusStep → Found → List Going → Type 0
IsGoneBy conditionals thread known from step found going = (trail : List Hart) (hart after last : Hart)
    → StandsFor conditionals trail hart from → GoesOn conditionals thread known trail step found hart after
    → LeadsTo conditionals thread known (hart ∷ trail) after last → Comes conditionals thread known going last

-- Of a hart's accesses all but the last are learnt.
pub record IsAllButLast (table : List Held) (accesses : List Access) : Type 0 where
  pub before : List Access
  pub made : Option Access
  pub is : accesses ≡ before ++ those_made made
  pub learnt : AreLearnt table before

abbrev pub AreAllButLast : List Held → List Going → Type 0
AreAllButLast table going = All (λ one. IsAllButLast table one.hart.accesses.items) going

-- What is left grows, by harts that have made one access more at most.
pub record HasLeft (hart : Hart) (before after : List Going) : Type 0 where
  pub kept : (one : Going) → Contains before one → Contains after one
  pub more : (table : List Held) → AreLearnt table hart.accesses.items → AreAllButLast table before
      → AreAllButLast table after

-- What is listed stays listed, and what was cut stays so.
pub record KeepsWays (before after : Ways) : Type 0 where
  pub whole : after.is_whole ≡ true → before.is_whole ≡ true
  pub kept : (run : Run) → Contains before.runs.items run → Contains after.runs.items run

-- A hart has been taken up: what its way leads to is listed, where it has come to its end, or it is the very place
-- where the hart stood, or comes of what is left.
pub record HasGoneBeyond (conditionals : Bool) (thread : Thread) (known : List Held) (from : Going) (before after : List Going) (ways : Ways) : Type 0 where
  pub left : HasLeft from.hart before after
  pub ended : ways.is_whole ≡ true → (trail : List Hart) (hart last : Hart)
      → StandsFor conditionals trail hart from → LeadsTo conditionals thread known trail hart last
      → slice_get thread.steps.items last.next ≡ None
      → IsListed ways.runs.items last ⊎ Comes conditionals thread known after last
  pub passed : ways.is_whole ≡ true → (trail : List Hart) (hart last : Hart)
      → StandsFor conditionals trail hart from → LeadsTo conditionals thread known trail hart last
      → (hart ≡ last) ⊎ Comes conditionals thread known after last
