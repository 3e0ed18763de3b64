-- Needless turns: a hart is back at a step as it was there before, and has changed nothing since.
use Rattle.std.specs.Prelude.{◌≡◌, ◌⊎◌, ℕ, ◌<◌, ◌==◌, ◌&&◌, ◌||◌, not, Bool, true, false}
use Rattle.std.specs.List.{list_any}
use Rattle.std.specs.Prelude.{List, ◌++◌, All, Contains, Option, Some, None, count_by, is_some, slice_index}
use Rattle.rv_instr.specs.declared.{op.Op.TheVariants.Known, kind.Kind.Kind}
use Rattle.rv_instr.specs.declared.kind.Kind.TheVariants.{Conditional, Reserving}
use Rattle.rv_instr.specs.{Kinds.destination, Kinds.kind_of_instr, Registers.op_rs1, Registers.op_rs2}
use Rattle.smt_model.specs.Basics.{same_number}
use Rattle.litmus_tests.specs.declared.{test.LitmusTest.LitmusTest, test.Thread.Thread}
use Rattle.litmus_tests.specs.declared.step.LitmusStep.{LitmusStep}
use Rattle.litmus_tests.specs.declared.step.LitmusStep.TheVariants.{Straight, Constant, Branch, Fence}
use Rattle.litmus_runs.specs.declared.{access.Access.Access, hart.Hart.Hart, turns.Standing.Standing}

-- An operand is this register.
abbrev pub is_operand : Option ℕ → ℕ → Bool
is_operand None r = false
is_operand (Some register) r = register == r

-- A step writes a register and doesn't read it.
abbrev pub is_written_anew : LitmusStep → ℕ → Bool
is_written_anew (Straight instruction) r = (destination (Known instruction) == r)
    && not (is_operand (op_rs1 (Known instruction)) r || is_operand (op_rs2 (Known instruction)) r)
is_written_anew (Constant register value) r = register == r
is_written_anew (Branch op left right target) r = false
is_written_anew (Fence fence) r = false

-- A step reserves a word, whatever was reserved before; it is a store-conditional.
abbrev pub reserves : Kind → Bool
reserves Reserving = true
reserves _ = false

abbrev pub is_reserving : LitmusStep → Bool
is_reserving (Straight instruction) = reserves (kind_of_instr instruction)
is_reserving _ = false

abbrev pub may_fail : Kind → Bool
may_fail Conditional = true
may_fail _ = false

abbrev pub is_conditional : LitmusStep → Bool
is_conditional (Straight instruction) = may_fail (kind_of_instr instruction)
is_conditional _ = false

-- A test has a store-conditional.
abbrev pub has_conditional : Thread → Bool
has_conditional thread = list_any is_conditional thread.steps.items

abbrev pub has_conditionals : LitmusTest → Bool
has_conditionals test = list_any has_conditional test.threads.items

-- An access writes another number than it reads. Where a store-conditional may fail for it, each write counts.
abbrev pub is_change : Bool → Access → Bool
is_change conditionals access =
    is_some access.writes && (conditionals || not (same_number access.writes access.reads))

-- Neither has a reservation, or both have that of one load-reserved.
abbrev pub AreOfOne : Option ℕ → Option ℕ → ℕ → ℕ → Type 0
AreOfOne None None before now = Unit {0}
AreOfOne (Some word) (Some other) before now = before ≡ now
AreOfOne None (Some other) before now = ⊥
AreOfOne (Some word) None before now = ⊥

-- Between two places of a way no access changes anything.
pub record HasChangedNothing (conditionals : Bool) (earlier now : Hart) : Type 0 where
  pub between : List Access
  pub is : now.accesses.items ≡ earlier.accesses.items ++ between
  pub none : All (λ access. is_change conditionals access ≡ false) between

-- A hart that comes to a step goes on from there as it did from an earlier place: it is the same step, each register
-- holds the same but one that the step writes anew, so does its reservation if the step doesn't reserve anew, and
-- nothing was changed in between.
pub record IsBackAt (conditionals : Bool) (step : LitmusStep) (earlier now : Hart) : Type 0 where
  pub next : earlier.next ≡ now.next
  pub registers : (r : ℕ) → r < 32 → (is_written_anew step r ≡ true)
      ⊎ (slice_index earlier.registers r ≡ slice_index now.registers r)
  pub reserved : (is_reserving step ≡ true)
      ⊎ AreOfOne earlier.reserved now.reserved earlier.reserving now.reserving
  pub unchanged : HasChangedNothing conditionals earlier now

-- It has made a needless turn: it is so back at one of the places that it went through.
pub record IsNeedless (conditionals : Bool) (trail : List Hart) (step : LitmusStep) (now : Hart) : Type 0 where
  pub earlier : Hart
  pub passed : Contains trail earlier
  pub back : IsBackAt conditionals step earlier now

-- What is kept of a place that a hart went through.
pub record IsStandingOf (conditionals : Bool) (hart : Hart) (standing : Standing) : Type 0 where
  pub registers : (r : ℕ) → r < 32 → slice_index standing.registers r ≡ slice_index hart.registers r
  pub next : standing.next ≡ hart.next
  pub reserved : standing.reserved ≡ hart.reserved
  pub reserving : standing.reserving ≡ hart.reserving
  pub changes : standing.changes ≡ count_by (is_change conditionals) hart.accesses.items

-- By what is kept of them, a hart stands at a step as it stood there before, with as many changes.
pub record IsAlike (step : LitmusStep) (before now : Standing) : Type 0 where
  pub next : before.next ≡ now.next
  pub changes : before.changes ≡ now.changes
  pub registers : (r : ℕ) → r < 32 → (is_written_anew step r ≡ true)
      ⊎ (slice_index before.registers r ≡ slice_index now.registers r)
  pub reserved : (is_reserving step ≡ true)
      ⊎ AreOfOne before.reserved now.reserved before.reserving now.reserving

-- So it does at one of several.
pub record IsOneAlike (step : LitmusStep) (before : List Standing) (now : Standing) : Type 0 where
  pub other : Standing
  pub kept : Contains before other
  pub alike : IsAlike step other now
