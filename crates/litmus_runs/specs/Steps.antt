-- What a hart does at a step of a litmus test, where it is given the numbers that it reads: an instruction computes
-- and does what the definitions' own `exec` and `effect_of` say, with their reservations.
use Rattle.std.specs.Prelude.{◌≡◌, ◌⊎◌, ℕ, ◌+◌, ◌-◌, ◌^◌, ◌<◌, min, ◌==◌, ◌&&◌, not, Bool, true, false, if◌then◌else◌}
use Rattle.std.specs.Prelude.{List, [], ◌∷◌, ◌++◌, Option, Some, None, slice_index, unwrap_or, length}
use Rattle.std.specs.Option.{option_map}
use Rattle.rv_instr.specs.declared.{instr.Instr.Instr, instr.BranchOp.BranchOp, op.Op.Op, kind.Kind.Kind}
use Rattle.rv_instr.specs.declared.op.Op.TheVariants.{Known}
use Rattle.rv_instr.specs.declared.kind.Kind.TheVariants.{Conditional, Reserving}
use Rattle.rv_instr.specs.Kinds.{kind_of, destination, first_source, second_source, touches_memory}
use Rattle.rv_execute.specs.Access.{reads_memory}
use Rattle.smt_model.specs.{Exec.Computed, Exec.exec, Exec.is_taken, Effects.effect_of, Kinds.access_size, Words.Effect, Words.Written}
use Rattle.smt_model.specs.Reservations.{holds_word, reservation_after}
use Rattle.litmus_tests.specs.{Conditions.address_of, WellFormed.is_straight}
use Rattle.litmus_tests.specs.declared.step.LitmusStep.{LitmusStep}
use Rattle.rv_instr.specs.declared.instr.Instr.TheVariants as instr
use Rattle.litmus_tests.specs.declared.step.LitmusStep.TheVariants.{Straight, Constant, Branch, Fence}
use Rattle.litmus_runs.specs.declared.access.Access.{Access}
use Rattle.litmus_runs.specs.declared.{hart.Hart.Hart, finding.Found.Found}

-- The instruction by which a step accesses memory; of a step that can't, one that doesn't.
abbrev pub op_of : LitmusStep → Op
op_of (Straight instruction) = Known instruction
op_of (Constant register value) = Known instr.Fence
op_of (Branch op left right target) = Known instr.Fence
op_of (Fence fence) = Known instr.Fence

-- What is computed of these registers. No step of a litmus test depends on where it stands.
abbrev pub computed_by : Op → List ℕ → Computed
computed_by op registers =
    exec op 0 (slice_index registers (first_source op)) (slice_index registers (second_source op))

-- Register r, which held `before`, once a number is written into rd, if one is; x0 stays.
abbrev pub register_written : ℕ → Option ℕ → ℕ → ℕ → ℕ
register_written rd number r before =
    if (r == rd) && not (rd == 0) then unwrap_or number before else before

-- What an access reads, and what it writes.
abbrev pub number_read : Kind → ℕ → Option ℕ
number_read kind number = if reads_memory kind then Some number else None

abbrev pub datum_of : Option Written → Option ℕ
datum_of write = option_map (λ written. written.datum) write

-- It accesses the whole word of this location.
pub record IsWordAt (op : Op) (address location : ℕ) : Type 0 where
  pub size : access_size op ≡ 4
  pub there : address_of location ≡ address

-- No access is made: the instruction touches no memory, or it is a store-conditional that fails.
abbrev pub MakesNone : Op → Bool → Type 0
MakesNone op held = (touches_memory (kind_of op) ≡ false) ⊎ ((kind_of op ≡ Conditional) × (held ≡ false))

-- What an instruction finds at its address: a reservation holds only where there is one on the word.
abbrev pub IsFoundAt : Op → ℕ → Bool → Option ℕ → Type 0
IsFoundAt op address held None = MakesNone op held
IsFoundAt op address held (Some location) = IsWordAt op address location

pub record Finds (op : Op) (address : ℕ) (reserved : Option ℕ) (found : Found) : Type 0 where
  pub held : found.held ≡ true → holds_word reserved address ≡ true
  pub place : IsFoundAt op address found.held found.location

-- What a store-conditional finds at a location.
pub record IsFoundConditional (address location : ℕ) (reserved : Option ℕ) (found : Found) : Type 0 where
  pub held : found.held ≡ true → holds_word reserved address ≡ true
  pub place : ((found.location ≡ None) × (found.held ≡ false)) ⊎ (found.location ≡ Some location)

-- Of a store-conditional the access that has reserved its word; and the last one that has reserved, behind an access.
abbrev pub reserving_of : Kind → ℕ → Option ℕ
reserving_of Conditional reserving = Some reserving
reserving_of _ reserving = None

abbrev pub reserving_behind : Kind → ℕ → ℕ → ℕ
reserving_behind Reserving reserving index = index
reserving_behind _ reserving index = reserving

-- The access that is made.
abbrev pub IsMade : Op → Found → Option Written → ℕ → ℕ → Option Access → Type 0
IsMade op found write step reserving None = found.location ≡ None
IsMade op found write step reserving (Some access) = (found.location ≡ Some access.location)
    × (access.reads ≡ number_read (kind_of op) found.number) × (access.writes ≡ datum_of write)
    × (access.step ≡ step) × (access.reserved_by ≡ reserving_of (kind_of op) reserving)

abbrev pub those_made : Option Access → List Access
those_made None = []
those_made (Some access) = access ∷ []

-- The instruction has this effect, where it finds that.
abbrev pub effect_in : Op → List ℕ → Found → Effect
effect_in op registers found = effect_of op (computed_by op registers) found.number found.held

-- A hart has executed an instruction of a litmus test, which has found that: it did what the definitions say then.
pub record HasExecuted (instruction : Instr) (found : Found) (before after : Hart) : Type 0 where
  pub access : Option Access
  pub made : IsMade (Known instruction) found (effect_in (Known instruction) before.registers found).write before.next
      before.reserving access
  pub accesses : after.accesses.items ≡ before.accesses.items ++ those_made access
  pub registers : (r : ℕ) → r < 32 → slice_index after.registers r
      ≡ register_written (destination (Known instruction))
      (effect_in (Known instruction) before.registers found).value r (slice_index before.registers r)
  pub reserved : after.reserved ≡ reservation_after (Known instruction)
      (computed_by (Known instruction) before.registers).addr
      (effect_in (Known instruction) before.registers found) true before.reserved
  pub reserving : after.reserving
      ≡ reserving_behind (kind_of (Known instruction)) before.reserving (length before.accesses.items)
  pub straight : is_straight instruction ≡ true
  pub next : after.next ≡ min (before.next + 1) (2 ^ 64 - 1)

-- The step behind a branch.
abbrev pub behind_branch : BranchOp → ℕ → ℕ → ℕ → ℕ → ℕ
behind_branch op left right target next =
    if is_taken op left right then target else min (next + 1) (2 ^ 64 - 1)

-- A hart has gone on to this step without an access.
pub record HasGoneOn (place : ℕ) (before after : Hart) : Type 0 where
  pub accesses : after.accesses.items ≡ before.accesses.items
  pub reserved : after.reserved ≡ before.reserved
  pub reserving : after.reserving ≡ before.reserving
  pub next : after.next ≡ place

-- A hart has made a step, in which it has found that.
abbrev pub HasTaken : LitmusStep → Found → Hart → Hart → Type 0
HasTaken (Straight instruction) found before after = HasExecuted instruction found before after
HasTaken (Constant register value) found before after =
    ((r : ℕ) → r < 32 → slice_index after.registers r
    ≡ register_written register (Some value) r (slice_index before.registers r))
    × HasGoneOn (min (before.next + 1) (2 ^ 64 - 1)) before after
HasTaken (Branch op left right target) found before after = (after.registers ≡ before.registers)
    × HasGoneOn
    (behind_branch op (slice_index before.registers left) (slice_index before.registers right) target before.next)
    before after
HasTaken (Fence fence) found before after = HasExecuted instr.Fence found before after
