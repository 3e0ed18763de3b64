-- When an order of harts has no schedule.
use Rattle.std.specs.Prelude.{◌≡◌, ℕ, ◌<◌, true, false, List, ◌∷◌, ◌++◌, Some, None, is_some}
use Rattle.std.specs.Prelude.{All, Bool, Option, if◌then◌else◌, length, reverse}
use Rattle.elf_image.specs.Image.{ProgramImage, code_writable}
use Rattle.rv_instr.specs.{Registers.op_unit, declared.op.UnitKind.UnitKind}
use Rattle.rv_instr.specs.declared.op.UnitKind.TheVariants.{Alu, Mul, Mem}
use Rattle.events.specs.declared.effect.Record.{Record}
use Rattle.events.specs.declared.role.Role.{Role}
use Rattle.smt_model.specs.{Setup.Setup, Setup.is_accepted}
use Rattle.smt_model.specs.Plain.{Run, run}
use Rattle.smt_laws.specs.{Execution.op_of_record, Scripts.unit_of_kind}
use Rattle.sc_machine.specs.Steps.{are_harts}
use Rattle.plain_run.specs.Orders.{IsStoppedAt}
use Rattle.schedules.specs.{declared.refused.ScheduleRefused.ScheduleRefused}
use Rattle.schedules.specs.{Schedules.room_for}
use Rattle.schedules.specs.declared.refused.ScheduleRefused.TheVariants as refused

-- The kind of unit that executes a record's instruction; and that there is one.
abbrev pub unit_of_record : Record → UnitKind
unit_of_record r = op_unit (op_of_record r)

abbrev pub IsServed : List Role → Record → Type 0
IsServed roles r = is_some (unit_of_kind roles (unit_of_record r)) ≡ true

-- The first of these records for which there's no unit is for one of this kind.
pub record IsFirstUnserved (roles : List Role) (all : List Record) (kind : UnitKind)
    : Type 0 where
  pub before : List Record
  pub one : Record
  pub after : List Record
  pub parts : all ≡ before ++ one ∷ after
  pub served : All (IsServed roles) before
  pub missing : unit_of_kind roles kind ≡ None
  pub is_for : kind ≡ unit_of_record one

-- The first kind of which there is no unit.
abbrev pub missing_kind : List Role → Option UnitKind
missing_kind roles =
    if is_some (unit_of_kind roles Alu)
    then (if is_some (unit_of_kind roles Mul)
    then (if is_some (unit_of_kind roles Mem) then None else Some Mem)
    else Some Mul)
    else Some Alu

-- The units that a schedule needs: of each kind where the code may be written, as what is stale may
-- be of any, and else those of the records. They are there, or one of this kind is the first that
-- isn't.
abbrev pub HasUnits : Bool → List Role → List Record → Type 0
HasUnits true roles all = missing_kind roles ≡ None
HasUnits false roles all = All (IsServed roles) all

abbrev pub LacksUnit : Bool → List Role → List Record → UnitKind → Type 0
LacksUnit true roles all kind = missing_kind roles ≡ Some kind
LacksUnit false roles all kind = IsFirstUnserved roles all kind

-- The plain machine runs the order, and of what the run leaves, the oldest first, this holds.
pub record IsOfRun (setup : Setup) (order : List ℕ) (P : List Record → Type 0) : Type 0 where
  pub ran : Run
  pub runs : run setup (reverse order) ≡ Some ran
  pub holds : P (reverse ran.records)

-- Every unit is there, and the limit is below the room that is needed.
pub record IsTooLong (setup : Setup) (limit : ℕ) (order : List ℕ) (room : ℕ) (all : List Record)
    : Type 0 where
  pub served : HasUnits (code_writable setup.image) setup.roles all
  pub is_room : room ≡ room_for setup (length order)
  pub low : limit < room

-- When each refusal comes: the sizes are looked at first, then each step of the plain machine, the
-- units, and the limit. Of memory nothing is said.
abbrev pub IsScheduleRefusedFor : Setup → ℕ → List ℕ → ScheduleRefused → Type 0
IsScheduleRefusedFor setup limit order refused.Config = is_accepted setup limit ≡ false
IsScheduleRefusedFor setup limit order refused.Memory = Unit {0}
IsScheduleRefusedFor setup limit order (refused.Step index why) =
    (is_accepted setup limit ≡ true) × IsStoppedAt setup.image setup.harts order index why
IsScheduleRefusedFor setup limit order (refused.Unit kind) =
    (is_accepted setup limit ≡ true)
    × IsOfRun setup order (λ all. LacksUnit (code_writable setup.image) setup.roles all kind)
IsScheduleRefusedFor setup limit order (refused.Limit room) =
    (is_accepted setup limit ≡ true) × IsOfRun setup order (IsTooLong setup limit order room)

-- The part of it that the run answers.
abbrev pub IsRunRefusal : ProgramImage → ℕ → List ℕ → ScheduleRefused → Type 0
IsRunRefusal image harts order refused.Config = are_harts harts ≡ false
IsRunRefusal image harts order refused.Memory = Unit {0}
IsRunRefusal image harts order (refused.Step index why) = IsStoppedAt image harts order index why
IsRunRefusal image harts order _ = ⊥
