-- The converse of the headline: every run of the plain machine is what some legal history retires.
-- So a core shows the sequentially consistent executions, all of them and no other.
use Rattle.std.specs.Prelude.{◌≡◌, ℕ, ◌+◌, ◌*◌, ◌<◌, ◌≤◌, true, false, List, [], ◌∷◌, length, map}
use Rattle.elf_image.specs.Image.{code_writable}
use Rattle.rv_instr.specs.declared.op.UnitKind.{UnitKind}
use Rattle.std.specs.Prelude.{Option, Some}
use Rattle.std.specs.List.{AllByRecursion}
use Rattle.rv_instr.specs.Registers.{op_unit, same_unit}
use Rattle.events.specs.{declared.event.Event.Event, declared.effect.Record.Record}
use Rattle.events.specs.declared.event.Event.TheVariants.{Fetch, Rename}
use Rattle.smt_model.specs.{Basics.holds_of, Setup.Setup, Setup.is_accepted, Jobs.unit_of_actor}
use Rattle.smt_model.specs.{Plain.Run, Plain.run, Picture.is_free, Rules.is_allowed}
use Rattle.smt_model.specs.{Rules.is_legal, Account.records, Account.order, Asks.Ask, Asks.answers}
use Rattle.smt_laws.specs.Execution.{op_of_record, IsExecution}

-- ---- What the rules leave open, decided

-- A predictor: the pc after an instruction, from its hart, its pc and its word.
abbrev pub Predictor : Type 0
Predictor = ℕ → ℕ → Option ℕ → ℕ

-- The register is free, and no lower one is.
abbrev pub IsLeastFree : Setup → List Event → ℕ → Type 0
IsLeastFree setup past p =
    (is_free setup past p ≡ true) × ((q : ℕ) → q < p → is_free setup past q ≡ false)

-- A fetch predicts what the predictor says, and a rename takes the least free register.
abbrev pub IsDecided : Setup → Predictor → List Event → Event → Type 0
IsDecided setup predict past (Fetch actor hart seq pc word predicted) =
    predicted ≡ predict hart pc word
IsDecided setup predict past (Rename actor seq phys) =
    (p : ℕ) → phys ≡ Some p → IsLeastFree setup past p
IsDecided setup predict past _ = Unit {0}

-- Each event of the history is so decided.
abbrev pub AreDecided : Setup → Predictor → List Event → Type 0
AreDecided setup predict [] = Unit {0}
AreDecided setup predict (e ∷ past) =
    IsDecided setup predict past e × AreDecided setup predict past

-- ---- What a core needs

-- One of the actors is a unit of the kind that executes the record's instruction.
pub record HasUnit (setup : Setup) (r : Record) : Type 0 where
  pub actor : ℕ
  pub suits :
      holds_of (λ u. same_unit u (op_unit (op_of_record r))) (unit_of_actor setup actor) ≡ true

-- To show these records a core needs a register to spare, a place in its queue, an actor, and the
-- units.
pub record CanShow (setup : Setup) (all : List Record) : Type 0 where
  pub spare : 1 ≤ setup.extra
  pub place : 1 ≤ setup.queue
  pub actors : 1 ≤ length setup.roles
  pub units : AllByRecursion (HasUnit setup) all

-- One of the actors is a unit of this kind.
pub record HasKind (setup : Setup) (kind : UnitKind) : Type 0 where
  pub actor : ℕ
  pub suits : holds_of (λ u. same_unit u kind) (unit_of_actor setup actor) ≡ true

-- There is a unit of each kind.
abbrev pub HasEachKind : Setup → Type 0
HasEachKind setup = (kind : UnitKind) → HasKind setup kind

-- ---- Laws

-- A legal history, decided as the predictor says, retires these records in this order of harts,
-- both with the newest first. It has at most `each` events for each instruction and one for each
-- hart.
pub record IsShown (setup : Setup) (predict : Predictor) (each : ℕ) (harts : List ℕ)
    (all : List Record) : Type 0 where
  pub past : List Event
  pub legal : is_legal setup past
  pub decided : AreDecided setup predict past
  pub short : length past ≤ each * length harts + setup.harts
  pub in_order : order past ≡ harts
  pub retired : records past ≡ all

-- Every run of the plain machine can be shown in six events each, whatever the predictor, by a core
-- that has what the run needs, where the code may not be written.
abbrev pub EachRunIsShown : Type 0
EachRunIsShown = (setup : Setup) (predict : Predictor) (harts : List ℕ) (ran : Run)
    → code_writable setup.image ≡ false → run setup harts ≡ Some ran
    → CanShow setup ran.records → IsShown setup predict 6 harts ran.records

-- Every execution, given by its records alone, can be shown so.
abbrev pub EachExecutionIsShown : Type 0
EachExecutionIsShown = (setup : Setup) (predict : Predictor) (all : List Record)
    → code_writable setup.image ≡ false → IsExecution setup all
    → CanShow setup all → IsShown setup predict 6 (map (λ r. r.hart) all) all

-- Whether or not the code may be written, it can be shown in twelve events each by a core that has
-- a unit of each kind: what a hart had on its way may be refetched before.
abbrev pub EachRunIsShownInTwelve : Type 0
EachRunIsShownInTwelve = (setup : Setup) (predict : Predictor) (harts : List ℕ) (ran : Run)
    → HasEachKind setup → run setup harts ≡ Some ran
    → CanShow setup ran.records → IsShown setup predict 12 harts ran.records

-- Six events an instruction are the least.
abbrev pub TakesSixEach : Type 0
TakesSixEach = (setup : Setup) (past : List Event) → is_legal setup past
    → 6 * length (order past) ≤ length past

-- The units are needed: what a legal history retires has one for each record.
abbrev pub NeedsItsUnits : Type 0
NeedsItsUnits = (setup : Setup) (past : List Event) → is_legal setup past
    → AllByRecursion (HasUnit setup) (records past)

-- Every core that is accepted has all else.
abbrev pub AcceptedCoresCanShow : Type 0
AcceptedCoresCanShow = (setup : Setup) (limit : ℕ) → is_accepted setup limit ≡ true
    → (all : List Record) → AllByRecursion (HasUnit setup) all → CanShow setup all

-- Each ask has one answer: two allowed events that answer it and are decided alike are the same.
abbrev pub AsksHaveOneAnswer : Type 0
AsksHaveOneAnswer = (setup : Setup) (predict : Predictor) (past : List Event) → is_legal setup past
    → (ask : Ask) (one two : Event)
    → is_allowed setup past one → answers ask past one ≡ true → IsDecided setup predict past one
    → is_allowed setup past two → answers ask past two ≡ true → IsDecided setup predict past two
    → one ≡ two
