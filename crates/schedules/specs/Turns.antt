-- The lines of a schedule. (This project's own choice: the first unit of each kind does the work,
-- and actor 0 asks for all else.)
use Rattle.std.specs.Prelude.{◌≡◌, ℕ, Bool, true, false, List, [], ◌∷◌, ◌++◌, Option, Some, None}
use Rattle.std.specs.Prelude.{flat_map, map}
use Rattle.rv_instr.specs.declared.op.UnitKind.TheVariants.{Alu, Mul, Mem}
use Rattle.events.specs.declared.role.Role.{Role}
use Rattle.smt_laws.specs.Scripts.{unit_of_kind}
use Rattle.smt_model.specs.declared.turn.Turn.{Turn}
use Rattle.scripts.specs.{declared.actions.Action.Action, declared.actions.ScriptWord.ScriptWord}
use Rattle.scripts.specs.{Lines.line_text}
use Rattle.scripts.specs.declared.actions.Action.TheVariants as action
use Rattle.schedules.specs.declared.units.Units.{Units}

-- The units are the first of each kind among these roles.
pub record AreUnits (roles : List Role) (units : Units) : Type 0 where
  pub alu : units.alu ≡ unit_of_kind roles Alu
  pub mul : units.mul ≡ unit_of_kind roles Mul
  pub mem : units.mem ≡ unit_of_kind roles Mem

abbrev pub once : Action → ScriptWord
once a = record { action = a; repeat = 1 }

abbrev pub unit_words : Option ℕ → List ScriptWord
unit_words None = []
unit_words (Some actor) = once (action.Unit actor) ∷ []

abbrev pub fetch_words : Bool → List ScriptWord
fetch_words false = []
fetch_words true = once (action.Fetch 0) ∷ []

-- A turn: an instruction of its hart goes its way, and one more is fetched, if it says so.
abbrev pub turn_words : Units → Turn → List ScriptWord
turn_words units turn =
    once (action.Decode 0 turn.hart) ∷ once (action.Rename 0 turn.hart)
    ∷ (unit_words units.alu ++ (unit_words units.mul ++ (unit_words units.mem
    ++ (once (action.Retire 0 turn.hart) ∷ fetch_words turn.fetches))))

-- A fetch for each hart.
abbrev pub first_words : ℕ → List ScriptWord
first_words harts = record { action = action.Fetch 0; repeat = harts } ∷ []

abbrev pub turn_lines : Units → List Turn → List (List ScriptWord)
turn_lines units turns = map (turn_words units) turns

abbrev pub schedule_lines : ℕ → Units → List Turn → List (List ScriptWord)
schedule_lines harts units turns = first_words harts ∷ turn_lines units turns

abbrev pub schedule_text : ℕ → Units → List Turn → List ℕ
schedule_text harts units turns = flat_map line_text (schedule_lines harts units turns)
