-- What a schedule is: a script by which a core retires in an order of harts what the plain machine
-- does in this order. An order has its first hart first; the definitions read it the other way
-- round.
use Rattle.std.specs.Prelude.{◌≡◌, ℕ, ◌+◌, ◌*◌, ◌≤◌, true, if◌then◌else◌, List, Some, length}
use Rattle.std.specs.Prelude.{reverse}
use Rattle.elf_image.specs.Image.{code_writable}
use Rattle.smt_model.specs.{Setup.Setup, Setup.is_accepted, Plain.Run, Plain.run}
use Rattle.smt_laws.specs.{Shown.Predictor, Shown.IsShown, Scripts.HasReplied}
use Rattle.smt_laws.specs.{Scripts.turns_script}
use Rattle.scripts.specs.{declared.actions.ScriptWord.ScriptWord, Script.IsScript}
use Rattle.schedules.specs.{Asks.asks_of, Asks.HasNoIssue, Ran.turns_for}

-- How many events an instruction takes at the most: six, and where the code may be written as many
-- before, for a refetch.
abbrev pub events_each : Setup → ℕ
events_each setup = if code_writable setup.image then 12 else 6

-- How many events a schedule makes at the most: those of each instruction and one for each hart.
abbrev pub room_for : Setup → ℕ → ℕ
room_for setup steps = events_each setup * steps + setup.harts

-- What a core has after the script of the order's turns shows the run in this order. The order has
-- its newest hart first.
pub record IsShownInTurns (setup : Setup) (predict : Predictor) (harts : List ℕ) (ran : Run)
    : Type 0 where
  pub shown : IsShown setup predict (events_each setup) harts ran.records
  pub replied :
      HasReplied setup predict (turns_script setup.harts setup.roles (turns_for setup harts))
      shown.past

-- The text is a script that issues by units alone, its asks are those of the order's turns, and
-- they fit into the limit. The plain machine runs the order, and whatever the predictor, what a core has
-- after these asks retires in this order what the plain machine's run leaves.
pub record IsScheduleOf (setup : Setup) (limit : ℕ) (order : List ℕ) (text : List ℕ)
    : Type 0 where
  pub accepted : is_accepted setup limit ≡ true
  pub room : room_for setup (length order) ≤ limit
  pub words : List ScriptWord
  pub is_script : IsScript text words
  pub by_units : HasNoIssue words
  pub asks :
      reverse (asks_of words)
      ≡ turns_script setup.harts setup.roles (turns_for setup (reverse order))
  pub ran : Run
  pub runs : run setup (reverse order) ≡ Some ran
  pub shown : (predict : Predictor) → IsShownInTurns setup predict (reverse order) ran
