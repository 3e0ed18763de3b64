-- Rounds of the plain machine: the turns that harts take until none goes or all steps are made.
use Rattle.std.specs.Prelude.{◌≡◌, ◌⊎◌, ℕ, ◌<◌, ◌≤◌, Bool, false, List, [], ◌∷◌, Option, Some}
use Rattle.std.specs.Prelude.{length, map, reverse}
use Rattle.std.specs.Io.KnownBytes.{Appends}
use Rattle.smt_model.specs.{Basics.below, Setup.Setup, Plain.Run, Plain.run}
use Rattle.smt_model.specs.{Plain.is_going_status}
use Rattle.sc_machine.specs.Machine.{Agrees}
use Rattle.address_labels.specs.Labels.{Marks}
use Rattle.report_lines.specs.Lines.{records_text}
use Rattle.rounds.specs.declared.{rules.Rounds.Rounds, running.RoundsRun.RoundsRun}
use Rattle.rounds.specs.Turns.{Turn, order_of, going, whose}

-- It is a turn behind these: of the hart whose turn comes as the machine stands then. The hart makes
-- its instructions, one at least; less than all of its turn only where it doesn't go any more, or all
-- steps are made.
pub record IsTurn (setup : Setup) (rounds : Rounds) (turn : Turn) (earlier : List Turn) : Type 0 where
  pub before : Run
  pub stood : run setup (order_of earlier) ≡ Some before
  pub next : whose rounds.seed earlier (going setup before.state) ≡ Some turn.hart
  pub after : Run
  pub stands : run setup (order_of (turn ∷ earlier)) ≡ Some after
  pub some : 0 < turn.made
  pub most : turn.made ≤ rounds.each
  pub whole : turn.made < rounds.each
      → (is_going_status (after.state.statuses turn.hart) ≡ false)
      ⊎ (length after.records ≡ rounds.steps)

abbrev pub AreTurns : Setup → Rounds → List Turn → Type 0
AreTurns setup rounds [] = Unit {0}
AreTurns setup rounds (turn ∷ earlier) =
    IsTurn setup rounds turn earlier × AreTurns setup rounds earlier

-- The turns, newest first, are all that there are, and their run is this one: it has no more steps
-- than may be made, and no turn comes behind them, since no hart goes or all steps are made.
pub record AreRounds (setup : Setup) (rounds : Rounds) (turns : List Turn) (ran : Run) : Type 0 where
  pub each : AreTurns setup rounds turns
  pub runs : run setup (order_of turns) ≡ Some ran
  pub within : length ran.records ≤ rounds.steps
  pub ended : (going setup ran.state ≡ []) ⊎ (length ran.records ≡ rounds.steps)

-- What a run in rounds leaves: there are rounds. The steps are counted; the harts stand as their run
-- leaves them, and the machine agrees with it; the lines of its records were printed, where they are
-- wanted, with what is wanted beside them.
pub record HasLeft (setup : Setup) (rounds : Rounds) (wanted : Bool) (marks : Marks) (old new : Option (List ℕ))
    (left : RoundsRun) : Type 0 where
  pub turns : List Turn
  pub ran : Run
  pub are : AreRounds setup rounds turns ran
  pub retired : left.retired ≡ length ran.records
  pub statuses : left.statuses.items ≡ map ran.state.statuses (below setup.harts)
  pub agrees : Agrees setup ran.state left.machine
  pub printed : Appends old new (records_text wanted marks (reverse ran.records))
