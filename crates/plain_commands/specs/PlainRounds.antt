-- The command `plain` with `--rounds`: harts that take turns on the plain machine. (This project's own
-- choice.)
use Rattle.std.specs.Prelude.{◌≡◌, ℕ, max, Bool, true, false, List, Option, Some, None, option_map}
use Rattle.std.specs.Prelude.{unwrap_or}
use Rattle.std.specs.Io.KnownBytes.{Appends}
use Rattle.elf_image.specs.Image.{ProgramImage}
use Rattle.smt_model.specs.Plain.{Run}
use Rattle.sc_machine.specs.Steps.{are_harts}
use Rattle.core_state.specs.Setup.{setup_of}
use Rattle.rounds.specs.declared.{rules.Rounds.Rounds, running.RoundsRun.RoundsRun}
use Rattle.rounds.specs.declared.stopped.RoundsStopped.{RoundsStopped}
use Rattle.rounds.specs.declared.stopped.RoundsStopped.TheVariants as stopped
use Rattle.rounds.specs.{Turns.Turn, Rounds.AreRounds}
use Rattle.sim_inputs.specs.declared.{line.PlainCommand.PlainCommand, settings.Settings.Settings}
use Rattle.address_labels.specs.Labels.{Marks}
use Rattle.report_lines.specs.Lines.{plain_report_text, status_number}
use Rattle.command_parts.specs.declared.refused.Refused.{Refused}
use Rattle.command_parts.specs.declared.refused.Refused.TheVariants.{Config, Memory, Output}
use Rattle.plain_commands.specs.Plain.{plain_text, standing}

-- The rounds that a command asks for: turns of one instruction at least, and 10^18 steps at most where
-- it says no other number. None where it names an order.
abbrev pub rounds_of : PlainCommand → Option Rounds
rounds_of plain = option_map
    (λ each. record {
      each = max each 1;
      steps = unwrap_or plain.steps 1000000000000000000;
      seed = plain.seed;
    }) plain.rounds

-- What is owed in rounds, where there are some, and what is owed else.
abbrev pub InRounds : Option Rounds → (Rounds → Type 0) → Type 0 → Type 0
InRounds (Some rounds) P Q = P rounds
InRounds None P Q = Q

-- What is refused where rounds are.
abbrev pub rounds_refusal : RoundsStopped → Refused
rounds_refusal stopped.Harts = Config
rounds_refusal stopped.Memory = Memory
rounds_refusal stopped.Output = Output

-- When each refusal comes: the number of harts is looked at first. The output is refused only behind
-- it. Of memory nothing is said.
abbrev pub IsRoundsRefusal : Settings → Refused → Type 0
IsRoundsRefusal settings Config = are_harts settings.config.harts ≡ false
IsRoundsRefusal settings Memory = Unit {0}
IsRoundsRefusal settings Output = are_harts settings.config.harts ≡ true
IsRoundsRefusal settings _ = ⊥

-- The report of what rounds have left is printed; the exit status is that of its harts.
pub record IsReported (left : RoundsRun) (old new : Option (List ℕ)) (exit_status : ℕ) : Type 0 where
  pub printed : Appends old new
      (plain_report_text left.retired left.statuses.items left.machine.output)
  pub stands : exit_status ≡ status_number left.statuses.items

-- What the command comes to. The machine has so many harts, and there are rounds of the definitions'
-- machine, of this image and these settings' harts. What was printed is what is printed of their run;
-- the exit status is that of its harts.
pub record RoundsComeTo (settings : Settings) (image : ProgramImage) (rounds : Rounds)
    (with_records : Bool) (marks : Marks) (old new : Option (List ℕ)) (exit_status : ℕ) : Type 0 where
  pub accepted : are_harts settings.config.harts ≡ true
  pub turns : List Turn
  pub ran : Run
  pub are : AreRounds (setup_of image settings.config) rounds turns ran
  pub printed : Appends old new (plain_text with_records marks settings.config.harts ran)
  pub stands : exit_status ≡ status_number (standing settings.config.harts ran)
