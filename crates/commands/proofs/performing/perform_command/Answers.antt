use Rattle.std.proofs.Common.{◌≡◌, false}
use Rattle.symbols.specs.Tables.{table_of}
use Rattle.address_labels.specs.Labels.{marks_of, marks_where}
use Rattle.command_parts.specs.Inputs.{as_read}
use Rattle.commands.specs.Commands.{origins_in}
use Rattle.commands.proofs.OfCores.{check_ended, step_performed}
use Rattle.commands.proofs.performing.perform_command.Goals as goal

pub returns-in-Run : goal.returns-in-Run
returns-in-Run g c =
    rw c.in-Run.is
    (c.perform_runs.ensures (origins_in c.args.lines.now) (as_read c.args.second)
    (rw c.in-Run.is at c.labels_for.ensures))

pub returns-in_ok-script-in-Step : goal.returns-in_ok-script-in-Step
returns-in_ok-script-in-Step g c =
    let marks : marks_of c.labels_for.result
    ≡ marks_where c.in-Step.step.names (table_of c.args.names.now) (origins_in c.args.lines.now) =
    rw c.in-Step.is at c.labels_for.ensures in
    let came = c.perform_step.ensures in
    rw c.in-Step.is
    (rw c.in_ok-script-in-Step.was
    (step_performed g.S.EndFiles.begins g.S.EndFiles.is_finished g.S.Sink.written g.S.Sink.has_failed _ _
    c.args.settings.now c.args.image.now (table_of c.args.names.now) (origins_in c.args.lines.now) _
    c.of_step-wanted.result (marks_of c.labels_for.result) _ _ c.perform_step.result c.in-Step.step
    c.of_step-wanted.ensures marks came.refused came.ended came.unwanted came.unbroken came.finished came.unreported))

pub returns-in-Outcomes : goal.returns-in-Outcomes
returns-in-Outcomes g c =
    let marks : marks_of c.labels_for.result
    ≡ marks_where false (table_of c.args.names.now) (origins_in c.args.lines.now) =
    rw c.in-Outcomes.is at c.labels_for.ensures in
    let came = c.perform_outcomes.ensures in
    rw c.in-Outcomes.is
    (record {
      refused = came.refused;
      ended = rw marks at came.ended;
      unwanted = came.unwanted;
      unbroken = came.unbroken;
      finished = came.finished;
      unreported = came.unreported;
    })
