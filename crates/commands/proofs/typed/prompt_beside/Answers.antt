use Rattle.symbols.specs.Tables.{table_of}
use Rattle.address_labels.specs.Labels.{marks_of}
use Rattle.commands.specs.Commands.{origins_in}
use Rattle.commands.proofs.OfCores.{prompt_ended, untraced}
use Rattle.commands.proofs.typed.prompt_beside.Goals as goal

pub returns-clause-ended : goal.returns-clause-ended
returns-clause-ended g c =
    prompt_ended g.P.Predict.predicts _ g.S.Sink.written g.S.Sink.has_failed _ _ c.args.settings.now c.args.image.now _
    (table_of c.args.names.now) (origins_in c.args.lines.now) c.of_step-wanted.result (marks_of c.labels_where.result)
    _ _ c.perform_prompt.result c.args.step.now c.of_step-wanted.ensures c.labels_where.ensures
    c.perform_prompt.ensures.ended
