use Rattle.core_commands.proofs.OfStress.{told_behind}
use Rattle.core_commands.proofs.stress.report_runs.Goals as goal

pub returns-in-Ok-clause-printed : goal.returns-in-Ok-clause-printed
returns-in-Ok-clause-printed g c =
    told_behind c.args.all.now.items c.as_slice.result.now c.columns_of-columns.result.registers.items
    c.columns_of-columns.result.words.items c.args.watch.now c.args.question.now c.args.count c.args.tally.now
    (g.W.Write.contents c.args.out.now) (g.W.Write.contents c.report_tally.new.out)
    (g.W.Write.contents c.report_asked.new.out) c.report_asked.result c.as_slice.ensures.value
    c.columns_of-columns.ensures.registers c.columns_of-columns.ensures.words c.in-Ok.ensures
    c.report_asked.ensures.printed
