use Rattle.address_labels.specs.Labels.{marks_of}
use Rattle.report_lines.specs.Lines.{record_line}
use Rattle.rounds.proofs.Printing.{appends_unwanted}
use Rattle.rounds.proofs.turn.show.Goals as goal

pub returns-then-not-wanted : goal.returns-then-not-wanted
returns-then-not-wanted g c =
    appends_unwanted c.args.wanted (g.W.Write.contents c.args.out.now) (record_line (marks_of c.args.labels.now) c.args.record.now)
    c.if-not-wanted.true
