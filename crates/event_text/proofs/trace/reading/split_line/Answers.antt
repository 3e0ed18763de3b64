use Rattle.event_text.proofs.LineEnds.{newline_found, newline_missing, not_one}
use Rattle.event_text.proofs.trace.reading.split_line.Goals as goal

pub returns-in_err-end-clause-cut : goal.returns-in_err-end-clause-cut
returns-in_err-end-clause-cut c =
    rw c.from_residual.ensures (newline_missing c.args.text.now c.in_err-end.ensures)

pub returns-clause-first : goal.returns-clause-first
returns-clause-first c = (newline_found c.args.text.now c.in_ok-end.end c.in_ok-end.ensures).0

pub returns-clause-ended : goal.returns-clause-ended
returns-clause-ended c =
    not_one c.args.text.now (newline_found c.args.text.now c.in_ok-end.end c.in_ok-end.ensures).1
