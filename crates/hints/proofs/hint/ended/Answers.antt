use Rattle.hints.proofs.Together.{ended_line, ended_once}
use Rattle.hints.proofs.hint.ended.Goals as goal

pub returns-clause-line : goal.returns-clause-line
returns-clause-line c = rw (c.in_ok-extend_from_slice.ensures.items) (ended_line c.args.text.items c.requires)

pub returns-clause-one : goal.returns-clause-one
returns-clause-one c = rw (c.in_ok-extend_from_slice.ensures.items) (ended_once c.args.text.items c.requires)
