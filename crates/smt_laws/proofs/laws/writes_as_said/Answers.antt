use Rattle.smt_laws.proofs.PlainLaws.{writes_as_said, stops_without_writing}
use Rattle.smt_laws.proofs.laws.writes_as_said.Goals as goal

pub returns-clause-said : goal.returns-clause-said
returns-clause-said c = writes_as_said

pub returns-clause-stops : goal.returns-clause-stops
returns-clause-stops c = stops_without_writing
