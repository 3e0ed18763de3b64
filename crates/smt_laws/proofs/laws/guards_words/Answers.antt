use Rattle.smt_laws.proofs.PlainLaws.{stores_where_held, ends_reservations}
use Rattle.smt_laws.proofs.laws.guards_words.Goals as goal

pub returns-clause-stores : goal.returns-clause-stores
returns-clause-stores c = stores_where_held

pub returns-clause-ends : goal.returns-clause-ends
returns-clause-ends c = ends_reservations
