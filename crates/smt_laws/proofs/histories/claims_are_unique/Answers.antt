use Rattle.smt_laws.proofs.Stated.{claimed_once, flights_hold, committed_hold}
use Rattle.smt_laws.proofs.histories.claims_are_unique.Goals as goal

pub returns-clause-once : goal.returns-clause-once
returns-clause-once c = claimed_once

pub returns-clause-flights : goal.returns-clause-flights
returns-clause-flights c = flights_hold

pub returns-clause-committed : goal.returns-clause-committed
returns-clause-committed c = committed_hold
