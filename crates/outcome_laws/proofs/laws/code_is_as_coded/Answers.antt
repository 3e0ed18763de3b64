use Rattle.outcome_laws.proofs.Known.{starts_as_coded, holds_as_coded}
use Rattle.outcome_laws.proofs.laws.code_is_as_coded.Goals as goal

pub returns-clause-starts : goal.returns-clause-starts
returns-clause-starts c = starts_as_coded

pub returns-clause-holds : goal.returns-clause-holds
returns-clause-holds c = holds_as_coded
