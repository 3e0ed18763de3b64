use Rattle.event_text.proofs.Migrating.{first_within, newest_within}
use Rattle.event_text.proofs.laws.migration_law.Goals as goal

pub returns-clause-first : goal.returns-clause-first
returns-clause-first c = first_within

pub returns-clause-newest : goal.returns-clause-newest
returns-clause-newest c = newest_within
