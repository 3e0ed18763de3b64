-- Behind a migration that is refused, and one that was made.
use Rattle.commands.proofs.OfMigration.{core_sizes, migrate_refusal}
use Rattle.commands.proofs.performing.read_and_migrate.Goals as goal

pub perform_migrate-requires-clause-sizes : goal.perform_migrate-requires-clause-sizes
perform_migrate-requires-clause-sizes g c = core_sizes _ _ c.in_ok-settings.ensures.settings

pub returns-in-Err-clause-refused : goal.returns-in-Err-clause-refused
returns-in-Err-clause-refused g c =
    rw (c.in_ok-sizes.was, c.in_ok-text.was)
    (migrate_refusal _ _ _ c.in_ok-settings.ensures.settings c.in-Err.refused c.in-Err.ensures.refused)

pub returns-in-Ok-clause-ended : goal.returns-in-Ok-clause-ended
returns-in-Ok-clause-ended g c =
    rw (c.in_ok-sizes.was, c.in_ok-text.was) (_, c.in_ok-settings.ensures.settings, c.in-Ok.ensures.ended)
