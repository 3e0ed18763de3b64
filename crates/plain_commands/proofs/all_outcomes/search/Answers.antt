use Rattle.std.proofs.Common.{inl}
use Rattle.plain_commands.proofs.all_outcomes.search.Goals as goal

pub returns-in-Err-clause-refused : goal.returns-in-Err-clause-refused
returns-in-Err-clause-refused g c =
    inl (c.search_refusal.ensures c.args.image.now c.args.settings.now.config.harts c.in-Err.ensures.refused)
