use Rattle.core_commands.proofs.watching.see_watched.Goals as goal

pub returns-clause-refused : goal.returns-clause-refused
returns-clause-refused c = c.see_words.ensures.refused c.args.harts
