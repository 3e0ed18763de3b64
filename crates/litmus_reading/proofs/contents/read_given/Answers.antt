use Rattle.litmus_reading.proofs.EntryRead.{given_only}
use Rattle.litmus_reading.proofs.Giving.{given_taken}
use Rattle.litmus_reading.proofs.contents.read_given.Goals as goal

pub returns-clause-taken : goal.returns-clause-taken
returns-clause-taken c =
    given_taken _ _ _ _ c.behind_type.ensures.number_type c.behind_type.ensures.behind
    c.begins_with_star.ensures c.behind_star.ensures

pub returns-clause-only : goal.returns-clause-only
returns-clause-only c = λ given rest taken no_type no_star.
    given_only c.args.words.now _ _ rest _ given c.behind_type.ensures.number_type c.behind_type.ensures.behind
    c.begins_with_star.ensures c.behind_star.ensures taken no_type no_star
