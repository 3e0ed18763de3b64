use Rattle.std.proofs.Common.{◌∙◌, sym}
use Rattle.searches.proofs.Places.{contains_at}
use Rattle.outcomes.proofs.unwritten.is_zero_at.Goals as goal

pub number-requires-clause-known : goal.number-requires-clause-known
number-requires-clause-known c =
    c.requires.known c.in-Some.state
    (contains_at c.args.search.now.states c.args.place c.in-Some.state (sym c.state.ensures ∙ c.in-Some.is))
