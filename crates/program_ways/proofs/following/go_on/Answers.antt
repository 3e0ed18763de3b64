use Rattle.std.proofs.Common.{◌∙◌}
use Rattle.program_ways.proofs.following.go_on.Goals as goal

pub list-requires-clause-way : goal.list-requires-clause-way
list-requires-clause-way c =
    record { way = c.in_ok-reached.ensures.way; same = c.go_on.ensures.index ∙ c.requires.from.same }

pub share-requires-clause-way : goal.share-requires-clause-way
share-requires-clause-way c =
    record { way = c.in_ok-reached.ensures.way; same = c.go_on.ensures.index ∙ c.requires.from.same }
