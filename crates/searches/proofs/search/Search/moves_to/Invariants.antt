use Rattle.std.proofs.Common.{◌≡◌, ◌<◌, ◌++◌, length, reverse}
use Rattle.searches.specs.Found.{moves_at}
use Rattle.searches.proofs.search.Search.moves_to.Given as goal

abbrev pub invariant-loop-at : goal.invariant-loop-at
invariant-loop-at g l = record {
  inside : l.at < length l.self-inside.states.keys;
  told : moves_at l.self-inside.origins.items l.fn.place
      ≡ moves_at l.self-inside.origins.items l.at ++ reverse l.moves.items;
}

abbrev pub decreases-loop-at : goal.decreases-loop-at
decreases-loop-at g l = l.at
