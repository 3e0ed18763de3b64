-- What callers see of the outcomes that a search has found.
use Rattle.std.specs.Prelude.{ℕ, ◌<◌, ◌≤◌, List, ◌∷◌, ◌++◌, Contains, map, flat_map, length}
use Rattle.std.specs.Prelude.{option_map, slice_get, IfSome, Option}
use Rattle.numbers.specs.Sizes.{most_harts}
use Rattle.searches.specs.declared.{moves.Move.Move, origin.Origin.Origin}
use Rattle.searches.specs.Found.{moves_at}
use Rattle.condensed_machine.specs.Steps.{turns, local_steps}
use Rattle.condensed_machine.specs.declared.way.Way.{Way}
use Rattle.outcomes.specs.declared.listed.Listed.{Listed}
use Rattle.outcomes.specs.declared.outcomes.Outcomes.TheInside.{Inside}
use Rattle.outcomes.specs.{Found.Told, Found.Found}
use Rattle.watched_outcomes.specs.{Endings.Ending}

-- The order of harts that moves come to: each hart's step, and the local ones behind it, its own and those of others.
abbrev pub moved : List (List ℕ) → ℕ → List (Move Way) → List ℕ
moved rows harts moves = flat_map (λ m. m.hart ∷ local_steps rows harts m.hart m.way) moves

-- The order by which the state at a place was found: the local steps of each hart in turn, and then the
-- moves that lead there.
abbrev pub order_at : List (List ℕ) → List ℕ → ℕ → List (Origin Way) → ℕ → List ℕ
order_at rows ways harts origins place = turns ways harts ++ moved rows harts (moves_at origins place)

abbrev pub told_of : List (List ℕ) → List ℕ → ℕ → List (Origin Way) → Listed → Told
told_of rows ways harts origins l = record {
  ending = l.outcome;
  order = order_at rows ways harts origins l.place;
}

abbrev pub found_of : Inside → Found
found_of a = record {
  extent = a.extent;
  listed = map (told_of a.rows a.ways a.harts a.search.origins) a.listed.items;
  states = length a.search.states;
  stuck = option_map (order_at a.rows a.ways a.harts a.search.origins) a.stuck;
  unwritten = a.unwritten.items;
}

-- The states are there, of which it tells.
pub record IsInside (a : Inside) : Type 0 where
  pub harts : a.harts ≤ most_harts
  pub places : (l : Listed) → Contains a.listed.items l → l.place < length a.search.states
  pub stuck : IfSome a.stuck (λ place. place < length a.search.states)

abbrev pub ending_listed : List Told → ℕ → Option Ending
ending_listed listed index = option_map (λ (t : Told). t.ending) (slice_get listed index)

abbrev pub order_listed : List Told → ℕ → Option (List ℕ)
order_listed listed index = option_map (λ (t : Told). t.order) (slice_get listed index)
