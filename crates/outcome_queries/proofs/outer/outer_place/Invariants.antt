use Rattle.std.proofs.Common.{◌≡◌, ◌+◌, ◌≤◌, drop, option_map}
use Rattle.outcome_queries.specs.Outer.{outer_place, place_in}
use Rattle.outcome_queries.proofs.outer.outer_place.Given as goal

-- so many bytes are passed: what is looked for stands in what follows
abbrev pub invariant-loop-index : goal.invariant-loop-index
invariant-loop-index l = record {
  place : outer_place l.wanted l.text
      ≡ option_map (λ k. l.index + k) (place_in l.inside l.wanted (drop l.index l.text));
  shallow : l.inside.depth ≤ l.index;
}
