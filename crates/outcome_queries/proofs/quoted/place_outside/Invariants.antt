use Rattle.std.proofs.Common.{◌≡◌, ◌+◌, false, drop, option_map}
use Rattle.outcome_queries.specs.Quoted.{place_outside}
use Rattle.outcome_queries.proofs.quoted.place_outside.Given as goal

-- so many bytes are passed: what is looked for stands in what follows
abbrev pub invariant-loop-index : goal.invariant-loop-index
invariant-loop-index l = place_outside false l.separator l.text
    ≡ option_map (λ k. l.index + k) (place_outside l.is_quoted l.separator (drop l.index l.text))
