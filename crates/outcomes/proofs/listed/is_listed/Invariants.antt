use Rattle.std.proofs.Common.{ℕ, ◌<◌, ◌≢◌, slice_index_or}
use Rattle.outcomes.specs.declared.listed.Listed.{Listed}
use Rattle.outcomes.proofs.listed.is_listed.Given as goal

-- those before this one have another outcome
abbrev pub invariant-loop-index : goal.invariant-loop-index
invariant-loop-index l = (k : ℕ) (d : Listed) → k < l.index → (slice_index_or l.listed k d).outcome ≢ l.outcome
