use Rattle.std.proofs.Common.{ℕ, List, subst}
use Rattle.program_ways.specs.Keeping.{IsGathered}
use Rattle.program_ways.proofs.gathering.program_ways.Goals as goal

pub told-requires-clause-gathered : goal.told-requires-clause-gathered
told-requires-clause-gathered c =
    subst (λ (xs : List ℕ). IsGathered c.in_ok-program.program xs c.in_ok-gathered.gathered) c.as_slice.ensures.value
    c.in_ok-gathered.ensures
