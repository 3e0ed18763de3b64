-- How many states a search has found, and how many one that leaves a reduction out. (This project's own choice.)
use Rattle.std.specs.Prelude.{ℕ, List, [], ◌∷◌, ◌++◌, codes, Option, Some, None}
use Rattle.std.specs.{Fmt.decimal}
use Rattle.searches.specs.declared.extent.Extent.{Extent}
use Rattle.searches.specs.declared.extent.Extent.TheVariants.{Beyond}
use Rattle.outcomes.specs.{Found.Found}
use Rattle.reductions.specs.{Names.name_of, declared.reduction.Reduction.Reduction}
use Rattle.reductions.specs.declared.reduction.Reduction.TheVariants.{Conditional, Jumps}
use Rattle.outcome_text.specs.declared.how.{StateCount.StateCount, How.How}
use Rattle.outcome_text.specs.declared.how.StateCount.TheVariants.{Exactly, MoreThan}

-- So many states a search has that was to look at no more than the budget: those that it found, where there aren't more.
abbrev pub count_with : ℕ → ℕ → Extent → StateCount
count_with budget states Beyond = MoreThan budget
count_with budget states extent = Exactly states

abbrev pub count_of : ℕ → Found → StateCount
count_of budget found = count_with budget found.states found.extent

-- The words of a number of states.
unfoldable pub count_words : StateCount → List ℕ
count_words (Exactly states) = decimal states
count_words (MoreThan budget) = codes "more than " ++ decimal budget

-- Behind it, with the reduction's name, that of a search which leaves a reduction out, where there is one.
unfoldable pub lead_text : Reduction → List ℕ
lead_text reduction = codes ", without " ++ (name_of reduction ++ 32 ∷ [])

abbrev pub without_text : Reduction → Option StateCount → List ℕ
without_text reduction None = []
without_text reduction (Some count) = lead_text reduction ++ count_words count

-- The line; nothing where it isn't asked for.
unfoldable pub how_line : How → List ℕ
how_line how = codes "how " ++ (count_words how.states ++ (codes " states"
    ++ (without_text Conditional how.conditional ++ (without_text Jumps how.jumps ++ 10 ∷ []))))

abbrev pub how_text : Option How → List ℕ
how_text None = []
how_text (Some how) = how_line how
