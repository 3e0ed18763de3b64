-- What a search comes to, by its extent.
use Rattle.std.proofs.Common.{◌≡◌, ℕ, ◌^◌, ◌<◌, ◌≤◌, length, slice_get, Option, Some, Contains, refl}
use Rattle.searches.specs.declared.step.Step.{Step}
use Rattle.searches.specs.declared.extent.Extent.{Extent}
use Rattle.searches.specs.declared.extent.Extent.TheVariants.{Whole, Beyond, First}
use Rattle.searches.specs.Found.{Found, IsExplored, IsToldFor}
use Rattle.searches.specs.Sweeps.{AreTraced, IsEndedFor, IsSweptAs}
use Rattle.searches.specs.Tied.{IsTied}
use Rattle.searches.proofs.Places.{place_of}
use Rattle.searches.proofs.Walking.{exceeded}
use Rattle.searches.proofs.Finding.{is_graph, is_tied}
use Rattle.searches.proofs.Tracing.{is_part, tied_part}

module _ {S W : Type 0} (Knows : S → Type 0) (Steps : S → ℕ → Option (Step S W) → Type 0) (Meets : S → Type 0)
    (budget : ℕ) (found : Found S W) where
  -- It ended early.
  pub ended_early : AreTraced Knows Steps found → (extent : Extent) → IsEndedFor Meets budget found extent
      → IsSweptAs Knows Steps Meets budget found extent
  ended_early traced Whole is = absurd is
  ended_early traced Beyond is = (traced, is)
  ended_early traced First is = (traced, is)

  pub tied : length found.states ≤ 2 ^ 32 → (extent : Extent) → IsSweptAs Knows Steps Meets budget found extent
      → IsTied found.harts found.states found.origins found.edges found.ends
  tied few Whole is = is_tied Knows Steps (length found.states) found is.0 refl few
  tied few Beyond is = tied_part Knows Steps found is.0 few
  tied few First is = tied_part Knows Steps found is.0 few

  pub known : (extent : Extent) → IsSweptAs Knows Steps Meets budget found extent → (s : S) → Contains found.states s
      → Knows s
  known Whole is s there = let k = place_of found.states s there in is.0.listed.known k.0 s k.1
  known Beyond is s there = let k = place_of found.states s there in is.0.tree.known k.0 s k.1
  known First is s there = let k = place_of found.states s there in is.0.tree.known k.0 s k.1

  pub told : (extent : Extent) → IsSweptAs Knows Steps Meets budget found extent → IsToldFor Meets found extent
  told Whole is = tt
  told Beyond is = tt
  told First is = is.1

  pub explored : (start : S) → slice_get found.states 0 ≡ Some start → (harts : ℕ) → found.harts ≡ harts
      → (extent : Extent) → IsSweptAs Knows Steps Meets budget found extent
      → IsExplored Steps harts start budget found extent
  explored start first harts same Whole is = (
    is_graph Knows Steps (length found.states) found is.0 refl start first harts same,
    is.0.listed.different,
    is.1,
  )
  explored start first harts same Beyond is = (
    is_part Knows Steps found is.0 start first harts same,
    exceeded Knows Steps found is.0.tree start first budget is.1,
  )
  explored start first harts same First is = is_part Knows Steps found is.0 start first harts same
