-- What is claimed of what a search has found, be it all outcomes or some.
use Rattle.std.specs.Prelude.{◌≡◌, ℕ, Contains}
use Rattle.elf_image.specs.Image.{ProgramImage}
use Rattle.searches.specs.declared.extent.Extent.TheVariants.{Whole, Beyond, First}
use Rattle.watched_outcomes.specs.{declared.watch.Watch.Watch, Endings.Ending}
use Rattle.outcomes.specs.Found.{Told, Found, InEachSetup, IsSound, IsExactList, CoversCores}
use Rattle.outcomes.specs.{Reached.ReachesMany, Refusals.IsBeyond}

-- Each outcome that is listed has its order, whatever the extent. Where the search was whole, these are all, of the
-- program and of every core that runs it, and so it is with what is stuck and unwritten; nothing of that is claimed of a
-- part. Orders lead to as many states as it tells, each another one; and to more than the budget where it is called too
-- large a search.
pub record IsListing (image : ProgramImage) (harts : ℕ) (watch : Watch) (budget : ℕ) (found : Found) : Type 0 where
  pub sound : InEachSetup image harts (λ setup. IsSound setup watch found)
  pub all : found.extent ≡ Whole → InEachSetup image harts (λ setup. IsExactList setup watch found)
  pub cores : found.extent ≡ Whole → InEachSetup image harts (λ setup. CoversCores setup watch found)
  pub count : InEachSetup image harts (λ setup. ReachesMany setup found.states)
  pub beyond : found.extent ≡ Beyond → IsBeyond image harts budget

-- Where the search has ended with a first outcome, one is listed that is asked for.
abbrev pub IsAskedFor : (Ending → Type 0) → Found → Type 0
IsAskedFor Asks found =
    found.extent ≡ First → (t : Told) × Contains found.listed t × Asks t.ending
