-- Lists of outcomes.
use Rattle.std.specs.Prelude.{◌≡◌, ◌≢◌, ◌⊎◌, List, Contains, AllPairs}
use Rattle.watched_outcomes.specs.{Endings.Ending}
use Rattle.outcomes.specs.declared.listed.Listed.{Listed}

-- Some member of the list has this outcome.
abbrev pub HasEnding : List Listed → Ending → Type 0
HasEnding listed e = (l : Listed) × Contains listed l × (l.outcome ≡ e)

-- The list has an outcome more, where it didn't have it, and nothing else.
pub record IsPut (old : List Listed) (more : Listed) (new : List Listed) : Type 0 where
  pub keeps : (l : Listed) → Contains old l → Contains new l
  pub has : HasEnding new more.outcome
  pub only : (l : Listed) → Contains new l → Contains old l ⊎ (l ≡ more)

-- Each outcome stands in the list once.
abbrev pub AreOnce : List Listed → Type 0
AreOnce listed = AllPairs (λ (a b : Listed). a.outcome ≢ b.outcome) listed
