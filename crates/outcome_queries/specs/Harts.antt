-- The harts that terms name.
use Rattle.std.specs.Prelude.{◌≡◌, ◌<◌, ℕ, nat_lt, if◌then◌else◌, List, [], ◌∷◌, Option, Some, None}
use Rattle.std.specs.Option.{option_or}
use Rattle.outcome_queries.specs.declared.term.{Term.Term, Harts.Harts}
use Rattle.outcome_queries.specs.declared.term.Harts.TheVariants.{One, Each}
use Rattle.outcome_queries.specs.declared.term.Term.TheVariants as terms
use Rattle.outcome_queries.specs.declared.watched.Watched.{Watched}
use Rattle.outcome_queries.specs.declared.watched.Watched.TheVariants as watched

-- The hart of a register; none of a place in memory.
abbrev pub hart_watched : Watched → Option ℕ
hart_watched (watched.Register hart register) = Some hart
hart_watched (watched.Bytes bytes) = None

-- The hart that a term names; none where it speaks of each, of a place in memory or of what was put out.
abbrev pub hart_of : Harts → Option ℕ
hart_of (One hart) = Some hart
hart_of Each = None

abbrev pub hart_named : Term → Option ℕ
hart_named (terms.Ended harts relation number) = hart_of harts
hart_named (terms.Stopped harts relation cause) = hart_of harts
hart_named (terms.Holds asked relation value) = hart_watched asked.watched
hart_named (terms.Put digits relation) = None

-- The hart, unless it is one of so many.
abbrev pub unless_there : ℕ → Option ℕ → Option ℕ
unless_there harts None = None
unless_there harts (Some hart) = if nat_lt hart harts then None else Some hart

-- The first hart that the terms name and that isn't one of so many.
abbrev pub absent_hart : ℕ → List Term → Option ℕ
absent_hart harts [] = None
absent_hart harts (term ∷ others) = option_or (unless_there harts (hart_named term)) (absent_hart harts others)

-- The hart that a term names, if any, is one of so many.
abbrev pub IsHartThere : ℕ → Term → Type 0
IsHartThere harts term = (hart : ℕ) → hart_named term ≡ Some hart → hart < harts
