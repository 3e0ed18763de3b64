-- What conditions are made of, as they are read.
use Rattle.std.specs.Prelude.{◌≡◌, ℕ, true, List, [], ◌∷◌, ◌++◌}
use Rattle.outcome_queries.specs.declared.term.Term.{Term}
use Rattle.outcome_queries.specs.declared.condition.Joint.{Joint}
use Rattle.outcome_queries.specs.declared.condition.Condition.{Condition, Holds, Not', Grouped', Joined'}
use Rattle.outcome_queries.specs.declared.parsing.Alone.{Alone}
use Rattle.outcome_queries.specs.declared.parsing.Alone.TheVariants as alone
use Rattle.outcome_queries.specs.Conditions.{begins_term, IsUnclosed}

-- What stands alone, without white space around it: a term, what is denied, what stands in parentheses, or what isn't
-- closed.
abbrev pub IsAlone : List ℕ → Alone → Type 0
IsAlone text alone.Term = begins_term text ≡ true
IsAlone text (alone.Denied rest) = text ≡ 33 ∷ rest.now
IsAlone text (alone.Grouped rest) = text ≡ 40 ∷ (rest.now ++ 41 ∷ [])
IsAlone text alone.Unclosed = IsUnclosed text

-- The same of what stands behind an opening parenthesis.
abbrev pub IsBehindOpening : List ℕ → Alone → Type 0
IsBehindOpening text alone.Term = ⊥
IsBehindOpening text (alone.Denied rest) = ⊥
IsBehindOpening text (alone.Grouped rest) = text ≡ rest.now ++ 41 ∷ []
IsBehindOpening text alone.Unclosed = (inner : List ℕ) → text ≡ inner ++ 41 ∷ [] → ⊥

-- A condition that is made of these.
abbrev pub IsHolding : (Term → Type 0) → Condition → Type 0
IsHolding Is (Holds term) = Is term
IsHolding Is condition = ⊥

abbrev pub IsDenial : Condition → Condition → Type 0
IsDenial inner (Not' p condition) = condition ≡ inner
IsDenial inner condition = ⊥

abbrev pub IsGroup : Condition → Condition → Type 0
IsGroup inner (Grouped' p condition) = condition ≡ inner
IsGroup inner condition = ⊥

abbrev pub IsJoining : Joint → Condition → Condition → Condition → Type 0
IsJoining joint first others (Joined' j p a q b) = (j ≡ joint) × (a ≡ first) × (b ≡ others)
IsJoining joint first others condition = ⊥
