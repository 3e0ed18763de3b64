-- What a hart has on its way is a path through its program: from where it has retired to, each
-- instruction leads to the next.
use Rattle.std.specs.Prelude.{◌≡◌, ℕ, true, List, [], ◌∷◌, Option, Some, None}
use Rattle.events.specs.{declared.effect.Outcome.Outcome, declared.event.Event.Event}
use Rattle.smt_model.specs.{Setup.Setup, Nexts.pc_after, Fates.Fetched, Fates.fetching}
use Rattle.smt_model.specs.{Fates.completion, Flights.live, Memory.is_going, Fetching.fetch_pc}
use Rattle.smt_model.specs.{Rules.is_legal}
use Rattle.smt_laws.specs.Sequential.{retired_pc}

-- An instruction's pc, and where it leads.
pub record Hop : Type 0 where
  pub pc : ℕ
  pub next : ℕ

-- It leads where its completion says; to where it was predicted, as long as it hasn't completed or
-- where it ends or stops.
abbrev pub following_pc : Option Outcome → ℕ → ℕ
following_pc None predicted = predicted
following_pc (Some o) predicted = pc_after o.next predicted

abbrev pub hop_of : Option Fetched → Option Outcome → Option Hop
hop_of None said = None
hop_of (Some f) said = Some (record { pc = f.pc; next = following_pc said f.predicted })

abbrev pub hop : List Event → ℕ → Option Hop
hop past s = hop_of (fetching past s) (completion past s)

-- From a pc by this hop to where the rest goes on.
abbrev pub Leads : Option Hop → ℕ → (ℕ → Type 0) → Type 0
Leads None from rest = ⊥
Leads (Some one) from rest = (one.pc ≡ from) × rest one.next

-- The instructions lead from a pc to another, each to the next.
abbrev pub IsChain : (ℕ → Option Hop) → List ℕ → ℕ → ℕ → Type 0
IsChain hops [] from end = from ≡ end
IsChain hops (s ∷ rest) from end = Leads (hops s) from (λ next. IsChain hops rest next end)

-- In every legal history, what a hart that goes has on its way leads from where it has retired to,
-- to where it fetches next.
abbrev pub FollowsTheProgram : Type 0
FollowsTheProgram = (setup : Setup) (past : List Event) → is_legal setup past → (h : ℕ)
    → is_going past h ≡ true
    → IsChain (hop past) (live past h) (retired_pc setup past h) (fetch_pc setup past h)
