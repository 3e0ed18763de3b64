-- Where each pass was told right, its count is its actor's.
use Rattle.std.proofs.Common.{◌≡◌, ◌∙◌, ℕ, List, refl, sym, ap, map}
use Rattle.std.specs.Prelude.{Option, Some, None, slice_get}
use Rattle.std.specs.Option.{option_map}
use Rattle.std.proofs.lemmas.Option.{none-some, same_Some, slice_get-map}
use Rattle.events.specs.declared.event.Event.{Event}
use Rattle.smt_model.specs.Account.{event_count}
use Rattle.core_lock.specs.Passes.{IsTold}
use Rattle.smt_core.specs.Counts.{AreCounts}

found : {X : Type 0} (count : X → ℕ) (o : Option X) (n : ℕ) → option_map count o ≡ Some n
    → (p : X) × (o ≡ Some p) × (count p ≡ n)
found count None n is = absurd (none-some n is)
found count (Some p) n is = (p, refl, same_Some (count p) n is)

pub told_counts : {X : Type 0} (actor count : X → ℕ) (last : X → Option Event) (past : List Event) (passes : List X)
    (counts : List ℕ) → counts ≡ map count passes
    → ((k : ℕ) (p : X) → slice_get passes k ≡ Some p → (actor p ≡ k) × IsTold past (actor p) (count p) (last p))
    → AreCounts past counts
told_counts actor count last past passes counts are told k n at =
    let here =
    found count (slice_get passes k) n (sym (slice_get-map count passes k) ∙ ap (λ c. slice_get c k) (sym are) ∙ at) in
    let its = told k here.0 here.1 in
    sym here.2 ∙ its.1.counts ∙ ap (λ j. event_count j past) its.0
