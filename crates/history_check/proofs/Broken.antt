-- Events of which one is refused aren't a legal history.
use Rattle.std.specs.Prelude.{◌≡◌, ℕ, ◌+◌, ◌<◌, List, [], ◌∷◌, ◌++◌, length, reverse, take, drop, Some}
use Rattle.std.specs.Prelude.{slice_index_or}
use Rattle.std.proofs.Common.{◌∙◌, sym, ap, subst}
use Rattle.std.proofs.{lemmas.List.reverse-append, lemmas.List.take_more, lemmas.List.take-append-drop}
use Rattle.std.proofs.lemmas.Option.{none-some}
use Rattle.events.specs.declared.event.Event.{Event}
use Rattle.smt_model.specs.{Rules.is_legal, Rules.refused, Setup.Setup}
use Rattle.core_state.specs.View.{CoreView}
use Rattle.history_check.specs.Checking.{past_at}

-- What was before some newer events is legal where all is.
behind : (setup : Setup) (newer past : List Event) → is_legal setup (newer ++ past) → is_legal setup past
behind setup [] past legal = legal
behind setup (e ∷ newer) past legal = behind setup newer past legal.1

-- All the events, the newest first: those behind the first i of them, and these.
turned : (events : List Event) (i : ℕ) → reverse events ≡ reverse (drop i events) ++ past_at events i
turned events i =
    ap reverse (sym (take-append-drop i events)) ∙ reverse-append (take i events) (drop i events)

next : (events : List Event) (i : ℕ) (d : Event) → i < length events
    → past_at events (i + 1) ≡ slice_index_or events i d ∷ past_at events i
next events i d inside =
    ap reverse (take_more events i d inside) ∙ reverse-append (take i events) (slice_index_or events i d ∷ [])

-- A core that has followed the first of them refuses the next one.
pub illegal : (events : List Event) (index rule : ℕ) (d : Event) (new old : CoreView)
    → new ≡ record old { past = past_at events index } → index < length events
    → refused new.setup new.past (slice_index_or events index d) ≡ Some rule
    → is_legal old.setup (reverse events) → ⊥
illegal events index rule d new old follows inside breaks legal =
    let here = behind old.setup (reverse (drop (index + 1) events)) (past_at events (index + 1))
    (subst (is_legal old.setup) (turned events (index + 1)) legal) in
    let newest : is_legal old.setup (slice_index_or events index d ∷ past_at events index) =
    subst (is_legal old.setup) (next events index d inside) here in
    let refuses =
    subst (λ (u : CoreView). refused u.setup u.past (slice_index_or events index d) ≡ Some rule) follows breaks in
    none-some rule (sym newest.0 ∙ refuses)
