-- A core that follows the events of a legal history.
use Rattle.std.specs.Prelude.{◌≡◌, ℕ, ◌+◌, ◌<◌, ◌≤◌, true, List, [], ◌∷◌, ◌++◌, length, reverse, take, drop, None}
use Rattle.std.specs.Prelude.{slice_index_or}
use Rattle.std.proofs.Common.{◌∙◌, sym, ap, subst, arith}
use Rattle.std.proofs.{lemmas.Bool.Decides.nat_tests}
use Rattle.std.proofs.lemmas.List.{reverse-append, take_more, take-append-drop}
use Rattle.numbers.specs.Sizes.{most_registers}
use Rattle.events.specs.declared.event.Event.{Event}
use Rattle.smt_model.specs.{Rules.is_legal, Rules.refused, Setup.Setup, Setup.is_accepted, Setup.registers_of}
use Rattle.core_state.specs.View.{CoreView, grown}

behind : (setup : Setup) (newer past : List Event) → is_legal setup (newer ++ past) → is_legal setup past
behind setup [] past legal = legal
behind setup (e ∷ newer) past legal = behind setup newer past legal.1

turned : (events : List Event) (i : ℕ) → reverse events ≡ reverse (drop i events) ++ reverse (take i events)
turned events i =
    ap reverse (sym (take-append-drop i events)) ∙ reverse-append (take i events) (drop i events)

pub next : (events : List Event) (i : ℕ) (d : Event) → i < length events
    → reverse (take (i + 1) events) ≡ slice_index_or events i d ∷ reverse (take i events)
next events i d inside =
    ap reverse (take_more events i d inside) ∙ reverse-append (take i events) (slice_index_or events i d ∷ [])

-- What was before some of the events is legal,
pub legal_at : (setup : Setup) (events : List Event) (i : ℕ) → is_legal setup (reverse events)
    → is_legal setup (reverse (take i events))
legal_at setup events i legal =
    behind setup (reverse (drop i events)) (reverse (take i events)) (subst (is_legal setup) (turned events i) legal)

-- and each is allowed as it comes.
pub allowed_at : (setup : Setup) (events : List Event) (i : ℕ) (d : Event) → is_legal setup (reverse events)
    → i < length events → refused setup (reverse (take i events)) (slice_index_or events i d) ≡ None
allowed_at setup events i d legal inside =
    let newest : is_legal setup (slice_index_or events i d ∷ reverse (take i events)) =
    subst (is_legal setup) (next events i d inside) (legal_at setup events (i + 1) legal) in
    newest.0

-- What holds of a setup and a history holds of those of a core that has followed it.
pub in_core : (P : Setup → List Event → Type 0) (past : List Event) (now first : CoreView) (setup : Setup)
    → first.setup ≡ setup → now ≡ record first { past = past } → P setup past → P now.setup now.past
in_core P past now first setup same follows holds =
    subst (λ (v : CoreView). P v.setup v.past) (sym follows)
    (subst (λ (s : Setup). P s past) (sym same) holds)

pub allowed_in : (events : List Event) (i : ℕ) (d : Event) (now first : CoreView) (setup : Setup)
    → first.setup ≡ setup → is_legal setup (reverse events) → now ≡ record first { past = reverse (take i events) }
    → i < length events → refused now.setup now.past (slice_index_or events i d) ≡ None
allowed_in events i d now first setup same legal follows inside =
    in_core (λ s past. refused s past (slice_index_or events i d) ≡ None) (reverse (take i events)) now first setup same
    follows (allowed_at setup events i d legal inside)

-- A core that has followed the first i of the events has followed one more.
pub followed : (events : List Event) (i : ℕ) (d : Event) (was first now : CoreView)
    → was ≡ record first { past = reverse (take i events) } → i < length events
    → now ≡ grown (slice_index_or events i d) was → now ≡ record first { past = reverse (take (i + 1) events) }
followed events i d was first now follows inside grows =
    grows ∙ (ap (grown (slice_index_or events i d)) follows
    ∙ ap (λ past. record first { past = past }) (sym (next events i d inside)))

-- What holds behind the event that it follows holds there.
pub of_more : (P : List Event → Type 0) (events : List Event) (i : ℕ) (d : Event) (was first : CoreView)
    → was ≡ record first { past = reverse (take i events) } → i < length events
    → P (slice_index_or events i d ∷ was.past) → P (reverse (take (i + 1) events))
of_more P events i d was first follows inside holds =
    subst P (sym (next events i d inside))
    (subst (λ (v : CoreView). P (slice_index_or events i d ∷ v.past)) follows holds)

pub enough : (setup : Setup) (n : ℕ) → is_accepted setup n ≡ true → registers_of setup ≤ most_registers
enough setup n ok = grind (arith, nat_tests)
