-- The hart of each instruction stands under its number.
use Rattle.std.specs.Prelude.{◌≡◌, ◌<◌, ◌≤◌, ◌+◌, ◌==◌, ℕ, suc, true, false, List, [], ◌∷◌, ◌++◌, length, reverse, take}
use Rattle.std.specs.Prelude.{slice_index_or, Option, Some, None}
use Rattle.std.proofs.Common.{◌∙◌, refl, sym, ap, subst, inl, inr, append-nil, arith}
use Rattle.std.proofs.{lemmas.Bool.cases_eq, lemmas.Bool.cases_lt, lemmas.Bool.Decides.nat_tests}
use Rattle.std.proofs.{lemmas.Option.same_Some, lemmas.Option.none-some}
use Rattle.std.proofs.lemmas.List.{reverse-append, take_more, length_push, get_or_push, get_or_append_left}
use Rattle.events.specs.declared.event.Event.{Event}
use Rattle.events.specs.declared.event.Event.TheVariants.{Fetch, Decode, Rename, Issue, Complete}
use Rattle.events.specs.declared.event.Event.TheVariants.{Drop, Retire, Refetch}
use Rattle.smt_model.specs.{Setup.Setup, Rules.refused, Rules.is_legal}
use Rattle.smt_model.specs.Fates.{fetches, Fetched, fetching}
use Rattle.smt_model.proofs.Fates.Moves.{fetch_number}
use Rattle.smt_model.proofs.Fates.Numbers.{fetching-none, fetching-kept}
use Rattle.history_check.specs.Checking.{past_at}
use Rattle.history_scripts.specs.Lines.{hart_in, harts_in}

-- The history of one more event.
pub past_next : (events : List Event) (i : ℕ) (d : Event) → i < length events
    → past_at events (i + 1) ≡ slice_index_or events i d ∷ past_at events i
past_next events i d inside =
    ap reverse (take_more events i d inside) ∙ reverse-append (take i events) (slice_index_or events i d ∷ [])

-- ---- As many as were fetched

pub as_many : (past : List Event) → length (harts_in past) ≡ fetches past
as_many [] = refl
as_many (Fetch actor hart seq pc word predicted ∷ past) =
    length_push (harts_in past) hart ∙ (let before = as_many past in omega arith)
as_many (Decode actor seq ∷ past) = ap length (append-nil (harts_in past)) ∙ as_many past
as_many (Rename actor seq phys ∷ past) = ap length (append-nil (harts_in past)) ∙ as_many past
as_many (Issue actor seq ∷ past) = ap length (append-nil (harts_in past)) ∙ as_many past
as_many (Complete actor seq outcome ∷ past) = ap length (append-nil (harts_in past)) ∙ as_many past
as_many (Drop actor seq ∷ past) = ap length (append-nil (harts_in past)) ∙ as_many past
as_many (Retire actor seq effect ∷ past) = ap length (append-nil (harts_in past)) ∙ as_many past
as_many (Refetch actor seq ∷ past) = ap length (append-nil (harts_in past)) ∙ as_many past

-- ---- Under its number

-- The list has the hart of each instruction that was fetched so far.
abbrev pub HaveHarts : List ℕ → List Event → Type 0
HaveHarts harts past = (s : ℕ) (f : Fetched) → fetching past s ≡ Some f → slice_index_or harts s 0 ≡ f.hart

have_more : (past : List Event) (e : Event) → harts_in (e ∷ past) ≡ harts_in past ++ []
    → ((s : ℕ) → fetching (e ∷ past) s ≡ fetching past s) → HaveHarts (harts_in past) past
    → HaveHarts (harts_in (e ∷ past)) (e ∷ past)
have_more past e same kept before s f found =
    ap (λ l. slice_index_or l s 0) (same ∙ append-nil (harts_in past)) ∙ before s f (sym (kept s) ∙ found)

have_fetched : (setup : Setup) (past : List Event) → is_legal setup past → (actor hart seq pc : ℕ)
    (word : Option ℕ) (predicted : ℕ) → refused setup past (Fetch actor hart seq pc word predicted) ≡ None
    → HaveHarts (harts_in past) past
    → HaveHarts (harts_in past ++ hart ∷ []) (Fetch actor hart seq pc word predicted ∷ past)
have_fetched setup past legal actor hart seq pc word predicted ok before s f found =
    let given = fetch_number setup past actor hart seq pc word predicted ok in
    let count = as_many past in
    elim (cases_eq seq s) [
      | inl here ↦
          let same : (seq == s) ≡ true = grind (arith, nat_tests) in
          let it : record { hart = hart; pc = pc; word = word; predicted = predicted } ≡ f =
          same_Some _ f (rw same at found) in
          get_or_push (harts_in past) hart 0 s (count ∙ (sym given ∙ here)) ∙ ap (λ (g : Fetched). g.hart) it
      | inr other ↦
          let apart : (seq == s) ≡ false = grind (arith, nat_tests) in
          let old : fetching past s ≡ Some f = rw apart at found in
          let known : s < fetches past = elim (cases_lt s (fetches past)) [
            | inl under ↦ under
            | inr above ↦ absurd (none-some f (sym (fetching-none setup past legal s above) ∙ old))
          ] in
          get_or_append_left (harts_in past) (hart ∷ []) 0 s (omega arith) ∙ before s f old
    ]

pub have_harts : (setup : Setup) (past : List Event) → is_legal setup past → HaveHarts (harts_in past) past
have_harts setup [] legal = λ s f found. absurd (none-some f found)
have_harts setup (Fetch actor hart seq pc word predicted ∷ past) legal =
    have_fetched setup past legal.1 actor hart seq pc word predicted legal.0 (have_harts setup past legal.1)
have_harts setup (Decode actor seq ∷ past) legal =
    have_more past (Decode actor seq) refl (λ s. refl) (have_harts setup past legal.1)
have_harts setup (Rename actor seq phys ∷ past) legal =
    have_more past (Rename actor seq phys) refl (λ s. refl) (have_harts setup past legal.1)
have_harts setup (Issue actor seq ∷ past) legal =
    have_more past (Issue actor seq) refl (λ s. refl) (have_harts setup past legal.1)
have_harts setup (Complete actor seq outcome ∷ past) legal =
    have_more past (Complete actor seq outcome) refl (λ s. refl) (have_harts setup past legal.1)
have_harts setup (Drop actor seq ∷ past) legal =
    have_more past (Drop actor seq) refl (λ s. refl) (have_harts setup past legal.1)
have_harts setup (Retire actor seq effect ∷ past) legal =
    have_more past (Retire actor seq effect) refl (λ s. refl) (have_harts setup past legal.1)
have_harts setup (Refetch actor seq ∷ past) legal =
    have_more past (Refetch actor seq) refl (λ s. refl) (have_harts setup past legal.1)

-- Who has the harts of a history has those of what was before its newest event.
pub have_before : (setup : Setup) (past : List Event) → is_legal setup past → (e : Event) → refused setup past e ≡ None
    → (harts : List ℕ) → HaveHarts harts (e ∷ past) → HaveHarts harts past
have_before setup past legal e ok harts have s f found =
    let known : s < fetches past = elim (cases_lt s (fetches past)) [
      | inl under ↦ under
      | inr above ↦ absurd (none-some f (sym (fetching-none setup past legal s above) ∙ found))
    ] in
    have s f (fetching-kept setup past legal e ok s known ∙ found)
