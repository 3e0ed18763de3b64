-- An instruction has at most one event of each kind.
use Rattle.std.specs.Prelude.{◌≡◌, ◌≢◌, ℕ, ◌+◌, ◌<◌, ◌≤◌, Bool, true, false, ◌==◌, ◌&&◌, nat_le, if◌then◌else◌, List}
use Rattle.std.specs.Prelude.{[], ◌∷◌, filter, length, Some, None}
use Rattle.std.proofs.Common.{◌∙◌, refl, sym, ap, subst, inl, inr, arith}
use Rattle.std.proofs.{lemmas.Bool.cases_Bool, lemmas.Bool.cases_eq, lemmas.Bool.cases_lt}
use Rattle.std.proofs.{lemmas.Bool.Decides.nat_tests}
use Rattle.events.specs.{declared.event.Event.Event, Event.seq_of, Kind.event_kind, Kind.letter_of}
use Rattle.events.specs.{declared.kind.EventKind.EventKind}
use Rattle.events.specs.declared.event.Event.TheVariants.{Fetch, Decode, Rename, Issue, Complete, Drop, Retire, Refetch}
use Rattle.smt_model.specs.{Basics.how_many, Setup.Setup, Fates.stage, Fates.fate, Fates.same_hart, Rules.refused}
use Rattle.smt_model.specs.{Rules.is_legal, Jobs.job}
use Rattle.events.specs.declared.kind.EventKind.TheVariants as kind
use Rattle.smt_model.proofs.Fates.Moves.{fetch_was, decode_was, rename_was, issue_was, complete_was, drop_was}
use Rattle.smt_model.proofs.Fates.Moves.{drop_lent, retire_was, refetch_was, stage-retired_as}
use Rattle.smt_model.proofs.{Fates.Sound.sound, Fates.Sound.moved, Fates.Numbers.known_fetched}
use Rattle.smt_model.proofs.Fates.Numbers.{same_hart-at}
use Rattle.smt_laws.proofs.Registers.Namings.{stage-rises}

-- The kinds of events as numbers: those that move an instruction on by the stage at which they find it, but a refetch,
-- which finds it where a retirement does.
abbrev number_of : EventKind → ℕ
number_of kind.Fetch = 0
number_of kind.Decode = 1
number_of kind.Rename = 2
number_of kind.Issue = 3
number_of kind.Complete = 4
number_of kind.Retire = 5
number_of kind.Refetch = 6
number_of kind.Drop = 7

same_kind : (a b : EventKind) → (letter_of a == letter_of b) ≡ (number_of a == number_of b)
same_kind kind.Fetch kind.Fetch = refl
same_kind kind.Decode kind.Decode = refl
same_kind kind.Rename kind.Rename = refl
same_kind kind.Issue kind.Issue = refl
same_kind kind.Complete kind.Complete = refl
same_kind kind.Retire kind.Retire = refl
same_kind kind.Refetch kind.Refetch = refl
same_kind kind.Drop kind.Drop = refl
same_kind _ _ = refl

abbrev found_at : ℕ → ℕ
found_at kind = if nat_le kind 5 then kind else 5

found_early : (kind : ℕ) → found_at kind ≤ 5
found_early kind = grind (arith, nat_tests)

abbrev is_its : ℕ → ℕ → Event → Bool
is_its s kind e = (seq_of e == s) && (number_of (event_kind e) == kind)

filter-alike : (f g : Event → Bool) → ((e : Event) → f e ≡ g e) → (xs : List Event) → filter f xs ≡ filter g xs
filter-alike f g same [] = refl
filter-alike f g same (e ∷ past) = rw (same e, filter-alike f g same past) refl

-- ---- Counting

counts : (test : Event → Bool) (e : Event) (past : List Event) → test e ≡ true
    → how_many test (e ∷ past) ≡ how_many test past + 1
counts test e past is = rw is (omega arith)

passes_over : (test : Event → Bool) (e : Event) (past : List Event) → test e ≡ false
    → how_many test (e ∷ past) ≡ how_many test past
passes_over test e past is = rw is refl

-- ---- The kinds that move an instruction on: each finds it at a stage of its own, and takes it further

-- A refetch squashes its own instruction too.
pub refetched : (setup : Setup) (past : List Event) → is_legal setup past → (actor n : ℕ)
    → refused setup past (Refetch actor n) ≡ None
    → stage (fate (Refetch actor n ∷ past) n) ≡ 8
refetched setup past legal actor n ok =
    let was = refetch_was setup past actor n ok in
    let known = known_fetched setup past legal n (omega arith) in
    let same : same_hart past n n ≡ true = same_hart-at past known.fetch.hart n n known.of_hart ∙ known.of_hart in
    grind (arith, nat_tests)

made_at : (setup : Setup) (past : List Event) → is_legal setup past → (e : Event) → refused setup past e ≡ None
    → (s kind : ℕ) → kind ≤ 6
    → is_its s kind e ≡ true → (stage (fate past s) ≡ found_at kind) × (found_at kind < stage (fate (e ∷ past) s))
made_at setup past legal (Fetch actor hart n pc word predicted) ok s kind six its =
    let was =
    fetch_was setup past (sound setup past legal) actor hart n pc word predicted ok in grind (arith, nat_tests)
made_at setup past legal (Decode actor n) ok s kind six its =
    let was = decode_was setup past actor n ok in grind (arith, nat_tests)
made_at setup past legal (Rename actor n register) ok s kind six its =
    let was = rename_was setup past actor n register ok in grind (arith, nat_tests)
made_at setup past legal (Issue actor n) ok s kind six its =
    let was = issue_was setup past actor n ok in grind (arith, nat_tests)
made_at setup past legal (Complete actor n outcome) ok s kind six its =
    let was = complete_was setup past (sound setup past legal) actor n outcome ok in grind (arith, nat_tests)
made_at setup past legal (Drop actor n) ok s kind six its = grind (arith, nat_tests)
made_at setup past legal (Retire actor n effect) ok s kind six its =
    let was = retire_was setup past actor n effect ok in
    let as_told = stage-retired_as effect in
    grind (arith, nat_tests)
made_at setup past legal (Refetch actor n) ok s kind six its =
    let was = refetch_was setup past actor n ok in
    let gone = refetched setup past legal actor n ok in
    let same : n ≡ s = grind (arith, nat_tests) in
    let gone_too : stage (fate (Refetch actor n ∷ past) s) ≡ 8 =
    subst (λ z. stage (fate (Refetch actor n ∷ past) z) ≡ 8) same gone in
    let was_too : stage (fate past s) ≡ 5 = subst (λ z. stage (fate past z) ≡ 5) same was in
    (grind (arith, nat_tests), omega (arith, gone_too, found_early kind))

none_yet : (setup : Setup) (past : List Event) → is_legal setup past → (s kind : ℕ) → kind ≤ 6
    → stage (fate past s) ≤ found_at kind
    → how_many (is_its s kind) past ≡ 0
none_yet setup [] legal s kind six early = refl
none_yet setup (e ∷ past) legal s kind six early =
    let up = stage-rises setup past legal.1 e legal.0 s in
    let rest = none_yet setup past legal.1 s kind six (omega arith) in
    elim (cases_Bool (is_its s kind e)) [
      | inl its ↦ let at = made_at setup past legal.1 e legal.0 s kind six its in absurd (omega (arith, at.1))
      | inr other ↦ let same = passes_over (is_its s kind) e past other in omega arith
    ]

moving_once : (setup : Setup) (past : List Event) → is_legal setup past → (s kind : ℕ) → kind ≤ 6
    → how_many (is_its s kind) past ≤ 1
moving_once setup [] legal s kind six = omega arith
moving_once setup (e ∷ past) legal s kind six =
    elim (cases_Bool (is_its s kind e)) [
      | inl its ↦
          let at = made_at setup past legal.1 e legal.0 s kind six its in
          let none = none_yet setup past legal.1 s kind six (omega (arith, at.0)) in
          let more = counts (is_its s kind) e past its in
          omega arith
      | inr other ↦
          let same = passes_over (is_its s kind) e past other in
          let rest = moving_once setup past legal.1 s kind six in
          omega arith
    ]

-- ---- Drops: what was dropped is squashed, and is nobody's job any more

drop_at : (setup : Setup) (past : List Event) → is_legal setup past → (e : Event) → refused setup past e ≡ None
    → (s : ℕ) → is_its s 7 e ≡ true
    → (k : ℕ) → job (e ∷ past) k ≢ Some s
drop_at setup past legal (Fetch actor hart n pc word predicted) ok s its k now = absurd (grind (arith, nat_tests))
drop_at setup past legal (Decode actor n) ok s its k now = absurd (grind (arith, nat_tests))
drop_at setup past legal (Rename actor n register) ok s its k now = absurd (grind (arith, nat_tests))
drop_at setup past legal (Issue actor n) ok s its k now = absurd (grind (arith, nat_tests))
drop_at setup past legal (Complete actor n outcome) ok s its k now = absurd (grind (arith, nat_tests))
drop_at setup past legal (Drop actor n) ok s its k now =
    let lent = drop_lent setup past actor n ok in
    let same : n ≡ s = grind (arith, nat_tests) in
    let still : job past k ≡ Some s = grind (arith, nat_tests) in
    let apart : actor ≢ k = grind (arith, nat_tests) in
    let alone = (sound setup past legal).alone actor k n in
    absurd (grind arith)
drop_at setup past legal (Retire actor n effect) ok s its k now = absurd (grind (arith, nat_tests))
drop_at setup past legal (Refetch actor n) ok s its k now = absurd (grind (arith, nat_tests))

drop_found : (setup : Setup) (past : List Event) (e : Event) → refused setup past e ≡ None → (s : ℕ)
    → is_its s 7 e ≡ true
    → (stage (fate past s) ≡ 8) × ((k : ℕ) × (job past k ≡ Some s))
drop_found setup past (Fetch actor hart n pc word predicted) ok s its = absurd (grind (arith, nat_tests))
drop_found setup past (Decode actor n) ok s its = absurd (grind (arith, nat_tests))
drop_found setup past (Rename actor n register) ok s its = absurd (grind (arith, nat_tests))
drop_found setup past (Issue actor n) ok s its = absurd (grind (arith, nat_tests))
drop_found setup past (Complete actor n outcome) ok s its = absurd (grind (arith, nat_tests))
drop_found setup past (Drop actor n) ok s its =
    let was = drop_was setup past actor n ok in
    let lent = drop_lent setup past actor n ok in
    let same : n ≡ s = grind (arith, nat_tests) in
    (grind arith, (actor, grind arith))
drop_found setup past (Retire actor n effect) ok s its = absurd (grind (arith, nat_tests))
drop_found setup past (Refetch actor n) ok s its = absurd (grind (arith, nat_tests))

-- A squashed one is given to nobody.
job_before : (setup : Setup) (past : List Event) (e : Event) → refused setup past e ≡ None → (s : ℕ)
    → stage (fate past s) ≡ 8
    → (k : ℕ) → job (e ∷ past) k ≡ Some s → job past k ≡ Some s
job_before setup past (Fetch actor hart n pc word predicted) ok s gone k now = now
job_before setup past (Decode actor n) ok s gone k now = now
job_before setup past (Rename actor n register) ok s gone k now = now
job_before setup past (Issue actor n) ok s gone k now =
    let was = issue_was setup past actor n ok in grind (arith, nat_tests)
job_before setup past (Complete actor n outcome) ok s gone k now = grind (arith, nat_tests)
job_before setup past (Drop actor n) ok s gone k now = grind (arith, nat_tests)
job_before setup past (Retire actor n effect) ok s gone k now = now
job_before setup past (Refetch actor n) ok s gone k now = now

-- Once dropped.
dropped : (setup : Setup) (past : List Event) → is_legal setup past → (s : ℕ) → 1 ≤ how_many (is_its s 7) past
    → (stage (fate past s) ≡ 8) × ((k : ℕ) → job past k ≢ Some s)
dropped setup [] legal s some = absurd (omega arith)
dropped setup (e ∷ past) legal s some =
    let move = moved setup past legal.1 e legal.0 s in
    elim (cases_Bool (is_its s 7 e)) [
      | inl its ↦
          let found = drop_found setup past e legal.0 s its in
          let was : stage (fate past s) ≡ 8 = found.0 in
          (grind (arith, nat_tests), drop_at setup past legal.1 e legal.0 s its)
      | inr other ↦
          let same = passes_over (is_its s 7) e past other in
          let before = dropped setup past legal.1 s (omega arith) in
          let was : stage (fate past s) ≡ 8 = before.0 in
          (grind (arith, nat_tests), λ k now. before.1 k (job_before setup past e legal.0 s was k now))
    ]

dropped_once : (setup : Setup) (past : List Event) → is_legal setup past → (s : ℕ) → how_many (is_its s 7) past ≤ 1
dropped_once setup [] legal s = omega arith
dropped_once setup (e ∷ past) legal s =
    elim (cases_Bool (is_its s 7 e)) [
      | inl its ↦
          let found = drop_found setup past e legal.0 s its in
          let more = counts (is_its s 7) e past its in
          elim (cases_lt 0 (how_many (is_its s 7) past)) [
            | inl some ↦ absurd ((dropped setup past legal.1 s some).1 found.1.0 found.1.1)
            | inr none ↦ omega arith
          ]
      | inr other ↦
          let same = passes_over (is_its s 7) e past other in
          let rest = dropped_once setup past legal.1 s in
          omega arith
    ]

-- ---- There are no other kinds

no_other : (e : Event) (s kind : ℕ) → 8 ≤ kind → is_its s kind e ≡ false
no_other (Fetch actor hart n pc word predicted) s kind high = grind (arith, nat_tests)
no_other (Decode actor n) s kind high = grind (arith, nat_tests)
no_other (Rename actor n register) s kind high = grind (arith, nat_tests)
no_other (Issue actor n) s kind high = grind (arith, nat_tests)
no_other (Complete actor n outcome) s kind high = grind (arith, nat_tests)
no_other (Drop actor n) s kind high = grind (arith, nat_tests)
no_other (Retire actor n effect) s kind high = grind (arith, nat_tests)
no_other (Refetch actor n) s kind high = grind (arith, nat_tests)

none_other : (past : List Event) (s kind : ℕ) → 8 ≤ kind → how_many (is_its s kind) past ≤ 1
none_other [] s kind high = omega arith
none_other (e ∷ past) s kind high =
    let same = passes_over (is_its s kind) e past (no_other e s kind high) in
    let rest = none_other past s kind high in
    omega arith

one_of_a_number : (setup : Setup) (past : List Event) → is_legal setup past → (s kind : ℕ)
    → how_many (is_its s kind) past ≤ 1
one_of_a_number setup past legal s kind =
    elim (cases_lt kind 7) [
      | inl moving ↦ moving_once setup past legal s kind (omega arith)
      | inr rest ↦
          elim (cases_eq kind 7) [
            | inl drops ↦ rw drops (dropped_once setup past legal s)
            | inr other ↦ none_other past s kind (omega arith)
          ]
    ]

pub one_of_a_kind : (setup : Setup) (past : List Event) → is_legal setup past → (s : ℕ) (kind : EventKind)
    → how_many (λ e. (seq_of e == s) && (letter_of (event_kind e) == letter_of kind)) past ≤ 1
one_of_a_kind setup past legal s kind =
    let same : filter (λ e. (seq_of e == s) && (letter_of (event_kind e) == letter_of kind)) past
    ≡ filter (is_its s (number_of kind)) past =
    filter-alike _ _ (λ e. ap (λ z. (seq_of e == s) && z) (same_kind (event_kind e) kind)) past in
    subst (λ xs. length xs ≤ 1) (sym same) (one_of_a_number setup past legal s (number_of kind))
