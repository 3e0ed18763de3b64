-- Instructions of one hart go down the pipeline in order: of two, the younger is never further along, but where it was
-- squashed.
use Rattle.std.specs.Prelude.{◌≡◌, ◌≢◌, ℕ, ◌<◌, ◌≤◌, Bool, true, false, nat_le, if◌then◌else◌, List, [], ◌∷◌, Option}
use Rattle.std.specs.Prelude.{Some, None}
use Rattle.std.specs.List.{filter}
use Rattle.std.proofs.Common.{◌∙◌, refl, sym, inl, inr, arith}
use Rattle.std.proofs.{lemmas.Bool.cases_eq, lemmas.Bool.false_from_ne_true, lemmas.Bool.Decides.nat_tests}
use Rattle.events.specs.{declared.effect.Outcome.Outcome, declared.effect.Effect.Effect, declared.event.Event.Event}
use Rattle.events.specs.declared.event.Event.TheVariants.{Fetch, Decode, Rename, Issue, Complete, Drop, Retire, Refetch}
use Rattle.smt_model.specs.{Basics.first, Setup.Setup, Rules.refused, Rules.is_legal}
use Rattle.smt_model.specs.Fates.{stage, fate, is, is_in_flight, InDecode, InRename, fate_by, is_of}
use Rattle.smt_model.specs.Flights.{numbers, in_decode, in_rename, flight}
use Rattle.smt_model.proofs.{Lists.filter-member, Lists.first-least, Lists.Rises-filter, Allowed.decode_allowed}
use Rattle.smt_model.proofs.{Allowed.rename_allowed, Allowed.retire_allowed, Fates.Sound.sound, Fates.Sound.moved}
use Rattle.smt_model.proofs.Fates.Moves.{moves, fetch_number, fetch_was, decode_was, rename_was, issue_was}
use Rattle.smt_model.proofs.Fates.Moves.{complete_was, retire_was, stage-retired_as}
use Rattle.smt_model.proofs.Fates.Numbers.{is_of-below, is_of-kept, known, numbers-member, numbers-rise, first_of_hart}

-- Unknown 0, in decode 1, in rename 2, in flight 3, retired 4, squashed 5.
abbrev pub rank : ℕ → ℕ
rank n = if nat_le n 2 then n else (if nat_le n 5 then 3 else (if nat_le n 7 then 4 else 5))

abbrev pub InOrder : List Event → Type 0
InOrder past = (h s t : ℕ) → is_of past h s ≡ true → is_of past h t ≡ true → s < t → stage (fate past t) ≢ 8
    → rank (stage (fate past t)) ≤ rank (stage (fate past s))

-- ---- One instruction

-- A rank never falls.
pub climbs : (a b : ℕ) → moves a b ≡ true → rank a ≤ rank b
climbs a b move = grind (arith, nat_tests)

climbs-at : (setup : Setup) (past : List Event) → is_legal setup past → (e : Event)
    → refused setup past e ≡ None → (s : ℕ)
    → rank (stage (fate past s)) ≤ rank (stage (fate (e ∷ past) s))
climbs-at setup past legal e ok s =
    climbs (stage (fate past s)) (stage (fate (e ∷ past) s)) (moved setup past legal e ok s)

-- An instruction that the event isn't of, and that isn't squashed, stays where it is.
pub level : (e : Event) (past : List Event) (t : ℕ) → fate_by e t ≡ None → stage (fate (e ∷ past) t) ≢ 8
    → stage (fate (e ∷ past) t) ≡ stage (fate past t)
level e past t tells lives = grind arith

-- ---- Two instructions

-- Where a place of the pipeline holds an instruction first, no older one of the hart is in that place.
pub older_passed : (setup : Setup) (past : List Event) → is_legal setup past → (place : ℕ → Bool) (h n s : ℕ)
    → first (filter place (numbers past h)) ≡ Some n → is_of past h s ≡ true → s < n → place s ≡ false
older_passed setup past legal place h n s front of_s older =
    false_from_ne_true (place s) (λ inside.
    let there = filter-member place s (numbers past h) (numbers-member setup past legal h s of_s) inside in
    let rises = Rises-filter place (numbers past h) (numbers-rise setup past legal h) in
    let least : n ≤ s = first-least (filter place (numbers past h)) n rises front s there in
    absurd (omega arith))

-- The event isn't of the younger.
order-rest : (setup : Setup) (past : List Event) → is_legal setup past → InOrder past → (e : Event)
    → refused setup past e ≡ None
    → (h s t : ℕ) → is_of past h s ≡ true → is_of past h t ≡ true → s < t → fate_by e t ≡ None
    → stage (fate (e ∷ past) t) ≢ 8
    → rank (stage (fate (e ∷ past) t)) ≤ rank (stage (fate (e ∷ past) s))
order-rest setup past legal order e ok h s t of_s of_t older tells lives =
    let same : stage (fate (e ∷ past) t) ≡ stage (fate past t) = level e past t tells lives in
    let lived : stage (fate past t) ≢ 8 = λ x. lives (same ∙ x) in
    let before = order h s t of_s of_t older lived in
    let up = climbs-at setup past legal e ok s in
    rw same (omega arith)

-- The event is of the younger.
order-own : (setup : Setup) (past : List Event) → is_legal setup past → (e : Event) → refused setup past e ≡ None
    → (s t : ℕ) → rank (stage (fate (e ∷ past) t)) ≤ rank (stage (fate past s))
    → rank (stage (fate (e ∷ past) t)) ≤ rank (stage (fate (e ∷ past) s))
order-own setup past legal e ok s t under = let up = climbs-at setup past legal e ok s in omega arith

own-Decode : (setup : Setup) (past : List Event) → is_legal setup past → InOrder past → (actor n : ℕ)
    → refused setup past (Decode actor n) ≡ None → (h s : ℕ) → is_of past h s ≡ true → is_of past h n ≡ true → s < n
    → rank (stage (fate (Decode actor n ∷ past) n)) ≤ rank (stage (fate past s))
own-Decode setup past legal order actor n ok h s of_s of_n older =
    let was = decode_was setup past actor n ok in
    let before = order h s n of_s of_n older (omega arith) in
    let front = first_of_hart past (in_decode past) h n of_n (decode_allowed setup past actor n ok).oldest in
    let passed = older_passed setup past legal (λ x. is (fate past x) InDecode) h n s front of_s older in
    grind (arith, nat_tests)

own-Rename : (setup : Setup) (past : List Event) → is_legal setup past → InOrder past → (actor n : ℕ) (phys : Option ℕ)
    → refused setup past (Rename actor n phys) ≡ None → (h s : ℕ) → is_of past h s ≡ true
    → is_of past h n ≡ true → s < n
    → rank (stage (fate (Rename actor n phys ∷ past) n)) ≤ rank (stage (fate past s))
own-Rename setup past legal order actor n phys ok h s of_s of_n older =
    let was = rename_was setup past actor n phys ok in
    let before = order h s n of_s of_n older (omega arith) in
    let front = first_of_hart past (in_rename past) h n of_n (rename_allowed setup past actor n phys ok).oldest in
    let passed = older_passed setup past legal (λ x. is (fate past x) InRename) h n s front of_s older in
    grind (arith, nat_tests)

own-Issue : (setup : Setup) (past : List Event) → is_legal setup past → InOrder past → (actor n : ℕ)
    → refused setup past (Issue actor n) ≡ None → (h s : ℕ) → is_of past h s ≡ true → is_of past h n ≡ true → s < n
    → rank (stage (fate (Issue actor n ∷ past) n)) ≤ rank (stage (fate past s))
own-Issue setup past legal order actor n ok h s of_s of_n older =
    let was = issue_was setup past actor n ok in
    let before = order h s n of_s of_n older (omega arith) in
    grind (arith, nat_tests)

own-Complete : (setup : Setup) (past : List Event) → is_legal setup past → InOrder past
    → (actor n : ℕ) (outcome : Outcome)
    → refused setup past (Complete actor n outcome) ≡ None → (h s : ℕ) → is_of past h s ≡ true
    → is_of past h n ≡ true → s < n
    → rank (stage (fate (Complete actor n outcome ∷ past) n)) ≤ rank (stage (fate past s))
own-Complete setup past legal order actor n outcome ok h s of_s of_n older =
    let was = complete_was setup past (sound setup past legal) actor n outcome ok in
    let before = order h s n of_s of_n older (omega arith) in
    grind (arith, nat_tests)

-- No older one is in flight as an instruction retires.
pub retire_front : (setup : Setup) (past : List Event) → is_legal setup past → (actor n : ℕ) (effect : Effect)
    → refused setup past (Retire actor n effect) ≡ None → (h s : ℕ) → is_of past h s ≡ true
    → is_of past h n ≡ true → s < n
    → is_in_flight (fate past s) ≡ false
retire_front setup past legal actor n effect ok h s of_s of_n older =
    let front = first_of_hart past (flight past) h n of_n (retire_allowed setup past actor n effect ok).oldest in
    older_passed setup past legal (λ x. is_in_flight (fate past x)) h n s front of_s older

own-Retire : (setup : Setup) (past : List Event) → is_legal setup past → InOrder past → (actor n : ℕ) (effect : Effect)
    → refused setup past (Retire actor n effect) ≡ None → (h s : ℕ) → is_of past h s ≡ true
    → is_of past h n ≡ true → s < n
    → rank (stage (fate (Retire actor n effect ∷ past) n)) ≤ rank (stage (fate past s))
own-Retire setup past legal order actor n effect ok h s of_s of_n older =
    let was = retire_was setup past actor n effect ok in
    let before = order h s n of_s of_n older (omega arith) in
    let passed = retire_front setup past legal actor n effect ok h s of_s of_n older in
    let as_told = stage-retired_as effect in
    grind (arith, nat_tests)

-- ---- Every legal history

-- The youngest of all was just fetched.
order-Fetch : (setup : Setup) (past : List Event) → is_legal setup past → InOrder past
    → (actor hart n pc : ℕ) (word : Option ℕ) (predicted : ℕ)
    → refused setup past (Fetch actor hart n pc word predicted) ≡ None
    → InOrder (Fetch actor hart n pc word predicted ∷ past)
order-Fetch setup past legal order actor hart n pc word predicted ok h s t of_s of_t older lives =
    let given = fetch_number setup past actor hart n pc word predicted ok in
    elim (cases_eq t n) [
      | inl here ↦
          let was = fetch_was setup past (sound setup past legal) actor hart n pc word predicted ok in
          let of_s_before : is_of past h s ≡ true =
          sym (is_of-kept setup past legal (Fetch actor hart n pc word predicted) ok h s (omega arith)) ∙ of_s in
          let one = known setup past legal h s of_s_before in
          grind (arith, nat_tests)
      | inr other ↦
          let of_t_before : is_of past h t ≡ true = grind (arith, nat_tests) in
          let under = is_of-below setup past legal h t of_t_before in
          let of_s_before : is_of past h s ≡ true =
          sym (is_of-kept setup past legal (Fetch actor hart n pc word predicted) ok h s (omega arith)) ∙ of_s in
          order-rest setup past legal order (Fetch actor hart n pc word predicted) ok h s t of_s_before
          of_t_before older
          (grind (arith, nat_tests)) lives
    ]

order-next : (setup : Setup) (past : List Event) → is_legal setup past → InOrder past → (e : Event)
    → refused setup past e ≡ None → InOrder (e ∷ past)
order-next setup past legal order (Fetch actor hart n pc word predicted) ok h s t of_s of_t older lives =
    order-Fetch setup past legal order actor hart n pc word predicted ok h s t of_s of_t older lives
order-next setup past legal order (Decode actor n) ok h s t of_s of_t older lives =
    elim (cases_eq t n) [
      | inl here ↦
          order-own setup past legal (Decode actor n) ok s t
          (rw here (own-Decode setup past legal order actor n ok h s of_s (rw (sym here) of_t) (omega arith)))
      | inr other ↦
          order-rest setup past legal order (Decode actor n) ok h s t of_s of_t older (grind (arith, nat_tests)) lives
    ]
order-next setup past legal order (Rename actor n phys) ok h s t of_s of_t older lives =
    elim (cases_eq t n) [
      | inl here ↦
          order-own setup past legal (Rename actor n phys) ok s t
          (rw here (own-Rename setup past legal order actor n phys ok h s of_s (rw (sym here) of_t) (omega arith)))
      | inr other ↦
          order-rest setup past legal order (Rename actor n phys) ok h s t of_s of_t older
          (grind (arith, nat_tests)) lives
    ]
order-next setup past legal order (Issue actor n) ok h s t of_s of_t older lives =
    elim (cases_eq t n) [
      | inl here ↦
          order-own setup past legal (Issue actor n) ok s t
          (rw here (own-Issue setup past legal order actor n ok h s of_s (rw (sym here) of_t) (omega arith)))
      | inr other ↦
          order-rest setup past legal order (Issue actor n) ok h s t of_s of_t older (grind (arith, nat_tests)) lives
    ]
order-next setup past legal order (Complete actor n outcome) ok h s t of_s of_t older lives =
    elim (cases_eq t n) [
      | inl here ↦
          order-own setup past legal (Complete actor n outcome) ok s t
          (rw here (own-Complete setup past legal order actor n outcome ok h s of_s (rw (sym here) of_t) (omega arith)))
      | inr other ↦
          order-rest setup past legal order (Complete actor n outcome) ok h s t of_s of_t older
          (grind (arith, nat_tests)) lives
    ]
order-next setup past legal order (Drop actor n) ok h s t of_s of_t older lives =
    order-rest setup past legal order (Drop actor n) ok h s t of_s of_t older refl lives
order-next setup past legal order (Retire actor n effect) ok h s t of_s of_t older lives =
    elim (cases_eq t n) [
      | inl here ↦
          order-own setup past legal (Retire actor n effect) ok s t
          (rw here (own-Retire setup past legal order actor n effect ok h s of_s (rw (sym here) of_t) (omega arith)))
      | inr other ↦
          order-rest setup past legal order (Retire actor n effect) ok h s t of_s of_t older
          (grind (arith, nat_tests)) lives
    ]
order-next setup past legal order (Refetch actor n) ok h s t of_s of_t older lives =
    order-rest setup past legal order (Refetch actor n) ok h s t of_s of_t older refl lives

-- The law: fates are in order.
pub in_order : (setup : Setup) (past : List Event) → is_legal setup past → InOrder past
in_order setup [] legal h s t of_s of_t older lives = absurd (grind arith)
in_order setup (e ∷ past) legal h s t of_s of_t older lives =
    order-next setup past legal.1 (in_order setup past legal.1) e legal.0 h s t of_s of_t older lives
