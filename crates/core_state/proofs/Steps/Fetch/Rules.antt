-- Which fetch a history allows: that of the hart that the choice names, at its fetch pc.
use Rattle.std.specs.Prelude.{◌≡◌, ℕ, ◌<◌, ◌≤◌, Bool, true, not, ◌==◌, nat_lt, List, [], ◌∷◌, length, Option, Some}
use Rattle.std.specs.Prelude.{None}
use Rattle.std.specs.List.{filter}
use Rattle.std.proofs.Common.{◌∙◌, refl, subst, sym, ap, inl, inr, arith}
use Rattle.std.proofs.{lemmas.Bool.cases_Bool, lemmas.Bool.Decides.nat_tests, lemmas.List.length-append}
use Rattle.std.proofs.{lemmas.List.length-map, lemmas.Option.slice_get_cases}
use Rattle.elf_image.specs.Image.{word_now}
use Rattle.events.specs.declared.event.Event.{Event}
use Rattle.events.specs.declared.event.Event.TheVariants.{Fetch, Decode, Rename, Issue, Complete, Drop, Retire, Refetch}
use Rattle.smt_model.specs.{Asks.AskFetch, Fates.fate, Fates.fetches, Fates.is_counted, Flights.added, Flights.numbers}
use Rattle.smt_model.specs.{Flights.icount, Memory.byte_at, Picture.picture, Rules.refused, Rules.is_legal}
use Rattle.smt_model.specs.{Jobs.is_actor, Setup.Setup}
use Rattle.smt_model.specs.Basics.{below, first_least, least_from, how_many, same_number}
use Rattle.smt_model.specs.Fetching.{is_after, turn, may_fetch, last_fetched, choice, fetch_pc}
use Rattle.smt_model.proofs.Allowed.{fetch_allowed, fetch_allows}
use Rattle.smt_laws.proofs.Fates.Choosing.{fetch_chosen}
use Rattle.smt_model.proofs.{Registers.Claims.member-below, Fates.Moves.same_number-is}
use Rattle.smt_laws.proofs.Steps.Fetch.{steps-Fetch}
use Rattle.smt_model.proofs.Lists.{member, member-append, member-behind, member-filter, filter-same}
use Rattle.core_parts.specs.Agree.{HartAgrees, EachAgrees, PartsAgree, From}
use Rattle.core_state.specs.{Answers.AllowsNone, Answers.CanFetch}
use Rattle.core_parts.specs.{declared.hart.HartState.HartState}
use Rattle.core_parts.specs.{declared.parts.Parts.Parts, declared.slot.Slot.Slot}
use Rattle.core_steps.specs.{declared.point.FetchPoint.FetchPoint}
use Rattle.core_steps.specs.Fetch.{has_room, may_fetch_at, count_at, next_hart, Fetches}
use Rattle.core_state.proofs.Steps.Asked.{some_of, same_self}

-- ---- The choice over the parts is the history's

-- What a hart's own parts say of it for the choice.
pub record SameForChoice (past : List Event) (harts : List HartState) (h : ℕ) : Type 0 where
  pub may : may_fetch_at harts h ≡ may_fetch past h
  pub count : count_at harts h ≡ icount past h

hart_same : (setup : Setup) (past : List Event) (h : ℕ) (x : HartState) → HartAgrees (picture setup past) h x
    → has_room x ≡ may_fetch past h
hart_same setup past h x agrees =
    let numbers =
    sym (length-map {A = Slot} {B = ℕ} x.decode_latch.items (λ s. s.seq)) ∙ ap length agrees.decode_latch in
    rw (agrees.status, numbers) refl

same_for_choice : (setup : Setup) (past : List Event) (harts : List HartState)
    → EachAgrees (picture setup past) harts → (h : ℕ)
    → h < length harts → SameForChoice past harts h
same_for_choice setup past harts agrees h inside =
    elim (slice_get_cases harts h).1 [
      | inl found ↦
          let is : HartAgrees (picture setup past) h found.0 =
          subst (HartAgrees (picture setup past) h) found.3 (agrees h found.0 inside) in
          record { may = rw found.2 (hart_same setup past h found.0 is); count = rw found.2 is.icount }
      | inr past_end ↦ absurd (let beyond = past_end.0 in omega arith)
    ]

turn-inside : (harts : ℕ) (last : Option ℕ) (h : ℕ) → member h (turn harts last) ≡ true → h < harts
turn-inside harts last h inside =
    let parts =
    member-append h (filter (is_after last) (below harts)) (filter (λ g. not (is_after last g)) (below harts)) in
    elim (cases_Bool (member h (filter (is_after last) (below harts)))) [
      | inl first_part ↦ member-below harts h (member-filter (is_after last) h (below harts) first_part).0
      | inr other ↦
          let second_part : member h (filter (λ g. not (is_after last g)) (below harts)) ≡ true = grind arith in
          member-below harts h (member-filter (λ g. not (is_after last g)) h (below harts) second_part).0
    ]

least_from-same : (f g : ℕ → ℕ) (best : ℕ) (xs : List ℕ) → f best ≡ g best → ((x : ℕ) → member x xs ≡ true → f x ≡ g x)
    → least_from f best xs ≡ least_from g best xs
least_from-same f g best [] here same = refl
least_from-same f g best (x ∷ xs) here same =
    let first_same : f x ≡ g x = same x (grind (arith, nat_tests)) in
    let rest : (y : ℕ) → member y xs ≡ true → f y ≡ g y = λ y inside. same y (member-behind x y xs inside) in
    let test : nat_lt (f x) (f best) ≡ nat_lt (g x) (g best) = rw (first_same, here) refl in
    elim (cases_Bool (nat_lt (g x) (g best))) [
      | inl less ↦ rw (test, less) (least_from-same f g x xs first_same rest)
      | inr more ↦ rw (test, more) (least_from-same f g best xs here rest)
    ]

first_least-same : (f g : ℕ → ℕ) (xs : List ℕ) → ((x : ℕ) → member x xs ≡ true → f x ≡ g x)
    → first_least f xs ≡ first_least g xs
first_least-same f g [] same = refl
first_least-same f g (x ∷ xs) same =
    ap Some
    (least_from-same f g x xs (same x (grind (arith, nat_tests)))
    (λ y inside. same y (member-behind x y xs inside)))

pub choice-is : (setup : Setup) (past : List Event) (harts : List HartState) (last : Option ℕ)
    → EachAgrees (picture setup past) harts
    → length harts ≡ setup.harts → last ≡ last_fetched past → next_hart harts last ≡ choice setup past
unfolding choice
choice-is setup past harts last agrees count same =
    let in_turn = turn (length harts) last in
    let each = λ (h : ℕ) (inside : member h in_turn ≡ true). same_for_choice setup past harts agrees h
    (turn-inside (length harts) last h inside) in
    first_least-same (count_at harts) (icount past) (filter (may_fetch_at harts) in_turn)
    (λ h inside. (each h (member-filter (may_fetch_at harts) h in_turn inside).0).count)
    ∙ (ap (first_least (icount past))
    (filter-same (may_fetch_at harts) (may_fetch past) in_turn (λ h inside. (each h inside).may))
    ∙ rw (count, same) refl)

-- ---- A fetch that is allowed

-- Where the next fetch is.
pub record IsNextFetch (setup : Setup) (past : List Event) (point : FetchPoint) : Type 0 where
  pub chosen : choice setup past ≡ Some point.hart
  pub pc : point.pc ≡ fetch_pc setup past point.hart
  pub word : point.word ≡ word_now setup.image (byte_at setup past) point.pc

equal : (m n : ℕ) → m ≡ n → (m == n) ≡ true
equal m n same = grind (arith, nat_tests)

pub fetch_can : (setup : Setup) (past : List Event) (actor : ℕ) (point : FetchPoint) → is_actor setup actor ≡ true
    → IsNextFetch setup past point → CanFetch setup past actor point
fetch_can setup past actor point is_one is = λ predicted.
    fetch_allows setup past actor point.hart (fetches past) point.pc point.word predicted (record {
      actor_is = is_one;
      chosen = rw is.chosen (same_self (Some point.hart));
      next_number = equal (fetches past) (fetches past) refl;
      pc_is = equal point.pc (fetch_pc setup past point.hart) is.pc;
      word_is = subst (λ w. same_number point.word w ≡ true) is.word (same_self point.word);
    })

how_many-within : (test : ℕ → Bool) (xs : List ℕ) → how_many test xs ≤ length xs
how_many-within test [] = omega arith
how_many-within test (x ∷ xs) =
    let rest = how_many-within test xs in
    elim (cases_Bool (test x)) [ inl kept ↦ rw kept (omega arith) | inr gone ↦ rw gone (omega arith) ]

one_added : (e : Event) (h : ℕ) → length (added e h) ≤ 1
one_added (Fetch actor hart seq pc word predicted) h =
    elim (cases_Bool (hart == h)) [ inl mine ↦ rw mine (omega arith) | inr other ↦ rw other (omega arith) ]
one_added (Decode actor seq) h = omega arith
one_added (Rename actor seq phys) h = omega arith
one_added (Issue actor seq) h = omega arith
one_added (Complete actor seq outcome) h = omega arith
one_added (Drop actor seq) h = omega arith
one_added (Retire actor seq effect) h = omega arith
one_added (Refetch actor seq) h = omega arith

numbers-within : (past : List Event) (h : ℕ) → length (numbers past h) ≤ length past
numbers-within [] h = omega arith
numbers-within (e ∷ past) h =
    omega (arith, numbers-within past h, one_added e h, length-append (numbers past h) (added e h))

pub icount-within : (past : List Event) (h : ℕ) → icount past h ≤ length past
icount-within past h =
    omega (arith, how_many-within (λ s. is_counted (fate past s)) (numbers past h), numbers-within past h)

pub fetch_from : (setup : Setup) (past : List Event) → is_legal setup past → (parts : Parts)
    → PartsAgree (picture setup past) parts
    → length parts.harts.items ≡ setup.harts → (actor h : ℕ) (slot : Slot) → length past < 16777216
    → refused setup past (Fetch actor h slot.seq slot.pc slot.word slot.predicted) ≡ None
    → From parts h (λ p q. Fetches p q h slot)
fetch_from setup past legal parts agrees count actor h slot short ok =
    let few = icount-within past h in
    let is_chosen = fetch_chosen setup past actor h slot.seq slot.pc slot.word slot.predicted ok in
    let there = is_chosen.there in
    record {
      before = picture setup past;
      after = picture setup (Fetch actor h slot.seq slot.pc slot.word slot.predicted ∷ past);
      inside = omega arith;
      agrees = agrees;
      step = record {
        room = is_chosen.room;
        few = omega arith;
        is = steps-Fetch setup past legal actor h slot.seq slot.pc slot.word slot.predicted ok;
      };
    }

-- ---- None is allowed

abbrev pub CannotFetch : Setup → List Event → ℕ → Type 0
CannotFetch setup past actor = is_actor setup actor ≡ true → (h : ℕ) → choice setup past ≡ Some h → ⊥

fetch_refused : (setup : Setup) (past : List Event) (actor hart seq pc : ℕ) (word : Option ℕ) (predicted : ℕ)
    → CannotFetch setup past actor
    → refused setup past (Fetch actor hart seq pc word predicted) ≡ None → ⊥
fetch_refused setup past actor hart seq pc word predicted cannot ok =
    let allowed = fetch_allowed setup past actor hart seq pc word predicted ok in
    cannot allowed.actor_is hart (same_number-is (choice setup past) (Some hart) allowed.chosen)

pub fetch_idle : (setup : Setup) (past : List Event) (k : ℕ) → CannotFetch setup past k
    → AllowsNone setup (AskFetch k) past
fetch_idle setup past k cannot (Fetch actor hart seq pc word predicted) answered =
    let same : actor ≡ k = grind (arith, nat_tests) in
    some_of (refused setup past (Fetch actor hart seq pc word predicted))
    (λ ok. fetch_refused setup past actor hart seq pc word predicted
    (subst (CannotFetch setup past) (sym same) cannot) ok)
fetch_idle setup past k cannot (Decode actor seq) answered = absurd (grind arith)
fetch_idle setup past k cannot (Rename actor seq phys) answered = absurd (grind arith)
fetch_idle setup past k cannot (Issue actor seq) answered = absurd (grind arith)
fetch_idle setup past k cannot (Complete actor seq outcome) answered = absurd (grind arith)
fetch_idle setup past k cannot (Drop actor seq) answered = absurd (grind arith)
fetch_idle setup past k cannot (Retire actor seq effect) answered = absurd (grind arith)
fetch_idle setup past k cannot (Refetch actor seq) answered = absurd (grind arith)
