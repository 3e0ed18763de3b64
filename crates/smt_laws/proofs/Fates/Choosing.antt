-- Who is fetched: a hart that is there, goes, and has room. So every instruction is of a hart that is there, and one
-- that has ended or stopped has nothing left on its way.
use Rattle.std.specs.Prelude.{◌≡◌, ℕ, ◌<◌, ◌≤◌, Bool, true, false, not, ◌==◌, ◌&&◌, ◌||◌, nat_lt, nat_le, if◌then◌else◌}
use Rattle.std.specs.Prelude.{List, [], ◌∷◌, length, Option, Some, None}
use Rattle.std.specs.List.{filter}
use Rattle.std.proofs.Common.{◌∙◌, refl, subst, inl, inr, arith}
use Rattle.std.proofs.{lemmas.Bool.cases_Bool, lemmas.Bool.cases_eq, lemmas.Bool.cases_lt}
use Rattle.std.proofs.{lemmas.Bool.Decides.nat_tests}
use Rattle.numbers.specs.Sizes.{latch_room}
use Rattle.events.specs.{declared.effect.Next.Next, declared.effect.Next.TheVariants.Pc}
use Rattle.events.specs.{declared.effect.Next.TheVariants.Ended, declared.effect.Next.TheVariants.Stopped}
use Rattle.events.specs.{declared.effect.Effect.Effect, declared.event.Event.Event}
use Rattle.events.specs.declared.event.Event.TheVariants.{Fetch, Decode, Rename, Issue, Complete, Drop, Retire, Refetch}
use Rattle.smt_model.specs.{declared.config.Status.Status, Basics.below, Basics.first_least, Basics.least_from}
use Rattle.smt_model.specs.{Setup.Setup, Nexts.is_last, Plain.is_going_status, Plain.status_after, Flights.in_decode}
use Rattle.smt_model.specs.{Flights.icount, Memory.status, Memory.is_going, Rules.refused, Rules.is_legal}
use Rattle.smt_model.specs.Fates.{stage, fate, is_live, is_of, same_hart, squashes_at_retirement, squashes, fate_by}
use Rattle.smt_model.specs.Fetching.{is_after, turn, may_fetch, last_fetched, choice}
use Rattle.smt_model.proofs.Lists.{member, member-behind, member-append, member-filter}
use Rattle.smt_model.proofs.{Allowed.fetch_allowed, Fates.Sound.moved, Fates.Numbers.known, Fates.Numbers.same_hart-at}
use Rattle.smt_laws.proofs.Fates.Order.{in_order, retire_front}
use Rattle.smt_model.proofs.Registers.Claims.{member-below}
use Rattle.smt_model.proofs.Fates.Moves.{moves, same_number-is, retire_was, stage-squashed, stage-retired_as}

-- ---- The choice

or_swap : (a b c : Bool) → (a || c) ≡ true → (a || (b || c)) ≡ true
or_swap a b c some = grind arith

either : (test : Bool) (P : ℕ → Type 0) (x y : ℕ) → P x → P y → P (if test then x else y)
either true P x y p q = p
either false P x y p q = q

least-member : (f : ℕ → ℕ) (best : ℕ) (xs : List ℕ) → member (least_from f best xs) (best ∷ xs) ≡ true
least-member f best [] = grind (arith, nat_tests)
least-member f best (x ∷ xs) =
    either (nat_lt (f x) (f best)) (λ z. member z (best ∷ x ∷ xs) ≡ true) (least_from f x xs) (least_from f best xs)
    (member-behind best (least_from f x xs) (x ∷ xs) (least-member f x xs))
    (or_swap (best == least_from f best xs) (x == least_from f best xs) (member (least_from f best xs) xs)
    (least-member f best xs))

first_least-member : (f : ℕ → ℕ) (xs : List ℕ) (h : ℕ) → first_least f xs ≡ Some h → member h xs ≡ true
first_least-member f [] h found = absurd (grind arith)
first_least-member f (x ∷ xs) h found =
    let at : least_from f x xs ≡ h = grind arith in subst (λ z. member z (x ∷ xs) ≡ true) at (least-member f x xs)

turn-there : (harts : ℕ) (last : Option ℕ) (h : ℕ) → member h (turn harts last) ≡ true → h < harts
turn-there harts last h inside =
    let parts =
    member-append h (filter (is_after last) (below harts)) (filter (λ g. not (is_after last g)) (below harts)) in
    elim (cases_Bool (member h (filter (is_after last) (below harts)))) [
      | inl first_part ↦ member-below harts h (member-filter (is_after last) h (below harts) first_part).0
      | inr other ↦
          let second_part : member h (filter (λ g. not (is_after last g)) (below harts)) ≡ true = grind arith in
          member-below harts h (member-filter (λ g. not (is_after last g)) h (below harts) second_part).0
    ]

-- The chosen hart.
pub record IsChosen (setup : Setup) (past : List Event) (h : ℕ) : Type 0 where
  pub there : h < setup.harts
  pub going : is_going past h ≡ true
  pub room : length (in_decode past h) < latch_room

pub chosen : (setup : Setup) (past : List Event) (h : ℕ) → choice setup past ≡ Some h → IsChosen setup past h
unfolding choice
chosen setup past h found =
    let harts = turn setup.harts (last_fetched past) in
    let inside = first_least-member (icount past) (filter (may_fetch past) harts) h found in
    let passes = member-filter (may_fetch past) h harts inside in
    let may : (is_going past h && nat_lt (length (in_decode past h)) latch_room) ≡ true = passes.1 in
    record {
      there = turn-there setup.harts (last_fetched past) h passes.0;
      going = grind arith;
      room = grind (arith, nat_tests);
    }

pub fetch_chosen : (setup : Setup) (past : List Event) (actor hart n pc : ℕ) (word : Option ℕ) (predicted : ℕ)
    → refused setup past (Fetch actor hart n pc word predicted) ≡ None → IsChosen setup past hart
fetch_chosen setup past actor hart n pc word predicted ok =
    chosen setup past hart
    (same_number-is (choice setup past) (Some hart)
    (fetch_allowed setup past actor hart n pc word predicted ok).chosen)

-- ---- Every instruction is of a hart that is there

pub hart_there : (setup : Setup) (past : List Event) → is_legal setup past → (h s : ℕ) → is_of past h s ≡ true
    → h < setup.harts
hart_there setup [] legal h s of_s = absurd (grind arith)
hart_there setup (Fetch actor hart n pc word predicted ∷ past) legal h s of_s =
    elim (cases_Bool (n == s)) [
      | inl here ↦
          let same : (hart == h) ≡ true = rw here at of_s in
          let there = (fetch_chosen setup past actor hart n pc word predicted legal.0).there in
          grind (arith, nat_tests)
      | inr other ↦ hart_there setup past legal.1 h s (rw other at of_s)
    ]
hart_there setup (Decode actor n ∷ past) legal h s of_s = hart_there setup past legal.1 h s of_s
hart_there setup (Rename actor n register ∷ past) legal h s of_s = hart_there setup past legal.1 h s of_s
hart_there setup (Issue actor n ∷ past) legal h s of_s = hart_there setup past legal.1 h s of_s
hart_there setup (Complete actor n outcome ∷ past) legal h s of_s = hart_there setup past legal.1 h s of_s
hart_there setup (Drop actor n ∷ past) legal h s of_s = hart_there setup past legal.1 h s of_s
hart_there setup (Retire actor n effect ∷ past) legal h s of_s = hart_there setup past legal.1 h s of_s
hart_there setup (Refetch actor n ∷ past) legal h s of_s = hart_there setup past legal.1 h s of_s

-- ---- A hart that has ended or stopped has nothing on its way

abbrev pub IsLeft : List Event → ℕ → Type 0
IsLeft past h = (s : ℕ) → is_of past h s ≡ true → is_live (fate past s) ≡ false

pub left_on : (a b : ℕ) → moves a b ≡ true → 1 ≤ a → (nat_le 1 a && nat_le a 5) ≡ false
    → (nat_le 1 b && nat_le b 5) ≡ false
left_on a b move known_before left = grind (arith, nat_tests)

left-next : (setup : Setup) (past : List Event) → is_legal setup past → (e : Event)
    → refused setup past e ≡ None → (h : ℕ)
    → IsLeft past h → (s : ℕ) → is_of past h s ≡ true → is_live (fate (e ∷ past) s) ≡ false
left-next setup past legal e ok h left s of_s =
    left_on (stage (fate past s)) (stage (fate (e ∷ past) s)) (moved setup past legal e ok s)
    (known setup past legal h s of_s) (left s of_s)

-- What retires and ends or stops its hart leaves nothing of it.
pub last_squashes_at_retirement : (past : List Event) (n : ℕ) (effect : Effect) → is_last effect.next ≡ true
    → squashes_at_retirement past n effect ≡ true
unfolding squashes_at_retirement
last_squashes_at_retirement past n effect last = rw last refl

squash_all : (squashes_it : Bool) (n s : ℕ) (same : Bool) → squashes_it ≡ true → n < s → same ≡ true
    → (squashes_it && (nat_lt n s && same)) ≡ true
squash_all squashes_it n s same a b c = grind (arith, nat_tests)

left-Retire : (setup : Setup) (past : List Event) → is_legal setup past → (actor n : ℕ) (effect : Effect)
    → refused setup past (Retire actor n effect) ≡ None → (h : ℕ) → is_of past h n ≡ true → is_last effect.next ≡ true
    → IsLeft (Retire actor n effect ∷ past) h
left-Retire setup past legal actor n effect ok h of_n last s of_s =
    let e = Retire actor n effect in
    let was = retire_was setup past actor n effect ok in
    elim (cases_lt n s) [
      | inl above ↦
          let same : same_hart past n s ≡ true = same_hart-at past h n s of_n ∙ of_s in
          let squashes_it : squashes e past s ≡ true =
          squash_all (squashes_at_retirement past n effect) n s (same_hart past n s)
          (last_squashes_at_retirement past n effect last) above same in
          let tells : fate_by e s ≡ None = grind (arith, nat_tests) in
          elim (cases_Bool (is_live (fate past s))) [
            | inl lived ↦
                let gone =
                stage-squashed e past s tells squashes_it (grind (arith, nat_tests)) (grind (arith, nat_tests)) in
                grind (arith, nat_tests)
            | inr left ↦ left_on (stage (fate past s)) (stage (fate (e ∷ past) s)) (moved setup past legal e ok s)
                (known setup past legal h s of_s) left
          ]
      | inr upto ↦
          elim (cases_eq s n) [
            | inl here ↦ let as_told = stage-retired_as effect in grind (arith, nat_tests)
            | inr other ↦
                let order = in_order setup past legal h s n of_s of_n (omega arith) (omega arith) in
                let passed = retire_front setup past legal actor n effect ok h s of_s of_n (omega arith) in
                let left : is_live (fate past s) ≡ false = grind (arith, nat_tests) in
                left_on (stage (fate past s)) (stage (fate (e ∷ past) s)) (moved setup past legal e ok s)
                (known setup past legal h s of_s) left
          ]
    ]

going_on : (next : Next) (before : Status) → is_going_status (status_after next before) ≡ false → is_last next ≡ false
    → is_going_status before ≡ false
going_on (Pc pc) before gone going = gone
going_on (Ended n) before gone going = absurd (grind arith)
going_on (Stopped cause) before gone going = absurd (grind arith)

still_gone : (next : Next) (before : Status) (mine : Bool) → (mine && is_last next) ≡ false
    → is_going_status (if mine then status_after next before else before) ≡ false → is_going_status before ≡ false
still_gone next before true goes_on gone = going_on next before gone goes_on
still_gone next before false goes_on gone = gone

another : (past : List Event) (hart h : ℕ) → is_going past hart ≡ true → is_going past h ≡ false → (hart == h) ≡ false
another past hart h goes gone =
    elim (cases_Bool (hart == h)) [
      | inl here ↦ let same : hart ≡ h = grind (arith, nat_tests) in absurd (grind arith)
      | inr other ↦ other
    ]

pub left : (setup : Setup) (past : List Event) → is_legal setup past → (h : ℕ) → is_going past h ≡ false → IsLeft past h
left setup [] legal h gone s of_s = absurd (grind arith)
left setup (Fetch actor hart n pc word predicted ∷ past) legal h gone s of_s =
    let e = Fetch actor hart n pc word predicted in
    let goes = (fetch_chosen setup past actor hart n pc word predicted legal.0).going in
    let other : (hart == h) ≡ false = another past hart h goes gone in
    let before : is_of past h s ≡ true = grind (arith, nat_tests) in
    left-next setup past legal.1 e legal.0 h (left setup past legal.1 h gone) s before
left setup (Decode actor n ∷ past) legal h gone s of_s =
    left-next setup past legal.1 (Decode actor n) legal.0 h (left setup past legal.1 h gone) s of_s
left setup (Rename actor n register ∷ past) legal h gone s of_s =
    left-next setup past legal.1 (Rename actor n register) legal.0 h (left setup past legal.1 h gone) s of_s
left setup (Issue actor n ∷ past) legal h gone s of_s =
    left-next setup past legal.1 (Issue actor n) legal.0 h (left setup past legal.1 h gone) s of_s
left setup (Complete actor n outcome ∷ past) legal h gone s of_s =
    left-next setup past legal.1 (Complete actor n outcome) legal.0 h (left setup past legal.1 h gone) s of_s
left setup (Drop actor n ∷ past) legal h gone s of_s =
    left-next setup past legal.1 (Drop actor n) legal.0 h (left setup past legal.1 h gone) s of_s
left setup (Retire actor n effect ∷ past) legal h gone s of_s =
    elim (cases_Bool (is_of past h n && is_last effect.next)) [
      | inl ends ↦ left-Retire setup past legal.1 actor n effect legal.0 h (grind arith) (grind arith) s of_s
      | inr goes_on ↦
          left-next setup past legal.1 (Retire actor n effect) legal.0 h
          (left setup past legal.1 h (still_gone effect.next (status past h) (is_of past h n) goes_on gone)) s of_s
    ]
left setup (Refetch actor n ∷ past) legal h gone s of_s =
    left-next setup past legal.1 (Refetch actor n) legal.0 h (left setup past legal.1 h gone) s of_s
