-- The five steps of a turn: each is allowed, since its instruction is alone, and each leaves it alone one step further.
use Rattle.std.specs.Prelude.{◌≡◌, ◌≢◌, ℕ, ◌<◌, ◌≤◌, Bool, true, false, not, ◌==◌, ◌&&◌, ◌||◌, nat_lt}
use Rattle.std.specs.Prelude.{if◌then◌else◌, List, [], ◌∷◌, length, Option, Some, None, is_some}
use Rattle.std.proofs.Common.{◌∙◌, refl, sym, ap, subst, inl, inr, arith}
use Rattle.std.proofs.{lemmas.Bool.cases_Bool, lemmas.Bool.cases_eq, lemmas.Bool.Decides.nat_tests}
use Rattle.numbers.specs.Sizes.{latch_room, most_accesses, most_in_flight}
use Rattle.rv_instr.specs.{declared.op.Op.Op}
use Rattle.events.specs.{declared.event.Event.Event}
use Rattle.events.specs.declared.event.Event.TheVariants.{Decode, Rename}
use Rattle.smt_model.specs.Basics.{holds_of, same_truth, how_many}
use Rattle.smt_model.specs.{Setup.Setup, Setup.registers_of, Jobs.is_actor}
use Rattle.smt_model.specs.Kinds.{kind_of, is_loading, is_storing, writes_register}
use Rattle.smt_model.specs.Flights.{in_decode, in_rename, flight, queue, numbers, all_numbers}
use Rattle.smt_model.specs.Registers.{is_unclaimed}
use Rattle.smt_model.specs.Rules.{refused, is_legal, is_first, of_fetched}
use Rattle.smt_model.specs.Fates.{fate, is, is_of, is_in_flight, op_at, stage, InDecode, InRename}
use Rattle.smt_model.specs.Fates.{Renamed}
use Rattle.smt_model.proofs.Allowed.{decode_allows, rename_allows}
use Rattle.smt_model.proofs.Fates.Moves.{same_number-self, fate-kept}
use Rattle.smt_model.proofs.Fates.Numbers.{at_hart, known}
use Rattle.smt_laws.specs.Shown.{IsLeastFree}
use Rattle.smt_laws.proofs.Showing.{Spare.NothingFlies, Spare.spare}
use Rattle.smt_laws.proofs.Showing.Turns.{is_aside, IsRested, IsAlone, event-Decode}
use Rattle.smt_laws.proofs.Showing.Places.{FailsAside, place-empty, place-none, place-one, flies_not_aside}
use Rattle.smt_laws.proofs.Showing.Places.{is_parked, latch-oldest}

-- ---- Tests of a hart's place

pub oldest_test : (past : List Event) (place : ℕ → List ℕ) (h n : ℕ) (rest : List ℕ) → is_of past h n ≡ true
    → place h ≡ n ∷ rest → of_fetched past n (λ f. is_first n (place f.hart)) ≡ true
oldest_test past place h n rest of_n one =
    at_hart past (λ g. is_first n (place g)) h n of_n ∙ (ap (is_first n) one ∙ same_number-self (Some n))

room_test : (past : List Event) (place : ℕ → List ℕ) (count : List ℕ → ℕ) (room h n : ℕ) → is_of past h n ≡ true
    → place h ≡ [] → nat_lt (count []) room ≡ true → of_fetched past n (λ f. nat_lt (count (place f.hart)) room) ≡ true
room_test past place count room h n of_n none fits =
    at_hart past (λ g. nat_lt (count (place g)) room) h n of_n ∙ (ap (λ xs. nat_lt (count xs) room) none ∙ fits)

renames_not_aside : FailsAside (λ f. is f InRename)
renames_not_aside f aside = grind (arith, nat_tests)

waits_not_aside : FailsAside (λ f. is f Renamed)
waits_not_aside f aside = grind (arith, nat_tests)

told_self : {A : Type 0} → (n : ℕ) (a b : A) → (if n == n then a else b) ≡ a
told_self n a b = let same : (n == n) ≡ true = grind (arith, nat_tests) in rw same refl

-- ---- Decode

pub decode-ok : (setup : Setup) (past : List Event) → is_legal setup past → IsRested past → (actor h n : ℕ)
    → is_actor setup actor ≡ true → (rest : List ℕ) → in_decode past h ≡ n ∷ rest
    → refused setup past (Decode actor n) ≡ None
decode-ok setup past legal rested actor h n is_one rest latch =
    let it = is_parked setup past legal h n rest latch in
    decode_allows setup past actor n (record {
      actor_is = is_one;
      fated = it.waits;
      oldest = oldest_test past (in_decode past) h n rest it.of_hart latch;
      room = room_test past (in_rename past) length latch_room h n it.of_hart
          (place-empty past (λ f. is f InRename) renames_not_aside rested (numbers past h)) refl;
    })

still_aside : (at : ℕ) → 1 ≤ at → is_aside at ≡ true → (at ≡ 1 → ⊥) → 6 ≤ at
still_aside at low aside not_one =
    elim (cases_eq at 1) [
      | inl one ↦ absurd (not_one one)
      | inr other ↦ grind (arith, nat_tests)
    ]

stage-Decode : (past : List Event) (actor n : ℕ) → is (fate past n) InDecode ≡ true
    → stage (fate (Decode actor n ∷ past) n) ≡ 2
stage-Decode past actor n waits = grind (arith, nat_tests)

-- Between turns the oldest in a latch is the oldest on its way.
gone_before : (setup : Setup) (past : List Event) → is_legal setup past → IsRested past → (h n : ℕ) (rest : List ℕ)
    → in_decode past h ≡ n ∷ rest → (s : ℕ) → is_of past h s ≡ true → s < n → 6 ≤ stage (fate past s)
gone_before setup past legal rested h n rest latch s of_s under =
    still_aside (stage (fate past s)) (known setup past legal h s of_s) (rested s)
    (λ one. let above = latch-oldest setup past legal h n s rest latch of_s one in absurd (omega arith))

decode_kept : (past : List Event) (actor n s : ℕ) → s ≢ n → fate (Decode actor n ∷ past) s ≡ fate past s
decode_kept past actor n s other =
    fate-kept (Decode actor n) past s ((event-Decode past actor 0 n).tells s other) refl

pub decode-alone : (setup : Setup) (past : List Event) → is_legal setup past → IsRested past → (actor h n : ℕ)
    → (rest : List ℕ) → in_decode past h ≡ n ∷ rest → IsAlone (Decode actor n ∷ past) h n 2
decode-alone setup past legal rested actor h n rest latch =
    let it = is_parked setup past legal h n rest latch in
    record {
      of_hart = it.of_hart;
      stands = stage-Decode past actor n it.waits;
      others = λ s other. ap (λ f. is_aside (stage f)) (decode_kept past actor n s other) ∙ rested s;
      older = λ s of_s under.
          subst (λ f. 6 ≤ stage f) (sym (decode_kept past actor n s (λ same. absurd (omega arith))))
          (gone_before setup past legal rested h n rest latch s of_s under);
    }

-- ---- Rename

pub record IsTaking (setup : Setup) (past : List Event) (op : Op) : Type 0 where
  pub register : Option ℕ
  pub named : same_truth (is_some register) (writes_register op) ≡ true
  pub unclaimed :
      (not (is_some register) || holds_of (λ p. nat_lt p (registers_of setup) && is_unclaimed setup past p) register)
      ≡ true
  pub least : (p : ℕ) → register ≡ Some p → IsLeastFree setup past p

-- The least free register, where one is needed.
pub taking : (setup : Setup) (past : List Event) (op : Op) → 1 ≤ setup.extra → NothingFlies past
    → IsTaking setup past op
taking setup past op more none =
    elim (cases_Bool (writes_register op)) [
      | inl writes ↦
          let found = spare setup past more none in
          record {
            register = Some found.least;
            named = rw writes refl;
            unclaimed = found.passes;
            least = λ p same.
                let at : found.least ≡ p = grind arith in
                subst (IsLeastFree setup past) at (found.passes, found.first);
          }
      | inr not ↦ record {
        register = None;
        named = rw not refl;
        unclaimed = refl;
        least = λ p same. absurd (grind arith);
      }
    ]

pub nothing_flies : (past : List Event) (h n : ℕ) → IsAlone past h n 2 → NothingFlies past
nothing_flies past h n alone s =
    elim (cases_eq s n) [
      | inl here ↦
          let at : stage (fate past s) ≡ 2 = ap (λ z. stage (fate past z)) here ∙ alone.stands in
          grind (arith, nat_tests)
      | inr other ↦ flies_not_aside (fate past s) (alone.others s other)
    ]

if_one : (one rest : Bool) → rest ≡ true → (not one || rest) ≡ true
if_one one rest holds = grind arith

pub rename-ok : (setup : Setup) (past : List Event) → is_legal setup past → 1 ≤ setup.queue → (actor h n : ℕ)
    → is_actor setup actor ≡ true → IsAlone past h n 2 → (take : IsTaking setup past (op_at past n))
    → refused setup past (Rename actor n take.register) ≡ None
rename-ok setup past legal place actor h n is_one alone take =
    let none = nothing_flies past h n alone in
    let at = alone.stands in
    let decoded : is (fate past n) InRename ≡ true = grind (arith, nat_tests) in
    let not_flying : is_in_flight (fate past n) ≡ false = none n in
    let not_waiting : is (fate past n) Renamed ≡ false = grind (arith, nat_tests) in
    let empty : flight past h ≡ [] =
    place-none past is_in_flight flies_not_aside h n 2 alone not_flying (numbers past h) in
    let no_queue : queue past ≡ [] =
    place-none past (λ f. is f Renamed) waits_not_aside h n 2 alone not_waiting (all_numbers past) in
    rename_allows setup past actor n take.register (record {
      actor_is = is_one;
      fated = decoded;
      oldest = oldest_test past (in_rename past) h n [] alone.of_hart
          (place-one setup past legal (λ f. is f InRename) renames_not_aside h n 2 alone decoded);
      queue_room = ap (λ xs. nat_lt (length xs) setup.queue) no_queue ∙ (let room : nat_lt 0 setup.queue ≡ true = grind
          (arith, nat_tests) in room);
      flight_room = room_test past (flight past) length most_in_flight h n alone.of_hart empty refl;
      load_room = if_one (is_loading (kind_of (op_at past n))) _
          (room_test past (flight past) (how_many (λ s. is_loading (kind_of (op_at past s)))) most_accesses h n
          alone.of_hart empty refl);
      store_room = if_one (is_storing (kind_of (op_at past n))) _
          (room_test past (flight past) (how_many (λ s. is_storing (kind_of (op_at past s)))) most_accesses h n
          alone.of_hart empty refl);
      named = take.named;
      unclaimed = take.unclaimed;
    })

pub stage-Rename : (past : List Event) (actor n : ℕ) (register : Option ℕ) → stage (fate past n) ≡ 2
    → stage (fate (Rename actor n register ∷ past) n) ≡ 3
stage-Rename past actor n register was = grind (arith, nat_tests)
