-- Which decodes a history allows: that of the oldest in a decode latch, where the rename latch has room.
use Rattle.std.specs.Prelude.{◌≡◌, ℕ, ◌<◌, true, nat_lt, List, ◌∷◌, length, Some, None}
use Rattle.std.proofs.Common.{◌∙◌, subst, sym, ap, arith}
use Rattle.std.proofs.lemmas.Bool.Decides.{nat_tests}
use Rattle.numbers.specs.Sizes.{latch_room}
use Rattle.events.specs.declared.event.Event.{Event}
use Rattle.events.specs.declared.event.Event.TheVariants.{Fetch, Decode, Rename, Issue, Complete, Drop, Retire, Refetch}
use Rattle.smt_model.specs.{Asks.AskDecode, Basics.first, Basics.same_number, Flights.numbers, Flights.in_decode}
use Rattle.smt_model.specs.{Flights.in_rename, Picture.picture, Rules.refused, Rules.is_first, Rules.is_legal}
use Rattle.smt_model.specs.{Jobs.is_actor, Setup.Setup}
use Rattle.smt_model.specs.Fates.{fate, is, is_of, InDecode}
use Rattle.smt_model.proofs.Allowed.{decode_allowed, decode_allows}
use Rattle.smt_laws.proofs.Fates.Choosing.{hart_there}
use Rattle.smt_model.proofs.{Lists.first-member, Lists.member-filter, Fates.Moves.same_number-is, Fates.Numbers.at_hart}
use Rattle.smt_model.proofs.Fates.Numbers.{numbers-of}
use Rattle.smt_laws.proofs.Steps.Decode.{steps-Decode}
use Rattle.core_parts.specs.{Agree.PartsAgree, Agree.From}
use Rattle.core_steps.specs.{Decode.CanDecode, Decode.Decodes}
use Rattle.core_state.specs.{Answers.AllowsNone}
use Rattle.core_parts.specs.{declared.parts.Parts.Parts}
use Rattle.core_state.proofs.Steps.Asked.{some_of, same_self}

-- The oldest in hart h's decode latch is one of the hart, and in decode.
pub record IsOldest (past : List Event) (h s : ℕ) : Type 0 where
  pub of_hart : is_of past h s ≡ true
  pub fated : is (fate past s) InDecode ≡ true

pub oldest_is : (setup : Setup) (past : List Event) → is_legal setup past → (h s : ℕ)
    → first (in_decode past h) ≡ Some s → IsOldest past h s
oldest_is setup past legal h s oldest =
    let inside =
    member-filter (λ t. is (fate past t) InDecode) s (numbers past h) (first-member (in_decode past h) s oldest) in
    record { of_hart = numbers-of setup past legal h s inside.0; fated = inside.1 }

pub decode_can : (setup : Setup) (past : List Event) → is_legal setup past → (actor h s : ℕ)
    → is_actor setup actor ≡ true
    → CanDecode (picture setup past) h s → refused setup past (Decode actor s) ≡ None
decode_can setup past legal actor h s is_one can =
    let oldest = oldest_is setup past legal h s can.oldest in
    let room = can.room in
    decode_allows setup past actor s (record {
      actor_is = is_one;
      fated = oldest.fated;
      oldest = at_hart past (λ g. is_first s (in_decode past g)) h s oldest.of_hart
          ∙ (ap (λ o. same_number o (Some s)) can.oldest ∙ same_self (Some s));
      room = at_hart past (λ g. nat_lt (length (in_rename past g)) latch_room) h s oldest.of_hart ∙ grind (
        arith,
        nat_tests,
      );
    })

pub can_decode : (setup : Setup) (past : List Event) (actor h s : ℕ) → is_of past h s ≡ true
    → refused setup past (Decode actor s) ≡ None
    → CanDecode (picture setup past) h s
can_decode setup past actor h s of_hart ok =
    let allowed = decode_allowed setup past actor s ok in
    let room : nat_lt (length (in_rename past h)) latch_room ≡ true =
    sym (at_hart past (λ g. nat_lt (length (in_rename past g)) latch_room) h s of_hart) ∙ allowed.room in
    record {
      oldest = same_number-is (first (in_decode past h)) (Some s)
          (sym (at_hart past (λ g. is_first s (in_decode past g)) h s of_hart) ∙ allowed.oldest);
      room = grind (arith, nat_tests);
    }

pub decode_from : (setup : Setup) (past : List Event) → is_legal setup past → (parts : Parts)
    → PartsAgree (picture setup past) parts
    → (actor h s : ℕ) → h < length parts.harts.items → CanDecode (picture setup past) h s
    → refused setup past (Decode actor s) ≡ None
    → From parts h (λ p q. Decodes p q h)
decode_from setup past legal parts agrees actor h s inside can ok =
    let of_hart = (oldest_is setup past legal h s can.oldest).of_hart in
    record {
      before = picture setup past;
      after = picture setup (Decode actor s ∷ past);
      inside = inside;
      agrees = agrees;
      step = record { number = s; can = can; is = steps-Decode setup past legal actor s ok h of_hart };
    }

-- ---- None is allowed

abbrev pub CannotDecode : Setup → List Event → ℕ → ℕ → Type 0
CannotDecode setup past actor h =
    is_actor setup actor ≡ true → h < setup.harts → (s : ℕ) → CanDecode (picture setup past) h s → ⊥

decode_refused : (setup : Setup) (past : List Event) → is_legal setup past → (actor h s : ℕ)
    → CannotDecode setup past actor h
    → is_of past h s ≡ true → refused setup past (Decode actor s) ≡ None → ⊥
decode_refused setup past legal actor h s cannot of_hart ok =
    cannot (decode_allowed setup past actor s ok).actor_is (hart_there setup past legal h s of_hart) s
    (can_decode setup past actor h s of_hart ok)

pub decode_idle : (setup : Setup) (past : List Event) → is_legal setup past → (k h : ℕ) → CannotDecode setup past k h
    → AllowsNone setup (AskDecode k h) past
decode_idle setup past legal k h cannot (Decode actor s) answered =
    let same : actor ≡ k = grind (arith, nat_tests) in
    let of_hart : is_of past h s ≡ true = grind arith in
    some_of (refused setup past (Decode actor s))
    (λ ok. decode_refused setup past legal k h s cannot of_hart
    (subst (λ a. refused setup past (Decode a s) ≡ None) same ok))
decode_idle setup past legal k h cannot (Fetch actor hart seq pc word predicted) answered = absurd (grind arith)
decode_idle setup past legal k h cannot (Rename actor seq phys) answered = absurd (grind arith)
decode_idle setup past legal k h cannot (Issue actor seq) answered = absurd (grind arith)
decode_idle setup past legal k h cannot (Complete actor seq outcome) answered = absurd (grind arith)
decode_idle setup past legal k h cannot (Drop actor seq) answered = absurd (grind arith)
decode_idle setup past legal k h cannot (Retire actor seq effect) answered = absurd (grind arith)
decode_idle setup past legal k h cannot (Refetch actor seq) answered = absurd (grind arith)
