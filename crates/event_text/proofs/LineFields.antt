-- The fields of an event's line: it is they, joined by spaces, and none has a space or a newline.

use Rattle.std.proofs.Common.{◌≡◌, ℕ, ◌*◌, ◌^◌, ◌<◌, ◌≤◌, false, List, [], ◌∷◌, ◌++◌, Option, None, Some, refl, ◌∙◌, ap}
use Rattle.std.proofs.Common.{arith, append_assoc, inl, inr}
use Rattle.std.specs.{Char.is_ascii_digit, Fmt.decimal, Prelude.IfSome, Prelude.min}
use Rattle.text_fields.specs.{Reading.is_hex_digit, Spelling.dash, Spelling.hex, Spelling.optional, Splitting.Lacks}
use Rattle.text_fields.proofs.LacksLaws.{Lacks-append, Lacks-decimal, Lacks-hex}
use Rattle.events.specs.{declared.effect.Next.Next, declared.effect.Next.TheVariants.Pc}
use Rattle.events.specs.{declared.effect.Next.TheVariants.Ended, declared.effect.Next.TheVariants.Stopped}
use Rattle.events.specs.{declared.effect.Written.Written, declared.event.Event.Event, Kind.event_kind, Kind.letter_of}
use Rattle.events.specs.declared.kind.EventKind.{EventKind}
use Rattle.events.specs.declared.kind.EventKind.TheVariants as kind
use Rattle.events.specs.{declared.effect.Effect.Effect, declared.effect.Outcome.Outcome}
use Rattle.events.specs.{Width.IsWidth}
use Rattle.events.specs.Range.{IsEffect, IsNext, IsOutcome}
use Rattle.events.specs.declared.event.Event.TheVariants.{Fetch, Decode, Rename, Issue, Complete}
use Rattle.events.specs.declared.event.Event.TheVariants.{Drop, Retire, Refetch}
use Rattle.event_text.specs.{declared.ranges.Ranges.Ranges}
use Rattle.event_text.specs.Line.{address_text, datum_text, line_of, next_text}
use Rattle.event_text.specs.Ranges.{HasActorAndNumber, IsEventWithin}
use Rattle.event_text.proofs.{Joining.AllLack, Joining.joined, Joining.Lacks-joined, Small.AreSmall}

-- a number of 1, 2 or 4 bytes is spelled with all of them
pub at_most_four : (n : ℕ) → IsWidth n → min n 4 ≡ n
at_most_four n (inl is) = rw is refl
at_most_four n (inr (inl is)) = rw is refl
at_most_four n (inr (inr is)) = rw is refl

-- the fields of an outcome and of an effect
abbrev pub outcome_fields : Outcome → List (List ℕ)
outcome_fields o =
    optional (hex 8) o.value ∷ next_text o.next ∷ optional (hex 8) o.addr ∷ optional (hex 8) o.datum
    ∷ optional (hex 2) o.out ∷ []

abbrev pub effect_fields : Effect → List (List ℕ)
effect_fields e =
    optional (hex 8) e.value ∷ next_text e.next ∷ address_text e.write ∷ datum_text e.write
    ∷ optional (hex 2) e.out ∷ []

-- the fields after the letter
abbrev pub fields_of : Event → List (List ℕ)
fields_of (Fetch actor hart seq pc word predicted) =
    decimal actor ∷ decimal hart ∷ decimal seq ∷ hex 8 pc ∷ optional (hex 8) word ∷ hex 8 predicted ∷ []
fields_of (Decode actor seq) = decimal actor ∷ decimal seq ∷ []
fields_of (Rename actor seq phys) = decimal actor ∷ decimal seq ∷ optional decimal phys ∷ []
fields_of (Issue actor seq) = decimal actor ∷ decimal seq ∷ []
fields_of (Complete actor seq outcome) = decimal actor ∷ decimal seq ∷ outcome_fields outcome
fields_of (Drop actor seq) = decimal actor ∷ decimal seq ∷ []
fields_of (Retire actor seq effect) = decimal actor ∷ decimal seq ∷ effect_fields effect
fields_of (Refetch actor seq) = decimal actor ∷ decimal seq ∷ []

step_joined : (letter : ℕ) (actor seq fields : List ℕ) →
    ((letter ∷ []) ++ (32 ∷ actor) ++ (32 ∷ seq)) ++ fields ≡ letter ∷ 32 ∷ (actor ++ 32 ∷ (seq ++ fields))
step_joined letter actor seq fields = ap (λ text. letter ∷ 32 ∷ text) (append_assoc actor (32 ∷ seq) fields)

five_joined : (a b c d e : List ℕ) →
    (32 ∷ a) ++ (32 ∷ b) ++ (32 ∷ c) ++ (32 ∷ d) ++ (32 ∷ e) ≡ 32 ∷ (a ++ 32 ∷ (b ++ 32 ∷ (c ++ 32 ∷ (d ++ 32 ∷ e))))
five_joined a b c d e = simp append_assoc

seven_joined : (letter : ℕ) (actor seq a b c d e : List ℕ) →
    ((letter ∷ []) ++ (32 ∷ actor) ++ (32 ∷ seq)) ++ ((32 ∷ a) ++ (32 ∷ b) ++ (32 ∷ c) ++ (32 ∷ d) ++ (32 ∷ e))
    ≡ letter ∷ 32 ∷ joined (actor ∷ seq ∷ a ∷ b ∷ c ∷ d ∷ e ∷ [])
seven_joined letter actor seq a b c d e =
    step_joined letter actor seq ((32 ∷ a) ++ (32 ∷ b) ++ (32 ∷ c) ++ (32 ∷ d) ++ (32 ∷ e))
    ∙ ap (λ text. letter ∷ 32 ∷ (actor ++ 32 ∷ (seq ++ text))) (five_joined a b c d e)

pub line_of-joined : (e : Event) → line_of e ≡ letter_of (event_kind e) ∷ 32 ∷ joined (fields_of e)
line_of-joined (Fetch actor hart seq pc word predicted) = simp append_assoc
line_of-joined (Decode actor seq) = simp append_assoc
line_of-joined (Rename actor seq phys) = simp append_assoc
line_of-joined (Issue actor seq) = simp append_assoc
line_of-joined (Complete actor seq o) =
    seven_joined 67 (decimal actor) (decimal seq) (optional (hex 8) o.value) (next_text o.next)
    (optional (hex 8) o.addr) (optional (hex 8) o.datum) (optional (hex 2) o.out)
line_of-joined (Drop actor seq) = simp append_assoc
line_of-joined (Retire actor seq e) =
    seven_joined 84 (decimal actor) (decimal seq) (optional (hex 8) e.value) (next_text e.next) (address_text e.write)
    (datum_text e.write) (optional (hex 2) e.out)
line_of-joined (Refetch actor seq) = simp append_assoc

-- A byte that stands in no field: no digit, no letter of what comes next, and no dash.
pub record IsApart (byte : ℕ) : Type 0 where
  pub digits : is_ascii_digit byte ≡ false
  pub hex_digits : is_hex_digit byte ≡ false
  pub pc : Lacks byte (112 ∷ [])
  pub status : Lacks byte (101 ∷ [])
  pub cause : Lacks byte (115 ∷ [])
  pub dashes : Lacks byte dash

pub space : IsApart 32
space = record {
  digits = refl;
  hex_digits = refl;
  pc = refl;
  status = refl;
  cause = refl;
  dashes = refl;
}

pub newline : IsApart 10
newline = record {
  digits = refl;
  hex_digits = refl;
  pc = refl;
  status = refl;
  cause = refl;
  dashes = refl;
}

-- the fields lack it
module _ (byte : ℕ) (apart : IsApart byte) where
  pub next_lacks : (n : Next) → IsNext n → Lacks byte (next_text n)
  next_lacks (Pc pc) within =
      Lacks-append byte (112 ∷ []) (hex 8 pc) apart.pc (Lacks-hex byte 8 pc apart.hex_digits)
  next_lacks (Ended status) within =
      Lacks-append byte (101 ∷ []) (hex 8 status) apart.status (Lacks-hex byte 8 status apart.hex_digits)
  next_lacks (Stopped cause) within =
      Lacks-append byte (115 ∷ []) (decimal cause) apart.cause (Lacks-decimal byte cause apart.digits (omega arith))

  pub optional_hex_lacks : (count : ℕ) (o : Option ℕ) → Lacks byte (optional (hex count) o)
  optional_hex_lacks count None = apart.dashes
  optional_hex_lacks count (Some n) = Lacks-hex byte count n apart.hex_digits

  pub address_lacks : (w : Option Written) → Lacks byte (address_text w)
  address_lacks None = apart.dashes
  address_lacks (Some w) = Lacks-hex byte 8 w.addr apart.hex_digits

  pub datum_lacks : (w : Option Written) → Lacks byte (datum_text w)
  datum_lacks None = apart.dashes
  datum_lacks (Some w) = Lacks-hex byte (2 * min w.n 4) w.datum apart.hex_digits

  outcome_lacks : (o : Outcome) → IsOutcome o → AllLack byte (outcome_fields o)
  outcome_lacks o within = (
    optional_hex_lacks 8 o.value,
    (next_lacks o.next within.next, (optional_hex_lacks 8 o.addr, (optional_hex_lacks 8 o.datum, (optional_hex_lacks 2 o.out, tt)))),
  )

  effect_lacks : (e : Effect) → IsEffect e → AllLack byte (effect_fields e)
  effect_lacks e within = (
    optional_hex_lacks 8 e.value,
    (next_lacks e.next within.next, (address_lacks e.write, (datum_lacks e.write, (optional_hex_lacks 2 e.out, tt)))),
  )

  number_lacks : (n most : ℕ) → n ≤ most → most < 2 ^ 32 → Lacks byte (decimal n)
  number_lacks n most within small = Lacks-decimal byte n apart.digits (omega (arith, within, small))

  module _ (ranges : Ranges) (small : AreSmall ranges) where
    phys_lacks : (phys : Option ℕ) → IfSome phys (λ p. p ≤ ranges.phys) → Lacks byte (optional decimal phys)
    phys_lacks None within = apart.dashes
    phys_lacks (Some p) within = number_lacks p ranges.phys within small.phys

    actor_lacks : (actor : ℕ) → actor ≤ ranges.actor → Lacks byte (decimal actor)
    actor_lacks actor within = number_lacks actor ranges.actor within small.actor

    seq_lacks : (seq : ℕ) → seq ≤ ranges.seq → Lacks byte (decimal seq)
    seq_lacks seq within = number_lacks seq ranges.seq within small.seq

    -- the two numbers with which most lines begin, and what stands behind them
    moved_lacks : (actor seq : ℕ) (fields : List (List ℕ)) → HasActorAndNumber ranges actor seq → AllLack byte fields
        → AllLack byte (decimal actor ∷ decimal seq ∷ fields)
    moved_lacks actor seq fields within lack = (actor_lacks actor within.0, (seq_lacks seq within.1, lack))

    fields_lack : (e : Event) → IsEventWithin ranges e → AllLack byte (fields_of e)
    fields_lack (Fetch actor hart seq pc word predicted) within = (
      actor_lacks actor within.0.0,
      (
        number_lacks hart ranges.hart within.1 small.hart,
        (
          seq_lacks seq within.0.1,
          (Lacks-hex byte 8 pc apart.hex_digits, (optional_hex_lacks 8 word, (Lacks-hex byte 8 predicted apart.hex_digits, tt))),
        ),
      ),
    )
    fields_lack (Decode actor seq) within = moved_lacks actor seq [] within tt
    fields_lack (Rename actor seq phys) within =
        moved_lacks actor seq (optional decimal phys ∷ []) within.0 (phys_lacks phys within.1, tt)
    fields_lack (Issue actor seq) within = moved_lacks actor seq [] within tt
    fields_lack (Complete actor seq o) within =
        moved_lacks actor seq (outcome_fields o) within.0 (outcome_lacks o within.1)
    fields_lack (Drop actor seq) within = moved_lacks actor seq [] within tt
    fields_lack (Retire actor seq e) within = moved_lacks actor seq (effect_fields e) within.0 (effect_lacks e within.1)
    fields_lack (Refetch actor seq) within = moved_lacks actor seq [] within.0 tt

letter_lacks : (k : EventKind) → Lacks 10 (letter_of k ∷ 32 ∷ [])
letter_lacks kind.Fetch = refl
letter_lacks kind.Decode = refl
letter_lacks kind.Rename = refl
letter_lacks kind.Issue = refl
letter_lacks kind.Complete = refl
letter_lacks kind.Drop = refl
letter_lacks kind.Retire = refl
letter_lacks kind.Refetch = refl

-- so a line has no newline
pub line_lacks : (ranges : Ranges) → AreSmall ranges → (e : Event) → IsEventWithin ranges e → Lacks 10 (line_of e)
line_lacks ranges small e within =
    rw line_of-joined
    (Lacks-append 10 (letter_of (event_kind e) ∷ 32 ∷ []) (joined (fields_of e)) (letter_lacks (event_kind e))
    (Lacks-joined 10 (fields_of e) refl (fields_lack 10 newline ranges small e within)))
