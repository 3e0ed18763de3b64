-- The readings of the definitions, as fields in turn: of an outcome, an effect, and the event of each kind.

use Rattle.std.proofs.Common.{◌≡◌, ℕ, ◌*◌, ◌<◌, ◌≤◌, List, ◌∷◌, ◌++◌, Option, None, Some, Ok, refl, sym, ◌∙◌, ap}
use Rattle.std.specs.{Fmt.decimal, Prelude.IfSome, Prelude.min}
use Rattle.text_fields.specs.{Reading.decimal_field, Spelling.hex}
use Rattle.text_fields.specs.{Spelling.optional}
use Rattle.events.specs.{declared.effect.Effect.Effect, declared.effect.Outcome.Outcome}
use Rattle.events.specs.{declared.effect.Written.Written, declared.event.Event.Event, Kind.fields_after}
use Rattle.events.specs.declared.event.Event.TheVariants.{Fetch, Decode, Rename, Issue, Complete}
use Rattle.events.specs.declared.event.Event.TheVariants.{Drop, Retire, Refetch}
use Rattle.events.specs.declared.kind.EventKind.{EventKind}
use Rattle.events.specs.declared.kind.EventKind.TheVariants as kind
use Rattle.events.specs.{Range.IsEffect, Range.IsNext, Range.IsOutcome, Range.IsWord, Range.IsWritten}
use Rattle.event_text.specs.{declared.ranges.Ranges.Ranges, Line.address_text, Line.datum_text, Line.next_text}
use Rattle.event_text.specs.Reading.{complete_of, decode_of, drop_of, effect_of, event_fields, fetch_of, issue_of}
use Rattle.event_text.specs.Reading.{outcome_of, refetch_of, rename_of, retire_of, written_of}
use Rattle.event_text.proofs.{LineFields.at_most_four, LineFields.effect_fields, LineFields.outcome_fields}
use Rattle.event_text.proofs.{Joining.joined, Small.AreSmall}
use Rattle.event_text.proofs.FieldLaws.{IsSized, next, number, optional_byte, optional_number, optional_sized}
use Rattle.event_text.proofs.FieldLaws.{optional_word, sized_text, word}
use Rattle.event_text.proofs.Sequences.{After, after, Alone, alone, Before, before, IsField, IsReading, Made, made}
use Rattle.event_text.proofs.Sequences.{said}

abbrev IsByte : ℕ → Type 0
IsByte byte = byte < 256

-- the fields of an outcome
abbrev OutcomeParts : Outcome → List ℕ → Type 0
OutcomeParts = Before (optional (hex 8)) (λ o. IfSome o IsWord) (λ value.
    Before next_text IsNext (λ next. Before (optional (hex 8)) (λ o. IfSome o IsWord) (λ addr.
    Before (optional (hex 8)) (λ o. IfSome o IsWord) (λ datum.
    Made (Alone (optional (hex 2)) (λ o. IfSome o IsByte)) (λ out.
    Ok (record { value = value; next = next; addr = addr; datum = datum; out = out }))))))

abbrev pub SpellsOutcome : Outcome → List ℕ → Type 0
SpellsOutcome o text = IsOutcome o × (text ≡ joined (outcome_fields o))

outcome_to : (o : Outcome) (text : List ℕ) → OutcomeParts o text → SpellsOutcome o text
outcome_to o text (
  value,
  v,
  t1,
  is1,
  (
    next,
    n,
    t2,
    is2,
    (
      addr,
      a,
      t3,
      is3,
      (datum, d, t4, is4, (out, (b, is5), makes)),
    ),
  ),
) =
    let same : ◌≡◌ {A = Outcome} (record { value = value; next = next; addr = addr; datum = datum; out = out }) o =
    cc makes in
    rw (← same) (
      record { value = v; next = n; addr = a; datum = d; out = b },
      is1 ∙ rw (is2, is3, is4, is5) refl,
    )

outcome_from : (o : Outcome) (text : List ℕ) → SpellsOutcome o text → OutcomeParts o text
outcome_from o text (within, is) = (
  o.value,
  within.value,
  _,
  is,
  (
    o.next,
    within.next,
    _,
    refl,
    (
      o.addr,
      within.addr,
      _,
      refl,
      (o.datum, within.datum, _, refl, (o.out, (within.out, refl), refl)),
    ),
  ),
)

outcome_reading : {Small : Type 0} → IsReading Small 5 outcome_of SpellsOutcome
unfolding outcome_of
outcome_reading =
    said outcome_to outcome_from (before 4 _ optional_word (λ value. before 3 _ next (λ next.
    before 2 _ optional_word (λ addr. before 1 _ optional_word (λ datum. made _ (alone optional_byte))))))

-- a write, from its two fields and into them
written_only : (addr : Option ℕ) (number : Option (ℕ × ℕ)) (w : Option Written) → IfSome addr IsWord
    → IfSome number IsSized → written_of addr number ≡ Ok w
    → IfSome w IsWritten × (optional (hex 8) addr ≡ address_text w) × (optional sized_text number ≡ datum_text w)
written_only None None w a d read = let is : None ≡ w = cc in rw (← is) (tt, refl, refl)
written_only (Some addr) (Some number) w a d read =
    let written : Written = record { addr = addr; n = number.0; datum = number.1 } in
    let is : Some written ≡ w = cc in
    let sized : sized_text number ≡ hex (2 * min number.0 4) number.1 =
    ap (λ n. hex (2 * n) number.1) (sym (at_most_four number.0 d.0)) in
    rw (← is) ((a, d.0, d.1), refl, sized)
written_only None (Some number) w a d read = cc
written_only (Some addr) None w a d read = cc

record Split (w : Option Written) : Type 0 where
  addr : Option ℕ
  number : Option (ℕ × ℕ)
  addr_in : IfSome addr IsWord
  number_in : IfSome number IsSized
  address : address_text w ≡ optional (hex 8) addr
  datum : datum_text w ≡ optional sized_text number
  back : written_of addr number ≡ Ok w

split : (w : Option Written) → IfSome w IsWritten → Split w
split None within = record {
  addr = None;
  number = None;
  addr_in = tt;
  number_in = tt;
  address = refl;
  datum = refl;
  back = refl;
}
split (Some w) within = record {
  addr = Some w.addr;
  number = Some (w.n, w.datum);
  addr_in = within.0;
  number_in = (within.1, within.2);
  address = refl;
  datum = ap (λ n. hex (2 * n) w.datum) (at_most_four w.n within.1);
  back = refl;
}

-- the fields of an effect
abbrev EffectParts : Effect → List ℕ → Type 0
EffectParts = Before (optional (hex 8)) (λ o. IfSome o IsWord) (λ value.
    Before next_text IsNext (λ next. Before (optional (hex 8)) (λ o. IfSome o IsWord) (λ addr.
    Before (optional sized_text) (λ o. IfSome o IsSized) (λ number. After (written_of addr number) (λ write.
    Made (Alone (optional (hex 2)) (λ o. IfSome o IsByte)) (λ out.
    Ok (record { value = value; next = next; write = write; out = out })))))))

abbrev pub SpellsEffect : Effect → List ℕ → Type 0
SpellsEffect e text = IsEffect e × (text ≡ joined (effect_fields e))

effect_to : (e : Effect) (text : List ℕ) → EffectParts e text → SpellsEffect e text
effect_to e text (
  value,
  v,
  t1,
  is1,
  (
    next,
    n,
    t2,
    is2,
    (
      addr,
      a,
      t3,
      is3,
      (
        number,
        d,
        t4,
        is4,
        (write, joins, (out, (b, is5), makes)),
      ),
    ),
  ),
) =
    let same : ◌≡◌ {A = Effect} (record { value = value; next = next; write = write; out = out }) e = cc makes in
    let both = written_only addr number write a d joins in
    rw (← same) (
      record { value = v; next = n; write = both.0; out = b },
      is1 ∙ rw (is2, is3, is4, is5, both.1, both.2) refl,
    )

effect_from : (e : Effect) (text : List ℕ) → SpellsEffect e text → EffectParts e text
effect_from e text (within, is) =
    let parts = split e.write within.write in
    let out = optional (hex 2) e.out in
    let behind = datum_text e.write ++ 32 ∷ out in (
      e.value,
      within.value,
      _,
      is,
      (
        e.next,
        within.next,
        _,
        refl,
        (
          parts.addr,
          parts.addr_in,
          behind,
          ap (λ f. f ++ 32 ∷ behind) parts.address,
          (
            parts.number,
            parts.number_in,
            out,
            ap (λ f. f ++ 32 ∷ out) parts.datum,
            (e.write, parts.back, (e.out, (within.out, refl), refl)),
          ),
        ),
      ),
    )

effect_reading : {Small : Type 0} → IsReading Small 5 effect_of SpellsEffect
unfolding effect_of
effect_reading =
    said effect_to effect_from (before 4 _ optional_word (λ value. before 3 _ next (λ next.
    before 2 _ optional_word (λ addr. before 1 _ optional_sized (λ number.
    after (written_of addr number) _ (λ write. made _ (alone optional_byte)))))))

-- the fields behind the actor, and with it
module _ (ranges : Ranges) where
  abbrev IsSeq : ℕ → Type 0
  IsSeq seq = seq ≤ ranges.seq

  abbrev BehindActor : EventKind → ℕ → Event → List ℕ → Type 0
  BehindActor kind.Fetch actor = Before decimal (λ n. n ≤ ranges.hart) (λ hart. Before decimal IsSeq (λ seq.
      Before (hex 8) IsWord (λ pc. Before (optional (hex 8)) (λ o. IfSome o IsWord) (λ word.
      Made (Alone (hex 8) IsWord) (λ predicted. Ok (Fetch actor hart seq pc word predicted))))))
  BehindActor kind.Decode actor = Made (Alone decimal IsSeq) (λ seq. Ok (Decode actor seq))
  BehindActor kind.Rename actor = Before decimal IsSeq (λ seq.
      Made (Alone (optional decimal) (λ o. IfSome o (λ n. n ≤ ranges.phys))) (λ phys. Ok (Rename actor seq phys)))
  BehindActor kind.Issue actor = Made (Alone decimal IsSeq) (λ seq. Ok (Issue actor seq))
  BehindActor kind.Complete actor =
      Before decimal IsSeq (λ seq. Made SpellsOutcome (λ outcome. Ok (Complete actor seq outcome)))
  BehindActor kind.Drop actor = Made (Alone decimal IsSeq) (λ seq. Ok (Drop actor seq))
  BehindActor kind.Retire actor =
      Before decimal IsSeq (λ seq. Made SpellsEffect (λ effect. Ok (Retire actor seq effect)))
  BehindActor kind.Refetch actor = Made (Alone decimal IsSeq) (λ seq. Ok (Refetch actor seq))

  abbrev pub EventParts : EventKind → Event → List ℕ → Type 0
  EventParts k = Before decimal (λ n. n ≤ ranges.actor) (λ actor. BehindActor k actor)

  actor_first : IsField (AreSmall ranges) (decimal_field ranges.actor) decimal (λ n. n ≤ ranges.actor)
  actor_first = number ranges.actor (λ small. small.actor)

  seq_first : IsField (AreSmall ranges) (decimal_field ranges.seq) decimal IsSeq
  seq_first = number ranges.seq (λ small. small.seq)

  fetch_reading : (actor : ℕ) → IsReading (AreSmall ranges) 5 (fetch_of ranges actor) (BehindActor kind.Fetch actor)
  unfolding fetch_of
  fetch_reading actor = before 4 _ (number ranges.hart (λ small. small.hart)) (λ hart. before 3 _ seq_first (λ seq.
      before 2 _ word (λ pc. before 1 _ optional_word (λ w. made _ (alone word)))))

  pub event_reading : (k : EventKind)
      → IsReading (AreSmall ranges) (fields_after k) (event_fields ranges k) (EventParts k)
  unfolding event_fields decode_of rename_of issue_of complete_of drop_of retire_of refetch_of
  event_reading kind.Fetch = before 5 _ actor_first (λ actor. fetch_reading actor)
  event_reading kind.Decode = before 1 _ actor_first (λ actor. made _ (alone seq_first))
  event_reading kind.Rename = before 2 _ actor_first (λ actor. before 1 _ seq_first (λ seq.
      made _ (alone (optional_number ranges.phys (λ small. small.phys)))))
  event_reading kind.Issue = before 1 _ actor_first (λ actor. made _ (alone seq_first))
  event_reading kind.Complete = before 6 _ actor_first (λ actor. before 5 _ seq_first (λ seq. made _ outcome_reading))
  event_reading kind.Drop = before 1 _ actor_first (λ actor. made _ (alone seq_first))
  event_reading kind.Retire = before 6 _ actor_first (λ actor. before 5 _ seq_first (λ seq. made _ effect_reading))
  event_reading kind.Refetch = before 1 _ actor_first (λ actor. made _ (alone seq_first))
