-- What an instruction reads: the register of each source is held by its writer, and its number, once there, stays. So
-- the operands that an instruction took as it issued are what its sources hold as long as it is in flight.
use Rattle.std.specs.Prelude.{◌≡◌, ◌≢◌, ℕ, ◌<◌, Bool, true, false, not, ◌==◌, ◌&&◌, nat_lt, List, ◌∷◌, Option, Some}
use Rattle.std.specs.Prelude.{None}
use Rattle.std.proofs.Common.{◌∙◌, refl, sym, ap, inl, inr, arith}
use Rattle.std.proofs.{lemmas.Bool.cases_Bool, lemmas.Bool.cases_eq, lemmas.Bool.Decides.nat_tests}
use Rattle.rv_instr.specs.declared.op.Op.{Op}
use Rattle.events.specs.{declared.effect.Outcome.Outcome, declared.effect.Effect.Effect, declared.event.Event.Event}
use Rattle.events.specs.declared.event.Event.TheVariants.{Fetch, Decode, Rename, Issue, Complete, Drop, Retire, Refetch}
use Rattle.smt_model.specs.{Basics.holds_of, Basics.or_zero, Basics.same_number, Setup.Setup, Exec.Computed}
use Rattle.smt_model.specs.{Nexts.is_last, Outcomes.outcome_of, Outcomes.outcome_by, Effects.effect_of}
use Rattle.smt_model.specs.{Effects.effect_by, Bytes.read, Reservations.holds_word, Memory.byte_at, Memory.reserved}
use Rattle.smt_model.specs.{Rules.refused, Rules.is_legal, Rules.computed_at}
use Rattle.smt_model.specs.Kinds.{Kind, Computing, Loading, Storing, Reserving, Conditional, Atomic, kind_of}
use Rattle.smt_model.specs.Kinds.{is_loading, writes_register}
use Rattle.smt_model.specs.Fates.{fate, is_in_flight, is_of, op_at, op_of_fetched, completion, squashes_at_retirement}
use Rattle.smt_model.specs.Fates.{is_replayed, same_hart}
use Rattle.smt_model.specs.Registers.{source, source_register, committed, holder, first_register, register_by}
use Rattle.smt_model.specs.Registers.{first_value, value, value_by, result_of, result_said, option_inner, phys}
use Rattle.smt_model.proofs.Fates.Moves.{same_number-is, complete_was, retire_was}
use Rattle.smt_model.proofs.{Fates.Sound.sound, Fates.Numbers.known_below, Fates.Numbers.is_of-kept}
use Rattle.smt_model.proofs.Fates.Numbers.{same_hart-at}
use Rattle.smt_laws.proofs.{Registers.Namings.result-none, Registers.Standing.spared}
use Rattle.smt_model.proofs.Registers.Claims.{IsRegister}
use Rattle.smt_laws.proofs.{Registers.Committing.register_by-kept, Registers.Held.is_held}
use Rattle.smt_laws.proofs.{Registers.Held.writer_named, Registers.Held.some_is, Registers.Values.completed-is}
use Rattle.smt_laws.proofs.Registers.Values.{retire_says}
use Rattle.smt_laws.proofs.Registers.Sources.{source-stays, source-committed, source-none, source-is}

-- ---- The register of a source

pub source_register-stays : (setup : Setup) (past : List Event) → is_legal setup past → (e : Event)
    → refused setup past e ≡ None → (h r s : ℕ)
    → is_of past h s ≡ true → is_in_flight (fate past s) ≡ true → is_in_flight (fate (e ∷ past) s) ≡ true
    → source_register (e ∷ past) h r s ≡ source_register past h r s
source_register-stays setup past legal e ok h r s of_s was still =
    ap (register_by (e ∷ past) (first_register h r)) (source-stays setup past legal e ok h r s of_s was still)
    ∙ register_by-kept setup past legal e ok (first_register h r) (source past h r s) (λ w found two.
    let standing = (source-is past h r s w found).standing in absurd (grind (arith, nat_tests)))

held-source : (setup : Setup) (past : List Event) → is_legal setup past → (h r s : ℕ) → IsRegister setup h r
    → is_of past h s ≡ true
    → is_in_flight (fate past s) ≡ true → (o : Option ℕ) → source past h r s ≡ o
    → holder past (register_by past (first_register h r) o) ≡ o
held-source setup past legal h r s is_register of_s flies None found =
    let none = source-none setup past legal h r s of_s flies found in
    let same : committed past h r ≡ first_register h r = ap (register_by past (first_register h r)) none in
    ap (holder past) (sym same) ∙ ((is_held setup past legal).committing h r is_register ∙ none)
held-source setup past legal h r s is_register of_s flies (Some w) found =
    let at = source-is past h r s w found in
    elim (cases_Bool (is_in_flight (fate past w))) [
      | inl flies_too ↦
          let some = writer_named setup past legal h r w is_register.low at.writes_it (grind (arith, nat_tests))
          (grind (arith, nat_tests)) in
          (is_held setup past legal).flying w (or_zero (phys past w)) flies_too (some_is (phys past w) some)
      | inr landed ↦
          let committed_one = source-committed setup past legal h r s w of_s flies found landed in
          let same : committed past h r ≡ or_zero (phys past w) =
          ap (register_by past (first_register h r)) committed_one in
          ap (holder past) (sym same) ∙ ((is_held setup past legal).committing h r is_register ∙ committed_one)
    ]

-- The register that a source is found in is held by its writer.
pub seen-held : (setup : Setup) (past : List Event) → is_legal setup past → (h r s : ℕ) → IsRegister setup h r
    → is_of past h s ≡ true
    → is_in_flight (fate past s) ≡ true → holder past (source_register past h r s) ≡ source past h r s
seen-held setup past legal h r s is_register of_s flies =
    held-source setup past legal h r s is_register of_s flies (source past h r s) refl

-- ---- Its number

-- What a load, or an instruction that doesn't read memory, has said as it completed it says again as it retires.
again_by : (kind : Kind) (op : Op) (writes : Bool) (c : Computed) (look now : ℕ) (reserves : Bool) (v : ℕ)
    → (is_loading kind ≡ true
    → (outcome_by kind writes c (Some look)).value ≡ (effect_by kind op writes c now reserves).value)
    → (outcome_by kind writes c (Some look)).value ≡ Some v → (effect_by kind op writes c now reserves).value ≡ Some v
again_by Computing op writes c look now reserves v load said = said
again_by Loading op writes c look now reserves v load said = sym (load refl) ∙ said
again_by Storing op writes c look now reserves v load said = absurd (grind arith)
again_by Reserving op writes c look now reserves v load said = absurd (grind arith)
again_by Conditional op writes c look now reserves v load said = absurd (grind arith)
again_by Atomic op writes c look now reserves v load said = absurd (grind arith)

-- The next of an effect is that of what was computed.
next_by : (kind : Kind) (op : Op) (writes : Bool) (c : Computed) (now : ℕ) (reserves : Bool)
    → (effect_by kind op writes c now reserves).next ≡ c.next
next_by Computing op writes c now reserves = refl
next_by Loading op writes c now reserves = refl
next_by Storing op writes c now reserves = refl
next_by Reserving op writes c now reserves = refl
next_by Conditional op writes c now reserves = refl
next_by Atomic op writes c now reserves = refl

pub effect-next : (op : Op) (c : Computed) (now : ℕ) (reserves : Bool) → (effect_of op c now reserves).next ≡ c.next
effect-next op c now reserves =
    elim (cases_Bool (is_last c.next)) [
      | inl last ↦ rw last refl
      | inr going ↦ rw going (next_by (kind_of op) op (writes_register op) c now reserves)
    ]

pub said_again : (op : Op) (c : Computed) (look now : ℕ) (reserves : Bool) (v : ℕ) → is_last c.next ≡ false
    → (is_loading (kind_of op) ≡ true → (outcome_of op c (Some look)).value ≡ (effect_of op c now reserves).value)
    → (outcome_of op c (Some look)).value ≡ Some v → (effect_of op c now reserves).value ≡ Some v
said_again op c look now reserves v going load said =
    rw going (again_by (kind_of op) op (writes_register op) c look now reserves v (rw going at load) (rw going at said))

-- A retirement that squashes no younger one of the hart neither ends nor stops it, nor has a load another value.
pub record IsPlainRetire (past : List Event) (n : ℕ) (effect : Effect) : Type 0 where
  pub going : is_last effect.next ≡ false
  pub same : is_replayed past n effect ≡ false

pub not_squashing : (past : List Event) (n : ℕ) (effect : Effect) → squashes_at_retirement past n effect ≡ false
    → IsPlainRetire past n effect
unfolding squashes_at_retirement
not_squashing past n effect plain = record { going = grind arith; same = grind arith }

same_load : (loads : Bool) (o : Option Outcome) (outcome : Outcome) (effect : Effect) → o ≡ Some outcome
    → (loads && holds_of (λ x. not (same_number x.value effect.value)) o) ≡ false → loads ≡ true
    → outcome.value ≡ effect.value
same_load loads o outcome effect at same loading =
    let apart : (loads && not (same_number outcome.value effect.value)) ≡ false = rw at at same in
    same_number-is outcome.value effect.value (grind arith)

pub retire-value : (setup : Setup) (past : List Event) → is_legal setup past → (actor n : ℕ) (effect : Effect)
    → refused setup past (Retire actor n effect) ≡ None → IsPlainRetire past n effect → (v : ℕ)
    → result_of past n ≡ Some v
    → effect.value ≡ Some v
retire-value setup past legal actor n effect ok plain v said =
    let was = retire_was setup past actor n effect ok in
    let done = completed-is setup past legal n was in
    let f = done.fetch in
    let op = op_of_fetched (Some f) in
    let c = computed_at setup past n f in
    let now = read op (byte_at setup past) c.addr in
    let reserves = holds_word (reserved past f.hart) c.addr in
    let says : effect ≡ effect_of op c now reserves = retire_says setup past actor n effect ok f done.fetched in
    let going : is_last c.next ≡ false =
    ap is_last (sym (effect-next op c now reserves)) ∙ (ap (λ x. is_last x.next) (sym says) ∙ plain.going) in
    let first_said : (outcome_of op c (Some done.look)).value ≡ Some v =
    ap (λ o. o.value) (sym done.outcome_is) ∙ (sym done.result_is ∙ said) in
    let op_is : op_at past n ≡ op = ap op_of_fetched done.fetched in
    let same : is_loading (kind_of op) ≡ true → done.outcome.value ≡ effect.value =
    (λ loading. same_load (is_loading (kind_of (op_at past n))) (completion past n) done.outcome effect done.completed
    plain.same (ap (λ o. is_loading (kind_of o)) op_is ∙ loading)) in
    ap (λ x. x.value) says
    ∙ said_again op c done.look now reserves v going
    (λ loading. ap (λ o. o.value) (sym done.outcome_is) ∙ (same loading ∙ ap (λ x. x.value) says)) first_said

unsaid : (o : Option (Option ℕ)) (v : ℕ) → o ≡ None → option_inner o ≢ Some v
unsaid None v none said = absurd (grind arith)
unsaid (Some x) v none said = absurd (grind arith)

resulting-Complete : (past : List Event) (actor n w : ℕ) (outcome : Outcome) → (n == w) ≡ false
    → result_of (Complete actor n outcome ∷ past) w ≡ result_of past w
resulting-Complete past actor n w outcome other = rw other refl

resulting-Retire : (past : List Event) (actor n w : ℕ) (effect : Effect) → (n == w) ≡ false
    → result_of (Retire actor n effect ∷ past) w ≡ result_of past w
resulting-Retire past actor n w effect other = rw other refl

resulting-Retire_own : (past : List Event) (actor n : ℕ) (effect : Effect)
    → result_of (Retire actor n effect ∷ past) n ≡ effect.value
resulting-Retire_own past actor n effect = let same : (n == n) ≡ true = grind (arith, nat_tests) in rw same refl

unsquashed : (squashes_it : Bool) (n s : ℕ) (same : Bool) → n < s → same ≡ true
    → (squashes_it && (nat_lt n s && same)) ≡ false → squashes_it ≡ false
unsquashed squashes_it n s same older together keeps = grind (arith, nat_tests)

-- The number of an older one, once there, stays while a younger one of its hart is in flight.
pub result-stays : (setup : Setup) (past : List Event) → is_legal setup past → (e : Event) → refused setup past e ≡ None
    → (h w s : ℕ)
    → is_of past h w ≡ true → is_of past h s ≡ true → w < s → is_in_flight (fate past s) ≡ true
    → is_in_flight (fate (e ∷ past) s) ≡ true
    → (v : ℕ) → result_of past w ≡ Some v → result_of (e ∷ past) w ≡ Some v
result-stays setup past legal (Fetch actor hart n pc word predicted) ok h w s of_w of_s older was still v said = said
result-stays setup past legal (Decode actor n) ok h w s of_w of_s older was still v said = said
result-stays setup past legal (Rename actor n register) ok h w s of_w of_s older was still v said = said
result-stays setup past legal (Issue actor n) ok h w s of_w of_s older was still v said = said
result-stays setup past legal (Complete actor n outcome) ok h w s of_w of_s older was still v said =
    elim (cases_eq n w) [
      | inl here ↦
          let at = complete_was setup past (sound setup past legal) actor n outcome ok in
          absurd (unsaid (result_said past w) v (result-none setup past legal w (rw (← here) (omega arith))) said)
      | inr other ↦ resulting-Complete past actor n w outcome (grind (arith, nat_tests)) ∙ said
    ]
result-stays setup past legal (Drop actor n) ok h w s of_w of_s older was still v said = said
result-stays setup past legal (Retire actor n effect) ok h w s of_w of_s older was still v said =
    elim (cases_eq n w) [
      | inl here ↦
          let keeps = spared (Retire actor n effect) past s (grind (arith, nat_tests)) (grind (arith, nat_tests)) in
          let same : same_hart past n s ≡ true = same_hart-at past h n s (rw here of_w) ∙ of_s in
          let plain = not_squashing past n effect
          (unsquashed (squashes_at_retirement past n effect) n s (same_hart past n s) (omega arith) same keeps) in
          ap (λ z. result_of (Retire actor n effect ∷ past) z) (sym here)
          ∙ (resulting-Retire_own past actor n effect
          ∙ retire-value setup past legal actor n effect ok plain v (rw here said))
      | inr other ↦ resulting-Retire past actor n w effect (grind (arith, nat_tests)) ∙ said
    ]
result-stays setup past legal (Refetch actor n) ok h w s of_w of_s older was still v said = said

value_by-stays : (setup : Setup) (past : List Event) → is_legal setup past → (e : Event) → refused setup past e ≡ None
    → (h r s : ℕ)
    → is_of past h s ≡ true → is_in_flight (fate past s) ≡ true → is_in_flight (fate (e ∷ past) s) ≡ true
    → (v : ℕ) (otherwise : Option ℕ) (o : Option ℕ) → source past h r s ≡ o → value_by past otherwise o ≡ Some v
    → value_by (e ∷ past) otherwise o ≡ Some v
value_by-stays setup past legal e ok h r s of_s was still v otherwise None found holds = holds
value_by-stays setup past legal e ok h r s of_s was still v otherwise (Some w) found holds =
    let at = source-is past h r s w found in
    result-stays setup past legal e ok h w s at.of_hart of_s at.older was still v holds

-- The law: the number that a source's register holds, once there, stays.
pub value-stays : (setup : Setup) (past : List Event) → is_legal setup past → (e : Event) → refused setup past e ≡ None
    → (h r s : ℕ)
    → IsRegister setup h r → is_of past h s ≡ true → is_in_flight (fate past s) ≡ true
    → is_in_flight (fate (e ∷ past) s) ≡ true
    → (v : ℕ) → value setup past (source_register past h r s) ≡ Some v
    → value setup (e ∷ past) (source_register (e ∷ past) h r s) ≡ Some v
value-stays setup past legal e ok h r s is_register of_s was still v holds =
    let p = source_register past h r s in
    let same : source_register (e ∷ past) h r s ≡ p =
    source_register-stays setup past legal e ok h r s of_s was still in
    let of_s_now : is_of (e ∷ past) h s ≡ true =
    is_of-kept setup past legal e ok h s (known_below setup past legal s (grind (arith, nat_tests))) ∙ of_s in
    let held_now : holder (e ∷ past) (source_register (e ∷ past) h r s) ≡ source (e ∷ past) h r s =
    seen-held setup (e ∷ past) (ok, legal) h r s is_register of_s_now still in
    let writer_same : source (e ∷ past) h r s ≡ source past h r s =
    source-stays setup past legal e ok h r s of_s was still in
    let held_before : holder past p ≡ source past h r s = seen-held setup past legal h r s is_register of_s was in
    let before : value_by past (first_value setup p) (source past h r s) ≡ Some v =
    ap (value_by past (first_value setup p)) (sym held_before) ∙ holds in
    ap (λ o. value_by (e ∷ past) (first_value setup (source_register (e ∷ past) h r s)) o) (held_now ∙ writer_same)
    ∙ (ap (λ x. value_by (e ∷ past) (first_value setup x) (source past h r s)) same
    ∙ value_by-stays setup past legal e ok h r s of_s was still v (first_value setup p) (source past h r s) refl before)
