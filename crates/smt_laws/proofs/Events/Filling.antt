-- A register that gets its number: what each register holds after a completion or a retirement, and what waiting
-- instructions read.
use Rattle.std.specs.Prelude.{◌≡◌, ◌≢◌, ℕ, ◌≤◌, Bool, true, false, ◌==◌, if◌then◌else◌, List, ◌∷◌, Option, Some, None}
use Rattle.std.proofs.Common.{◌∙◌, refl, sym, ap, subst, inl, inr, arith}
use Rattle.std.proofs.{lemmas.Bool.cases_Bool, lemmas.Bool.cases_eq, lemmas.Bool.Decides.nat_tests}
use Rattle.rv_instr.specs.declared.op.Op.{Op}
use Rattle.events.specs.{declared.event.Event.Event, Event.seq_of}
use Rattle.smt_model.specs.{Basics.same_number, Setup.Setup, Rules.refused, Rules.is_legal, Picture.picture}
use Rattle.smt_model.specs.{Picture.source_register_in, Steps.WakesReadings, Steps.woken_reading, Steps.filled_value}
use Rattle.smt_model.specs.Fates.{fate, fetching, is, is_in_flight, op_of_fetched}
use Rattle.smt_model.specs.Registers.{phys, namings, holder, value, value_by, first_value, result_of}
use Rattle.smt_model.proofs.{Lists.first-passes, Fates.Moves.same_number-is}
use Rattle.smt_laws.proofs.Events.Calm.{result-other}
use Rattle.smt_laws.proofs.Registers.Held.{is_held}
use Rattle.smt_laws.proofs.Events.Freeing.{IsFlying, holding, reads-now, reads-then, seen_by-stays}

-- The holder of a register has it.
pub holder-names : (past : List Event) (x w : ℕ) → holder past x ≡ Some w → phys past w ≡ Some x
holder-names past x w found =
    let passes = first-passes (λ y. same_number (phys past y) (Some x)) (namings past) w found in
    same_number-is (phys past w) (Some x) passes.0

pub none_some : (x : ℕ) → None ≢ Some x
none_some x same = grind arith

pub some_one : (a b : ℕ) → Some a ≡ Some b → a ≡ b
some_one a b same = grind arith

filled_here : (filled : Option ℕ) (test : Bool) (before : Option ℕ) → test ≡ true
    → (if test then filled else before) ≡ filled
filled_here filled test before is = rw is refl

filled_there : (filled : Option ℕ) (test : Bool) (before : Option ℕ) → test ≡ false
    → (if test then filled else before) ≡ before
filled_there filled test before is = rw is refl

value_by-other : (e : Event) (past : List Event) (otherwise o : Option ℕ) → ((w : ℕ) → o ≡ Some w → seq_of e ≢ w)
    → value_by (e ∷ past) otherwise o ≡ value_by past otherwise o
value_by-other e past otherwise None other = refl
value_by-other e past otherwise (Some w) other = result-other e past w (other w refl)

-- A register that isn't the instruction's holds what it held.
value-unfilled : (setup : Setup) (e : Event) (past : List Event) (x : ℕ) → holder (e ∷ past) x ≡ holder past x
    → phys past (seq_of e) ≢ Some x → value setup (e ∷ past) x ≡ value setup past x
value-unfilled setup e past x same apart =
    ap (value_by (e ∷ past) (first_value setup x)) same
    ∙ value_by-other e past (first_value setup x) (holder past x)
    (λ w found here. apart (subst (λ z. phys past z ≡ Some x) (sym here) (holder-names past x w found)))

value-filled_by : (setup : Setup) (past : List Event) → is_legal setup past → (e : Event)
    → ((x : ℕ) → holder (e ∷ past) x ≡ holder past x)
    → is_in_flight (fate past (seq_of e)) ≡ true → (register : Option ℕ) → phys past (seq_of e) ≡ register → (x : ℕ)
    → value setup (e ∷ past) x ≡ filled_value register (result_of (e ∷ past) (seq_of e)) x (value setup past x)
value-filled_by setup past legal e same flies None names x =
    value-unfilled setup e past x (same x) (λ mine. absurd (none_some x (sym names ∙ mine)))
value-filled_by setup past legal e same flies (Some p) names x =
    elim (cases_eq x p) [
      | inl here ↦
          let mine : holder past x ≡ Some (seq_of e) =
          (is_held setup past legal).flying (seq_of e) x flies (names ∙ ap Some (sym here)) in
          let test : (x == p) ≡ true = grind (arith, nat_tests) in
          ap (value_by (e ∷ past) (first_value setup x)) (same x ∙ mine)
          ∙ sym (filled_here (result_of (e ∷ past) (seq_of e)) (x == p) (value setup past x) test)
      | inr other ↦
          let test : (x == p) ≡ false = grind (arith, nat_tests) in
          value-unfilled setup e past x (same x) (λ mine. other (sym (some_one p x (sym names ∙ mine))))
          ∙ sym (filled_there (result_of (e ∷ past) (seq_of e)) (x == p) (value setup past x) test)
    ]

-- The value of each register, where an instruction in flight gets a result.
pub value-filled : (setup : Setup) (past : List Event) → is_legal setup past → (e : Event)
    → ((x : ℕ) → holder (e ∷ past) x ≡ holder past x)
    → is_in_flight (fate past (seq_of e)) ≡ true → (x : ℕ)
    → value setup (e ∷ past) x ≡ filled_value (phys past (seq_of e)) (result_of (e ∷ past) (seq_of e)) x
    (value setup past x)
value-filled setup past legal e same flies x =
    value-filled_by setup past legal e same flies (phys past (seq_of e)) refl x

-- ---- Readings

-- What is read wakes where the register is the one that got its number; a number that was there already is the same.
same_either : (test : Bool) (o : Option ℕ) → (if test then o else o) ≡ o
same_either true o = refl
same_either false o = refl

woken_zero : (register filled : Option ℕ) (place n : ℕ) → Some n ≡ woken_reading register filled place (Some n)
woken_zero None filled place n = refl
woken_zero (Some x) None place n = refl
woken_zero (Some x) (Some v) place n = refl

woken_some : (register filled : Option ℕ) (place : ℕ) (before : Option ℕ)
    → ((w : ℕ) → register ≡ Some place → before ≡ Some w → filled ≡ Some w)
    → filled_value register filled place before ≡ woken_reading register filled place before
woken_some None filled place before same = refl
woken_some (Some x) None place None same = same_either (place == x) None
woken_some (Some x) None place (Some w) same =
    elim (cases_eq place x) [
      | inl here ↦ absurd (none_some w (same w (ap Some (sym here)) refl))
      | inr other ↦ let test : (place == x) ≡ false =
          grind (arith, nat_tests) in filled_there None (place == x) (Some w) test
    ]
woken_some (Some x) (Some v) place None same = refl
woken_some (Some x) (Some v) place (Some w) same =
    elim (cases_eq place x) [
      | inl here ↦
          let test : (place == x) ≡ true = grind (arith, nat_tests) in
          filled_here (Some v) (place == x) (Some w) test ∙ same w (ap Some (sym here)) refl
      | inr other ↦ let test : (place == x) ≡ false =
          grind (arith, nat_tests) in filled_there (Some v) (place == x) (Some w) test
    ]

woken_is : (register filled : Option ℕ) (r place : ℕ) (before : Option ℕ)
    → ((w : ℕ) → 1 ≤ r → register ≡ Some place → before ≡ Some w → filled ≡ Some w)
    → holding r (filled_value register filled place before) ≡ woken_reading register filled place (holding r before)
woken_is register filled r place before same =
    elim (cases_Bool (r == 0)) [
      | inl none ↦ rw none (woken_zero register filled place 0)
      | inr some ↦
          let low : 1 ≤ r = grind (arith, nat_tests) in
          rw some (woken_some register filled place before (λ w at held. same w low at held))
    ]

pub reads-woken : (setup : Setup) (past : List Event) → is_legal setup past → (e : Event)
    → (ok : refused setup past e ≡ None)
    → ((x : ℕ) → holder (e ∷ past) x ≡ holder past x) → is_in_flight (fate past (seq_of e)) ≡ true
    → (which : Op → ℕ) → (s : ℕ) → (flying : IsFlying past e s)
    → ((w : ℕ) → 1 ≤ which (op_of_fetched (Some flying.fetch))
    → phys past (seq_of e) ≡ Some (source_register_in past which s (fetching past s))
    → value setup past (source_register_in past which s (fetching past s)) ≡ Some w
    → result_of (e ∷ past) (seq_of e) ≡ Some w)
    → WakesReadings (picture setup past) (picture setup (e ∷ past)) (phys past (seq_of e))
    (result_of (e ∷ past) (seq_of e)) which s
reads-woken setup past legal e ok same flies which s flying stays = (
  seen_by-stays setup past legal e ok which s flying,
  reads-now setup past legal e ok which s flying
      ∙ (ap (holding (which (op_of_fetched (Some flying.fetch))))
      (value-filled setup past legal e same flies (source_register_in past which s (fetching past s)))
      ∙ (woken_is (phys past (seq_of e)) (result_of (e ∷ past) (seq_of e)) (which (op_of_fetched (Some flying.fetch)))
      (source_register_in past which s (fetching past s))
      (value setup past (source_register_in past which s (fetching past s))) stays
      ∙ ap (woken_reading (phys past (seq_of e)) (result_of (e ∷ past) (seq_of e))
      (source_register_in past which s (fetching past s)))
      (sym (reads-then setup past e which s flying)))),
)
