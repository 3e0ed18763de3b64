-- What a retirement changes that goes on and whose load, if it is one, has the value of its completion: it leaves the
-- flight, commits its register, and the one that was committed before becomes free.
use Rattle.std.specs.Prelude.{◌≡◌, ◌≢◌, ℕ, ◌<◌, ◌≤◌, Bool, true, false, not, ◌==◌, ◌&&◌, nat_lt, List, ◌∷◌, ◌++◌, Some}
use Rattle.std.specs.Prelude.{None, is_some}
use Rattle.std.specs.List.{filter}
use Rattle.std.proofs.Common.{◌∙◌, refl, sym, ap, subst, inl, inr, arith}
use Rattle.std.proofs.{lemmas.Bool.cases_Bool, lemmas.Bool.Decides.nat_tests, lemmas.List.append-nil}
use Rattle.numbers.specs.Sizes.{most_registers}
use Rattle.rv_instr.specs.declared.op.Op.{Op}
use Rattle.events.specs.{declared.effect.Effect.Effect, declared.event.Event.Event}
use Rattle.events.specs.{declared.event.Event.TheVariants.Retire}
use Rattle.smt_model.specs.{Setup.Setup, Setup.registers_of, Kinds.destination, Kinds.first_source, Kinds.second_source}
use Rattle.smt_model.specs.{Flights.numbers, Flights.flight, Rules.refused, Rules.is_legal, Picture.picture}
use Rattle.smt_model.specs.{Picture.is_free, Picture.source_register_in, Nexts.is_last, Memory.status}
use Rattle.smt_model.specs.{Fetching.fetch_pc, Account.records, Account.record_of}
use Rattle.smt_model.specs.Fates.{Fate, Renamed, Completed, Retired, Fetched, fate, fetching, is, is_in_flight, stands}
use Rattle.smt_model.specs.Fates.{is_of, op_at, squashes_at_retirement}
use Rattle.smt_model.specs.Registers.{phys, committed, is_unclaimed, value, value_by, first_value, result_of}
use Rattle.smt_model.proofs.{Lists.filter-loses-first, Fates.Moves.fate_at, Fates.Moves.retire_was}
use Rattle.smt_model.proofs.Fates.Numbers.{first_of_hart, numbers-rise}
use Rattle.smt_model.proofs.Registers.Claims.{committed_claimed}
use Rattle.smt_laws.proofs.Events.Freeing.{is_flying, renamed_flies}
use Rattle.smt_laws.proofs.Events.Harts.{writer-elsewhere, elsewhere}
use Rattle.smt_laws.proofs.{Staying.away, Staying.hart-calm, Registers.Counts.committed-range}
use Rattle.smt_model.proofs.Allowed.{retire_allowed}
use Rattle.smt_laws.proofs.{Registers.Held.is_held, Registers.Reading.IsPlainRetire, Registers.Reading.not_squashing}
use Rattle.smt_laws.proofs.{Registers.Reading.retire-value, Events.Filling.value-filled, Events.Filling.reads-woken}
use Rattle.smt_laws.proofs.Events.Calm.{IsCalm, fate-other, calm-flights, queue-calm, writer-calm, mapped-kept}
use Rattle.smt_laws.proofs.Events.Calm.{keeps_jobs}
use Rattle.smt_model.specs.Steps.{IsRetire, IsSameHart, WakesReadings, filled_value}
use Rattle.smt_laws.proofs.Steps.RetireCommits.{was-Retire, result-Retire, goes_on, committed-other, committed-Retire}
use Rattle.smt_laws.proofs.Steps.RetireCommits.{writes_elsewhere, own_register, fits, free-Retire}

-- What becomes of the instruction.
pub now-Retire : (setup : Setup) (past : List Event) (actor n : ℕ) (effect : Effect)
    → refused setup past (Retire actor n effect) ≡ None
    → is_last effect.next ≡ false → fate (Retire actor n effect ∷ past) n ≡ Retired
now-Retire setup past actor n effect ok going =
    let was = retire_was setup past actor n effect ok in
    fate_at (fate (Retire actor n effect ∷ past) n) Retired (grind (arith, nat_tests))

own-Retire : (setup : Setup) (past : List Event) (actor n : ℕ) (effect : Effect)
    → refused setup past (Retire actor n effect) ≡ None
    → is_last effect.next ≡ false → (test : Fate → Bool) → test Retired ≡ test Completed
    → test (fate (Retire actor n effect ∷ past) n) ≡ test (fate past n)
own-Retire setup past actor n effect ok going test same =
    ap test (now-Retire setup past actor n effect ok going)
    ∙ (same ∙ ap test (sym (was-Retire setup past actor n effect ok)))

pub calm-Retire : (past : List Event) (actor n : ℕ) (effect : Effect) → squashes_at_retirement past n effect ≡ false
    → IsCalm past (Retire actor n effect)
calm-Retire past actor n effect straight s = rw straight refl

leaves-Retire : (setup : Setup) (past : List Event) → is_legal setup past → (actor n : ℕ) (effect : Effect)
    → refused setup past (Retire actor n effect) ≡ None → IsCalm past (Retire actor n effect)
    → is_last effect.next ≡ false → (h : ℕ)
    → is_of past h n ≡ true → flight past h ≡ n ∷ flight (Retire actor n effect ∷ past) h
leaves-Retire setup past legal actor n effect ok calm going h of_n =
    let e = Retire actor n effect in
    filter-loses-first (λ s. is_in_flight (fate past s)) (λ s. is_in_flight (fate (e ∷ past) s)) n (numbers past h)
    (numbers-rise setup past legal h)
    (first_of_hart past (flight past) h n of_n (retire_allowed setup past actor n effect ok).oldest)
    (ap is_in_flight (now-Retire setup past actor n effect ok going))
    (λ x m other. ap is_in_flight (fate-other e past x (λ same. other (sym same)) (calm x)))
    ∙ ap (λ xs. n ∷ xs) (sym (ap (filter (λ s. is_in_flight (fate (e ∷ past) s))) (append-nil (numbers past h))))

-- ---- Values and readings

pub values-Retire : (setup : Setup) (past : List Event) → is_legal setup past → (actor n : ℕ) (effect : Effect)
    → refused setup past (Retire actor n effect) ≡ None → (x : ℕ)
    → value setup (Retire actor n effect ∷ past) x ≡ filled_value (phys past n) effect.value x (value setup past x)
values-Retire setup past legal actor n effect ok x =
    value-filled setup past legal (Retire actor n effect) (λ y. refl)
    (ap is_in_flight (was-Retire setup past actor n effect ok)) x
    ∙ ap (λ v. filled_value (phys past n) v x (value setup past x)) (result-Retire past actor n effect)

held_before : (setup : Setup) (past : List Event) → is_legal setup past → (actor n : ℕ) (effect : Effect)
    → refused setup past (Retire actor n effect) ≡ None → (x : ℕ) → phys past n ≡ Some x
    → value setup past x ≡ result_of past n
held_before setup past legal actor n effect ok x names =
    ap (value_by past (first_value setup x))
    ((is_held setup past legal).flying n x (ap is_in_flight (was-Retire setup past actor n effect ok)) names)

readings-Retire : (setup : Setup) (past : List Event) → is_legal setup past → (actor n : ℕ) (effect : Effect)
    → refused setup past (Retire actor n effect) ≡ None → IsPlainRetire past n effect → (which : Op → ℕ) (s : ℕ)
    → is (fate past s) Renamed ≡ true
    → is (fate (Retire actor n effect ∷ past) s) Renamed ≡ true
    → WakesReadings (picture setup past) (picture setup (Retire actor n effect ∷ past))
    (phys past n) effect.value which s
readings-Retire setup past legal actor n effect ok plain which s waits still =
    let e = Retire actor n effect in
    let flying = is_flying setup past legal e ok s (renamed_flies past s waits) (renamed_flies (e ∷ past) s still) in
    subst (λ v. WakesReadings (picture setup past) (picture setup (e ∷ past)) (phys past n) v which s)
    (result-Retire past actor n effect)
    (reads-woken setup past legal e ok (λ y. refl) (ap is_in_flight (was-Retire setup past actor n effect ok))
    which s flying
    (λ w some names held.
    result-Retire past actor n effect
    ∙ retire-value setup past legal actor n effect ok plain w
    (sym (held_before setup past legal actor n effect ok (source_register_in past which s (fetching past s)) names)
    ∙ held)))

still_waits : (setup : Setup) (past : List Event) (actor n : ℕ) (effect : Effect)
    → refused setup past (Retire actor n effect) ≡ None
    → IsCalm past (Retire actor n effect) → (s : ℕ) → is (fate past s) Renamed ≡ true
    → is (fate (Retire actor n effect ∷ past) s) Renamed ≡ true
still_waits setup past actor n effect ok calm s waits =
    let was = retire_was setup past actor n effect ok in
    let other : n ≢ s = λ same. absurd (grind (arith, nat_tests)) in
    ap (λ f. is f Renamed) (fate-other (Retire actor n effect) past s other (calm s)) ∙ waits

-- ---- The rest of its hart, and the other harts

and_never : (a : Bool) → (a && false) ≡ false
and_never true = refl
and_never false = refl

and_gone : (a b : Bool) → b ≡ false → (a && b) ≡ false
and_gone true b none = none
and_gone false b none = refl

pc-Retire : (setup : Setup) (past : List Event) (actor n : ℕ) (effect : Effect) (g : ℕ)
    → (is_of past g n && squashes_at_retirement past n effect) ≡ false
    → fetch_pc setup (Retire actor n effect ∷ past) g ≡ fetch_pc setup past g
pc-Retire setup past actor n effect g stays = rw stays refl

pub status-Retire : (past : List Event) (actor n : ℕ) (effect : Effect) → is_last effect.next ≡ false → (g : ℕ)
    → status (Retire actor n effect ∷ past) g ≡ status past g
status-Retire past actor n effect going g =
    elim (cases_Bool (is_of past g n)) [
      | inl mine ↦ rw mine (goes_on effect.next (status past g) going)
      | inr another ↦ rw another refl
    ]

others-Retire : (setup : Setup) (past : List Event) → is_legal setup past → (actor n : ℕ) (effect : Effect)
    → (ok : refused setup past (Retire actor n effect) ≡ None) → IsCalm past (Retire actor n effect)
    → is_last effect.next ≡ false → (h g : ℕ)
    → is_of past h n ≡ true → g ≢ h → (is_of past g n && squashes_at_retirement past n effect) ≡ false
    → IsSameHart (picture setup past) (picture setup (Retire actor n effect ∷ past)) g
others-Retire setup past legal actor n effect ok calm going h g of_n other stays =
    let e = Retire actor n effect in
    let far = away past e calm (λ k. refl) h g of_n other in
    elsewhere setup past legal e ok g far
    (λ r. mapped-kept setup past legal e ok g r (writer-elsewhere setup past legal e ok g r far refl))
    (λ r. committed-other setup past legal actor n effect ok g r
    (ap (λ b. b && not (is_last effect.next)) (writes_elsewhere past g r n far.not_of)))
    (pc-Retire setup past actor n effect g stays) (status-Retire past actor n effect going g)

pub replaced : (setup : Setup) (past : List Event) → is_legal setup past → registers_of setup ≤ most_registers
    → (actor n : ℕ) (effect : Effect)
    → refused setup past (Retire actor n effect) ≡ None → (h : ℕ) → is_of past h n ≡ true → is_some (phys past n) ≡ true
    → (committed past h (destination (op_at past n)) < most_registers)
    × (is_free setup past (committed past h (destination (op_at past n))) ≡ false)
replaced setup past legal fit actor n effect ok h of_n some =
    let d = destination (op_at past n) in
    let has : not (d == 0) ≡ true = sym (fits setup past legal actor n effect ok) ∙ some in
    let low : 1 ≤ d = grind (arith, nat_tests) in
    let is_register = own_register setup past legal h n of_n low in
    let under = committed-range setup past legal h d is_register in (
      omega arith,
      and_gone (nat_lt (committed past h d) (registers_of setup))
          (is_unclaimed setup past (committed past h d)) (committed_claimed setup past h d is_register),
    )

pub records-Retire : (past : List Event) (actor n : ℕ) (effect : Effect) (f : Fetched) → fetching past n ≡ Some f
    → records (Retire actor n effect ∷ past) ≡ record { hart = f.hart; pc = f.pc; word = f.word; effect = effect }
    ∷ records past
records-Retire past actor n effect f at = ap (λ o. record_of o effect ++ records past) at

pub steps-Retire : (setup : Setup) (past : List Event) → is_legal setup past → (actor n : ℕ) (effect : Effect)
    → refused setup past (Retire actor n effect) ≡ None → registers_of setup ≤ most_registers
    → squashes_at_retirement past n effect ≡ false → (h : ℕ) → is_of past h n ≡ true
    → IsRetire (picture setup past) (picture setup (Retire actor n effect ∷ past)) h n effect (fetch_pc setup past h)
steps-Retire setup past legal actor n effect ok fit straight h of_n =
    let e = Retire actor n effect in
    let calm : IsCalm past e = calm-Retire past actor n effect straight in
    let plain = not_squashing past n effect straight in
    let going = plain.going in
    let nowhere : (g : ℕ) → (is_of past g n && squashes_at_retirement past n effect) ≡ false =
    λ g. rw straight (and_never (is_of past g n)) in
    record {
      of_hart = of_n;
      fits = fits setup past legal actor n effect ok;
      flight = leaves-Retire setup past legal actor n effect ok calm going h of_n;
      committed = λ r low high. committed-Retire setup past legal actor n effect ok going h r low of_n;
      fetch_pc = pc-Retire setup past actor n effect h (nowhere h);
      replaced = replaced setup past legal fit actor n effect ok h of_n;
      free = free-Retire setup past legal actor n effect ok calm going h of_n;
      values = λ y claimed. values-Retire setup past legal actor n effect ok y;
      readings = λ s waits.
          let still = still_waits setup past actor n effect ok calm s waits in (
            readings-Retire setup past legal actor n effect ok plain first_source s waits still,
            readings-Retire setup past legal actor n effect ok plain second_source s waits still,
          );
      records = records-Retire past actor n effect;
      output = refl;
      byte = λ addr. refl;
      reserved = λ g. refl;
      touched = λ s. refl;
      looks = refl;
      flights = calm-flights setup e past calm;
      stays = record {
        hart = hart-calm setup past e calm h refl Completed Retired (was-Retire setup past actor n effect ok)
            (now-Retire setup past actor n effect ok going) refl refl tt refl
            (λ r low high.
            mapped-kept setup past legal e ok h r
            (writer-calm setup past legal e ok calm refl h r
            (λ mine late. own-Retire setup past actor n effect ok going stands refl)))
            tt tt (status-Retire past actor n effect going h);
        others = λ g other. others-Retire setup past legal actor n effect ok calm going h g of_n other (nowhere g);
        shared = record {
          kept = λ s f at. at;
          operands = keeps_jobs setup past legal e ok;
          queue = queue-calm e past calm refl (own-Retire setup past actor n effect ok going (λ f. is f Renamed) refl);
          free = tt;
          values = tt;
          readings = tt;
          job = λ j. refl;
          fetches = record { fetched = λ s. refl; fetches = refl; last_fetched = refl };
          records = tt;
          output = tt;
          memory = tt;
        };
      };
    }
