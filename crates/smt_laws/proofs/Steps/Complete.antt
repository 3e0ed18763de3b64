-- What a completion changes that goes where it was predicted, or ends or stops: its register gets its number, and those
-- that wait for it wake.
use Rattle.std.specs.Prelude.{◌≡◌, ◌≢◌, ℕ, Bool, true, false, ◌==◌, ◌&&◌, List, ◌∷◌, Option, Some, None, is_some}
use Rattle.std.proofs.Common.{◌∙◌, refl, sym, ap, subst, inl, inr, arith}
use Rattle.std.proofs.{lemmas.Bool.cases_Bool, lemmas.Bool.Decides.nat_tests}
use Rattle.rv_instr.specs.declared.op.Op.{Op}
use Rattle.events.specs.{declared.effect.Outcome.Outcome, declared.event.Event.Event}
use Rattle.events.specs.{declared.event.Event.TheVariants.Complete}
use Rattle.smt_model.specs.{Setup.Setup, Rules.refused, Rules.is_legal, Rules.computed_at, Jobs.job, Picture.picture}
use Rattle.smt_model.specs.{Picture.source_register_in, Exec.Computed, Nexts.is_last, Outcomes.outcome_of}
use Rattle.smt_model.specs.{Outcomes.outcome_by, Looks.first_look, Fetching.fetch_pc, Steps.HasCompleted}
use Rattle.smt_model.specs.{Steps.WakesReadings, Steps.filled_value}
use Rattle.smt_model.specs.Kinds.{first_source, second_source, writes_register, Kind, Computing, Loading, Storing}
use Rattle.smt_model.specs.Kinds.{Reserving, Conditional, Atomic, kind_of}
use Rattle.smt_model.specs.Fates.{Fate, Renamed, Issued, Completed, fate, fetching, is, is_in_flight, stands, is_of}
use Rattle.smt_model.specs.Fates.{op_of_fetched, completion, mispredicts}
use Rattle.smt_model.specs.Registers.{phys, writer, committed, value, value_by, first_value, result_of, option_inner}
use Rattle.smt_model.proofs.Fates.Moves.{fate_at, complete_was, complete_lent}
use Rattle.smt_model.proofs.{Fates.Sound.sound, Fates.Numbers.known_fetched}
use Rattle.smt_laws.proofs.Registers.Namings.{result-none}
use Rattle.smt_laws.proofs.{Registers.Namings.matched, Registers.Committing.committed-kept}
use Rattle.smt_laws.proofs.{Registers.Committing.committer-Complete, Events.Freeing.free-same}
use Rattle.smt_laws.proofs.{Events.Freeing.is_flying, Events.Freeing.renamed_flies, Events.Harts.claims-calm}
use Rattle.smt_laws.proofs.{Staying.others-calm, Staying.hart-calm, Registers.Held.is_held}
use Rattle.smt_model.specs.Touched.{is_touched}
use Rattle.smt_laws.proofs.Touching.{untouched_early}
use Rattle.smt_laws.proofs.{Registers.Values.complete_says, Steps.Drop.job_done, Events.Filling.none_some}
use Rattle.smt_laws.proofs.Events.Filling.{value-filled, reads-woken}
use Rattle.smt_laws.proofs.Events.Calm.{IsCalm, fate-other, calm-flights, queue-calm, writer-calm, mapped-kept}
use Rattle.smt_laws.proofs.Events.Calm.{keeps_jobs}

pub now-Complete : (setup : Setup) (past : List Event) → is_legal setup past → (actor n : ℕ) (outcome : Outcome)
    → refused setup past (Complete actor n outcome) ≡ None → fate (Complete actor n outcome ∷ past) n ≡ Completed
now-Complete setup past legal actor n outcome ok =
    let was = complete_was setup past (sound setup past legal) actor n outcome ok in
    fate_at (fate (Complete actor n outcome ∷ past) n) Completed (grind (arith, nat_tests))

pub was-Complete : (setup : Setup) (past : List Event) → is_legal setup past → (actor n : ℕ) (outcome : Outcome)
    → refused setup past (Complete actor n outcome) ≡ None → fate past n ≡ Issued
was-Complete setup past legal actor n outcome ok =
    fate_at (fate past n) Issued (complete_was setup past (sound setup past legal) actor n outcome ok)

pub own-Complete : (setup : Setup) (past : List Event) → is_legal setup past → (actor n : ℕ) (outcome : Outcome)
    → refused setup past (Complete actor n outcome) ≡ None → (test : Fate → Bool) → test Completed ≡ test Issued
    → test (fate (Complete actor n outcome ∷ past) n) ≡ test (fate past n)
own-Complete setup past legal actor n outcome ok test same =
    ap test (now-Complete setup past legal actor n outcome ok)
    ∙ (same ∙ ap test (sym (was-Complete setup past legal actor n outcome ok)))

pub result-Complete : (past : List Event) (actor n : ℕ) (outcome : Outcome)
    → result_of (Complete actor n outcome ∷ past) n ≡ outcome.value
result-Complete past actor n outcome = let same : (n == n) ≡ true = grind (arith, nat_tests) in rw same refl

pub completion-Complete : (past : List Event) (actor n : ℕ) (outcome : Outcome)
    → completion (Complete actor n outcome ∷ past) n ≡ Some outcome
completion-Complete past actor n outcome = let same : (n == n) ≡ true = grind (arith, nat_tests) in rw same refl

-- One without a register gives no number.
no_value_by : (kind : Kind) (c : Computed) (look : Option ℕ) → (outcome_by kind false c look).value ≡ None
no_value_by Computing c look = refl
no_value_by Loading c look = refl
no_value_by Storing c look = refl
no_value_by Reserving c look = refl
no_value_by Conditional c look = refl
no_value_by Atomic c look = refl

no_value_of : (op : Op) (c : Computed) (look : Option ℕ) → writes_register op ≡ false
    → (outcome_of op c look).value ≡ None
no_value_of op c look none =
    elim (cases_Bool (is_last c.next)) [
      | inl last ↦ rw last refl
      | inr going ↦ rw (going, none) (no_value_by (kind_of op) c look)
    ]

pub no_value : (setup : Setup) (past : List Event) → is_legal setup past → (actor n : ℕ) (outcome : Outcome)
    → refused setup past (Complete actor n outcome) ≡ None → is_some (phys past n) ≡ false → outcome.value ≡ None
no_value setup past legal actor n outcome ok none =
    let was = complete_was setup past (sound setup past legal) actor n outcome ok in
    let found = known_fetched setup past legal n (omega arith) in
    let op = op_of_fetched (Some found.fetch) in
    let c = computed_at setup past n found.fetch in
    let writes_none : writes_register op ≡ false =
    ap (λ o. writes_register (op_of_fetched o)) (sym found.fetched)
    ∙ (sym (matched setup past legal n (omega arith) (omega arith)) ∙ none) in
    ap (λ o. o.value) (complete_says setup past actor n outcome ok found.fetch found.fetched)
    ∙ no_value_of op c (Some (first_look setup past found.fetch.hart n op c.addr)) writes_none

-- ---- Values and readings

pub values-Complete : (setup : Setup) (past : List Event) → is_legal setup past → (actor n : ℕ) (outcome : Outcome)
    → refused setup past (Complete actor n outcome) ≡ None → (x : ℕ)
    → value setup (Complete actor n outcome ∷ past) x ≡ filled_value (phys past n) outcome.value x (value setup past x)
values-Complete setup past legal actor n outcome ok x =
    value-filled setup past legal (Complete actor n outcome) (λ y. refl)
    (ap is_in_flight (was-Complete setup past legal actor n outcome ok)) x
    ∙ ap (λ v. filled_value (phys past n) v x (value setup past x)) (result-Complete past actor n outcome)

-- Its register has no number before.
empty_before : (setup : Setup) (past : List Event) → is_legal setup past → (actor n : ℕ) (outcome : Outcome)
    → refused setup past (Complete actor n outcome) ≡ None → (x : ℕ) → phys past n ≡ Some x → value setup past x ≡ None
empty_before setup past legal actor n outcome ok x names =
    let was = complete_was setup past (sound setup past legal) actor n outcome ok in
    ap (value_by past (first_value setup x))
    ((is_held setup past legal).flying n x (ap is_in_flight (was-Complete setup past legal actor n outcome ok)) names)
    ∙ ap option_inner (result-none setup past legal n (omega arith))

pub readings-Complete : (setup : Setup) (past : List Event) → is_legal setup past → (actor n : ℕ) (outcome : Outcome)
    → refused setup past (Complete actor n outcome) ≡ None → (which : Op → ℕ) (s : ℕ) → is (fate past s) Renamed ≡ true
    → is (fate (Complete actor n outcome ∷ past) s) Renamed ≡ true
    → WakesReadings (picture setup past) (picture setup (Complete actor n outcome ∷ past))
    (phys past n) outcome.value which s
readings-Complete setup past legal actor n outcome ok which s waits still =
    let e = Complete actor n outcome in
    let flying = is_flying setup past legal e ok s (renamed_flies past s waits) (renamed_flies (e ∷ past) s still) in
    subst (λ v. WakesReadings (picture setup past) (picture setup (e ∷ past)) (phys past n) v which s)
    (result-Complete past actor n outcome)
    (reads-woken setup past legal e ok (λ y. refl) (ap is_in_flight (was-Complete setup past legal actor n outcome ok))
    which s flying
    (λ w some names held. absurd (none_some w
    (sym (empty_before setup past legal actor n outcome ok (source_register_in past which s (fetching past s)) names)
    ∙ held))))

-- ---- One that was predicted right

and_false : (b : Bool) → (b && false) ≡ false
and_false true = refl
and_false false = refl

pub calm-Complete : (past : List Event) (actor n : ℕ) (outcome : Outcome) → mispredicts past n outcome.next ≡ false
    → IsCalm past (Complete actor n outcome)
calm-Complete past actor n outcome straight s = rw straight refl

pc-Complete : (setup : Setup) (past : List Event) (actor n : ℕ) (outcome : Outcome) (g : ℕ)
    → (is_of past g n && mispredicts past n outcome.next) ≡ false
    → fetch_pc setup (Complete actor n outcome ∷ past) g ≡ fetch_pc setup past g
pc-Complete setup past actor n outcome g stays = rw stays refl

still_waits : (setup : Setup) (past : List Event) → is_legal setup past → (actor n : ℕ) (outcome : Outcome)
    → refused setup past (Complete actor n outcome) ≡ None → mispredicts past n outcome.next ≡ false → (s : ℕ)
    → is (fate past s) Renamed ≡ true → is (fate (Complete actor n outcome ∷ past) s) Renamed ≡ true
still_waits setup past legal actor n outcome ok straight s waits =
    let was = complete_was setup past (sound setup past legal) actor n outcome ok in
    let other : n ≢ s = λ same. absurd (grind (arith, nat_tests)) in
    ap (λ f. is f Renamed)
    (fate-other (Complete actor n outcome) past s other (calm-Complete past actor n outcome straight s)) ∙ waits

-- It isn't touched yet.
pub untouched-Complete : (setup : Setup) (past : List Event) → is_legal setup past → (actor n : ℕ) (outcome : Outcome)
    → refused setup past (Complete actor n outcome) ≡ None → is_touched (Complete actor n outcome ∷ past) n ≡ false
untouched-Complete setup past legal actor n outcome ok =
    let was = complete_was setup past (sound setup past legal) actor n outcome ok in
    untouched_early setup past legal n (omega arith)

pub steps-Complete : (setup : Setup) (past : List Event) → is_legal setup past → (actor n : ℕ) (outcome : Outcome)
    → refused setup past (Complete actor n outcome) ≡ None → mispredicts past n outcome.next ≡ false → (h : ℕ)
    → is_of past h n ≡ true
    → HasCompleted (picture setup past) (picture setup (Complete actor n outcome ∷ past)) h n actor outcome
    (fetch_pc setup past h)
steps-Complete setup past legal actor n outcome ok straight h of_n =
    let e = Complete actor n outcome in
    let calm : IsCalm past e = calm-Complete past actor n outcome straight in
    let commits = committer-Complete setup past legal actor n outcome ok in
    let writes_same : (g r : ℕ) → writer (e ∷ past) g r ≡ writer past g r =
    λ g r. writer-calm setup past legal e ok calm refl g r
    (λ mine late. own-Complete setup past legal actor n outcome ok stands refl) in
    let nowhere : (g : ℕ) → (is_of past g n && mispredicts past n outcome.next) ≡ false =
    λ g. rw straight (and_false (is_of past g n)) in
    let commits_same : (g r : ℕ) → committed (e ∷ past) g r ≡ committed past g r =
    λ g r. committed-kept setup past legal e ok g r (commits g r) in
    record {
      of_hart = of_n;
      lent = complete_lent setup past actor n outcome ok;
      waited = was-Complete setup past legal actor n outcome ok;
      fate = now-Complete setup past legal actor n outcome ok;
      phys = refl;
      completion = completion-Complete past actor n outcome;
      untouched = untouched-Complete setup past legal actor n outcome ok;
      fetch_pc = pc-Complete setup past actor n outcome h (nowhere h);
      no_value = no_value setup past legal actor n outcome ok;
      values = λ x claimed. values-Complete setup past legal actor n outcome ok x;
      readings = λ s waits.
          let still = still_waits setup past legal actor n outcome ok straight s waits in (
            readings-Complete setup past legal actor n outcome ok first_source s waits still,
            readings-Complete setup past legal actor n outcome ok second_source s waits still,
          );
      job = λ j. job_done actor j (job past j);
      flights = calm-flights setup e past calm;
      stays = record {
        hart = hart-calm setup past e calm h refl Issued Completed (was-Complete setup past legal actor n outcome ok)
            (now-Complete setup past legal actor n outcome ok) refl refl refl refl
            (λ r low high. mapped-kept setup past legal e ok h r (writes_same h r))
            (λ r low high. commits_same h r) tt refl;
        others = others-calm setup past legal e ok calm (λ g. refl) h of_n writes_same commits_same
            (λ g other. pc-Complete setup past actor n outcome g (nowhere g)) (λ g. refl);
        shared = record {
          kept = λ s f at. at;
          operands = keeps_jobs setup past legal e ok;
          queue =
              queue-calm e past calm refl (own-Complete setup past legal actor n outcome ok (λ f. is f Renamed) refl);
          free = free-same setup past (e ∷ past) legal (ok, legal)
              (claims-calm setup past e ok calm (own-Complete setup past legal actor n outcome ok is_in_flight refl)
              commits_same);
          values = tt;
          readings = tt;
          job = tt;
          fetches = record { fetched = λ s. refl; fetches = refl; last_fetched = refl };
          records = refl;
          output = refl;
          memory = record { byte = λ addr. refl; reserved = λ g. refl; touched = λ s. refl; looks = refl };
        };
      };
    }
