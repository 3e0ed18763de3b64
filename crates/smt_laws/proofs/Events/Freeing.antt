-- Which registers are free, and what waiting instructions read, across one event.
use Rattle.std.specs.Prelude.{◌≡◌, ◌≢◌, ℕ, ◌≤◌, Bool, true, false, ◌==◌, ◌&&◌, nat_lt, if◌then◌else◌, List, ◌∷◌, Option}
use Rattle.std.specs.Prelude.{Some, None}
use Rattle.std.proofs.Common.{◌∙◌, refl, sym, ap, subst, inl, inr, arith}
use Rattle.std.proofs.{lemmas.Bool.cases_Bool, lemmas.Bool.Decides.nat_tests}
use Rattle.rv_instr.specs.declared.op.Op.{Op}
use Rattle.events.specs.declared.event.Event.{Event}
use Rattle.smt_model.specs.{Setup.Setup, Setup.registers_of, Kinds.first_source, Kinds.second_source, Rules.refused}
use Rattle.smt_model.specs.{Rules.is_legal, Picture.picture, Picture.source_register_in, Picture.is_free}
use Rattle.smt_model.specs.{Steps.ReadsTheSame, Steps.KeepsReadings}
use Rattle.smt_model.specs.Fates.{Fetched, Renamed, stage, fate, is, is_in_flight, is_of, fetching, op_of_fetched}
use Rattle.smt_model.specs.Registers.{phys, source_register, committed, value, reading, reading_by, reads, is_unclaimed}
use Rattle.smt_model.proofs.Fates.Numbers.{known_below, known_fetched, fetching-kept}
use Rattle.smt_laws.proofs.Registers.Reading.{source_register-stays}
use Rattle.smt_model.proofs.Registers.Claims.{IsRegister, claimant, flight_claimed, committed_claimed}

-- ---- Free registers

pub true_false : true ≢ false
true_false same = grind arith

pub same_test : (a b : Bool) → (a ≡ false → b ≡ false) → (b ≡ false → a ≡ false) → a ≡ b
same_test true true to from = refl
same_test true false to from = absurd (true_false (from refl))
same_test false true to from = absurd (true_false (to refl))
same_test false false to from = refl

-- Claims of one history are claims of another.
pub claims_on : (setup : Setup) (past now : List Event) → is_legal setup now
    → ((s p : ℕ) → is_in_flight (fate past s) ≡ true → phys past s ≡ Some p → is_unclaimed setup now p ≡ false)
    → ((h r : ℕ) → IsRegister setup h r → is_unclaimed setup now (committed past h r) ≡ false)
    → (p : ℕ) → is_unclaimed setup past p ≡ false → is_unclaimed setup now p ≡ false
claims_on setup past now legal flights registers p claimed =
    elim (claimant setup past p claimed) [
      | inl flight ↦ flights flight.one p flight.flies flight.names
      | inr register ↦
          subst (λ x. is_unclaimed setup now x ≡ false) register.commits
          (registers register.hart register.register register.is_register)
    ]

-- The same are in flight with the same registers, and the same are committed.
pub record ClaimsTheSame (setup : Setup) (past now : List Event) : Type 0 where
  pub flies : (s : ℕ) → is_in_flight (fate now s) ≡ is_in_flight (fate past s)
  pub names : (s : ℕ) → is_in_flight (fate past s) ≡ true → phys now s ≡ phys past s
  pub commits : (h r : ℕ) → IsRegister setup h r → committed now h r ≡ committed past h r

pub unclaimed-same : (setup : Setup) (past now : List Event) → is_legal setup past → is_legal setup now
    → ClaimsTheSame setup past now
    → (p : ℕ) → is_unclaimed setup now p ≡ is_unclaimed setup past p
unclaimed-same setup past now legal legal_now same p =
    same_test (is_unclaimed setup now p) (is_unclaimed setup past p)
    (claims_on setup now past legal
    (λ s q flies names.
    let before : is_in_flight (fate past s) ≡ true = sym (same.flies s) ∙ flies in
    flight_claimed setup past legal s q before (sym (same.names s before) ∙ names))
    (λ h r is_register.
    subst (λ x. is_unclaimed setup past x ≡ false) (sym (same.commits h r is_register))
    (committed_claimed setup past h r is_register)) p)
    (claims_on setup past now legal_now
    (λ s q flies names. flight_claimed setup now legal_now s q (same.flies s ∙ flies) (same.names s flies ∙ names))
    (λ h r is_register.
    subst (λ x. is_unclaimed setup now x ≡ false) (same.commits h r is_register)
    (committed_claimed setup now h r is_register)) p)

pub free-same : (setup : Setup) (past now : List Event) → is_legal setup past → is_legal setup now
    → ClaimsTheSame setup past now
    → (p : ℕ) → is_free setup now p ≡ is_free setup past p
free-same setup past now legal legal_now same p =
    ap (λ b. nat_lt p (registers_of setup) && b) (unclaimed-same setup past now legal legal_now same p)

-- ---- Readings

seen_by-is : (past : List Event) (which : Op → ℕ) (s : ℕ) (f : Fetched) → fetching past s ≡ Some f
    → source_register_in past which s (fetching past s) ≡ source_register past f.hart (which (op_of_fetched (Some f))) s
seen_by-is past which s f at = ap (source_register_in past which s) at

reads-is : (setup : Setup) (past : List Event) (which : Op → ℕ) (s : ℕ) (f : Fetched) → fetching past s ≡ Some f
    → reads setup which past s ≡ reading setup past f.hart (which (op_of_fetched (Some f))) s
reads-is setup past which s f at = ap (reading_by setup which past s) at

-- An instruction that is in flight before and after an event.
pub record IsFlying (past : List Event) (e : Event) (s : ℕ) : Type 0 where
  pub was : is_in_flight (fate past s) ≡ true
  pub still : is_in_flight (fate (e ∷ past) s) ≡ true
  pub fetch : Fetched
  pub fetched : fetching past s ≡ Some fetch
  pub now : fetching (e ∷ past) s ≡ Some fetch
  pub of_hart : is_of past fetch.hart s ≡ true

pub is_flying : (setup : Setup) (past : List Event) → is_legal setup past → (e : Event)
    → refused setup past e ≡ None → (s : ℕ)
    → is_in_flight (fate past s) ≡ true → is_in_flight (fate (e ∷ past) s) ≡ true → IsFlying past e s
is_flying setup past legal e ok s was still =
    let is_known : 1 ≤ stage (fate past s) = grind (arith, nat_tests) in
    let found = known_fetched setup past legal s is_known in
    record {
      was = was;
      still = still;
      fetch = found.fetch;
      fetched = found.fetched;
      now = fetching-kept setup past legal e ok s (known_below setup past legal s is_known) ∙ found.fetched;
      of_hart = found.of_hart;
    }

-- It finds the same register,
pub seen_by-stays : (setup : Setup) (past : List Event) → is_legal setup past → (e : Event)
    → refused setup past e ≡ None → (which : Op → ℕ)
    → (s : ℕ) → IsFlying past e s → source_register_in (e ∷ past) which s (fetching (e ∷ past) s)
    ≡ source_register_in past which s (fetching past s)
seen_by-stays setup past legal e ok which s flying =
    let f = flying.fetch in
    seen_by-is (e ∷ past) which s f flying.now
    ∙ (source_register-stays setup past legal e ok f.hart (which (op_of_fetched (Some f))) s flying.of_hart flying.was
    flying.still
    ∙ sym (seen_by-is past which s f flying.fetched))

-- and reads what that holds.
abbrev pub holding : ℕ → Option ℕ → Option ℕ
holding r held = if r == 0 then Some 0 else held

pub reads-now : (setup : Setup) (past : List Event) → is_legal setup past → (e : Event) → refused setup past e ≡ None
    → (which : Op → ℕ)
    → (s : ℕ) → (flying : IsFlying past e s)
    → reads setup which (e ∷ past) s
    ≡ holding (which (op_of_fetched (Some flying.fetch)))
    (value setup (e ∷ past) (source_register_in past which s (fetching past s)))
reads-now setup past legal e ok which s flying =
    let f = flying.fetch in
    reads-is setup (e ∷ past) which s f flying.now
    ∙ ap (λ x. holding (which (op_of_fetched (Some f))) (value setup (e ∷ past) x))
    (sym (seen_by-is (e ∷ past) which s f flying.now) ∙ seen_by-stays setup past legal e ok which s flying)

pub reads-then : (setup : Setup) (past : List Event) (e : Event) (which : Op → ℕ) (s : ℕ) → (flying : IsFlying past e s)
    → reads setup which past s
    ≡ holding (which (op_of_fetched (Some flying.fetch)))
    (value setup past (source_register_in past which s (fetching past s)))
reads-then setup past e which s flying =
    let f = flying.fetch in
    reads-is setup past which s f flying.fetched
    ∙ ap (λ x. holding (which (op_of_fetched (Some f))) (value setup past x))
    (sym (seen_by-is past which s f flying.fetched))

pub held_same : (r : ℕ) (a b : Option ℕ) → (1 ≤ r → a ≡ b) → holding r a ≡ holding r b
held_same r a b same =
    elim (cases_Bool (r == 0)) [
      | inl zero ↦ rw zero refl
      | inr some ↦ rw some (same (grind (arith, nat_tests)))
    ]

-- Where its register holds what it held, it reads what it read.
pub reads-same : (setup : Setup) (past : List Event) → is_legal setup past → (e : Event) → refused setup past e ≡ None
    → (which : Op → ℕ)
    → (s : ℕ) → (flying : IsFlying past e s)
    → (1 ≤ which (op_of_fetched (Some flying.fetch))
    → value setup (e ∷ past) (source_register_in past which s (fetching past s))
    ≡ value setup past (source_register_in past which s (fetching past s)))
    → ReadsTheSame (picture setup past) (picture setup (e ∷ past)) which s
reads-same setup past legal e ok which s flying same = record {
  seen = seen_by-stays setup past legal e ok which s flying;
  reads =
      reads-now setup past legal e ok which s flying
      ∙ (held_same (which (op_of_fetched (Some flying.fetch)))
      (value setup (e ∷ past) (source_register_in past which s (fetching past s)))
      (value setup past (source_register_in past which s (fetching past s))) same
      ∙ sym (reads-then setup past e which s flying));
}

pub renamed_flies : (past : List Event) (s : ℕ) → is (fate past s) Renamed ≡ true → is_in_flight (fate past s) ≡ true
renamed_flies past s waits = grind (arith, nat_tests)

-- Where no register gets another number, all that wait read what they read.
pub keeps_readings : (setup : Setup) (past : List Event) → is_legal setup past → (e : Event)
    → refused setup past e ≡ None
    → ((x : ℕ) → value setup (e ∷ past) x ≡ value setup past x)
    → KeepsReadings (picture setup past) (picture setup (e ∷ past))
keeps_readings setup past legal e ok same s waits still =
    let flying = is_flying setup past legal e ok s (renamed_flies past s waits) (renamed_flies (e ∷ past) s still) in (
      reads-same setup past legal e ok first_source s flying
          (λ some. same (source_register_in past first_source s (fetching past s))),
      reads-same setup past legal e ok second_source s flying
          (λ some. same (source_register_in past second_source s (fetching past s))),
    )
