-- The headline: the retirements of every legal history are a run of the plain machine, which ends where the history
-- does.
use Rattle.std.specs.Prelude.{◌≡◌, ℕ, ◌+◌, ◌-◌, ◌*◌, ◌/◌, ◌%◌, ◌<◌, ◌≤◌, Bool, true, false, nat_lt, if◌then◌else◌}
use Rattle.std.specs.Prelude.{List, [], ◌∷◌, map, Option, Some, None}
use Rattle.std.proofs.Common.{◌∙◌, refl, ap, subst, true≢false, inl, inr, arith}
use Rattle.std.proofs.{lemmas.Bool.cases_lt, lemmas.Bool.Decides.nat_tests}
use Rattle.events.specs.{declared.effect.Outcome.Outcome, declared.effect.Effect.Effect, declared.event.Event.Event}
use Rattle.events.specs.declared.event.Event.TheVariants.{Fetch, Decode, Rename, Issue, Complete, Drop, Retire, Refetch}
use Rattle.smt_model.specs.{declared.config.Status.Status, Setup.Setup, Setup.registers_of, Setup.first_number, Bytes.byte_after, Plain.start}
use Rattle.smt_model.specs.{Plain.output_after, Plain.run, Folds.by_retirements, Fates.stage, Fates.fate, Fates.op_of_fetched, Rules.refused}
use Rattle.smt_model.specs.{Rules.is_legal, Rules.computed_at}
use Rattle.smt_model.specs.Registers.{committed, value, claims, flight_claims, committed_claims}
use Rattle.smt_model.proofs.{Fates.Moves.complete_was, Fates.Sound.sound}
use Rattle.smt_laws.proofs.Registers.Namings.{in_range}
use Rattle.smt_laws.proofs.Registers.Sources.{committer-is}
use Rattle.smt_model.proofs.Registers.Claims.{IsRegister, who_flies}
use Rattle.smt_model.proofs.Registers.Claims.{who_commits}
use Rattle.smt_laws.proofs.Registers.Counts.{claims-once}
use Rattle.smt_laws.proofs.{Registers.Counts.committed-range, Events.Calm.result-other}
use Rattle.smt_laws.proofs.Registers.Committing.{committer-Fetch, committer-Decode, committer-Rename, committer-Issue}
use Rattle.smt_laws.proofs.Registers.Committing.{committer-Complete, committer-Refetch}
use Rattle.smt_laws.specs.Sequential.{IsSequential, EachIsSequential}
use Rattle.smt_laws.proofs.{Done.done-at, Agreeing.step-is}
use Rattle.smt_laws.proofs.Stepping.{value-kept, longer, runs-Retire, records-longer, pcs-Retire, statuses-Retire}
use Rattle.smt_laws.proofs.Stepping.{reserved-Retire, registers-Retire}

-- ---- Claims are of the core's registers

none_flies : (setup : Setup) (past : List Event) → is_legal setup past → (p : ℕ) → registers_of setup ≤ p
    → flight_claims past p ≡ 0
none_flies setup past legal p beyond =
    elim (cases_lt 0 (flight_claims past p)) [
      | inl some ↦
          let one = who_flies past p some in
          let under = in_range setup past legal one.one p one.names in
          absurd (omega arith)
      | inr none ↦ omega arith
    ]

none_commits : (setup : Setup) (past : List Event) → is_legal setup past → (p : ℕ) → registers_of setup ≤ p
    → committed_claims setup past p ≡ 0
none_commits setup past legal p beyond =
    elim (cases_lt 0 (committed_claims setup past p)) [
      | inl some ↦
          let one = who_commits setup past p some in
          let under = committed-range setup past legal one.hart one.register one.is_register in
          let at = one.commits in
          absurd (omega arith)
      | inr none ↦ omega arith
    ]

pub claims-there : (setup : Setup) (past : List Event) → is_legal setup past → (p : ℕ) → registers_of setup ≤ p
    → claims setup past p ≡ 0
claims-there setup past legal p beyond =
    let flies = none_flies setup past legal p beyond in
    let commits = none_commits setup past legal p beyond in
    omega arith

-- ---- The start

start_number : (harts h r : ℕ) → h < harts → 1 ≤ r → r < 32
    → (if nat_lt (31 * h + r - 1) (31 * harts)
    then Some (first_number harts ((31 * h + r - 1) / 31) ((31 * h + r - 1) % 31 + 1)) else None)
    ≡ Some (first_number harts h r)
start_number harts h r there low high =
    let inside : nat_lt (31 * h + r - 1) (31 * harts) ≡ true = grind (arith, nat_tests) in
    let hart_is : (31 * h + r - 1) / 31 ≡ h = omega arith in
    let register_is : (31 * h + r - 1) % 31 + 1 ≡ r = omega arith in
    rw (inside, hart_is, register_is) refl

begins : (setup : Setup) → IsSequential setup []
begins setup = record {
  claimed_once = claims-once setup [] tt;
  claimed_there = claims-there setup [] tt;
  ran = record { records = []; state = start setup };
  runs = refl;
  records = refl;
  registers = λ h r there low high. start_number setup.harts h r there low high;
  pcs = λ h. refl;
  statuses = λ h. refl;
  reserved = λ h. refl;
  bytes = λ a. refl;
  output = refl;
}

-- ---- Each event

abbrev retires : Event → Bool
retires (Retire actor n x) = true
retires e = false

is_register : (setup : Setup) (h r : ℕ) → h < setup.harts → 1 ≤ r → r < 32 → IsRegister setup h r
is_register setup h r there low high = record { hart = there; low = low; high = high }

-- An event that commits nothing leaves all committed registers with their numbers.
abbrev Keeps : Setup → List Event → Event → Type 0
Keeps setup past e = (h r : ℕ) → IsRegister setup h r
    → value setup (e ∷ past) (committed (e ∷ past) h r) ≡ value setup past (committed past h r)

keeps-Fetch : (setup : Setup) (past : List Event) → is_legal setup past
    → (actor hart n pc : ℕ) (word : Option ℕ) (predicted : ℕ)
    → refused setup past (Fetch actor hart n pc word predicted) ≡ None
    → Keeps setup past (Fetch actor hart n pc word predicted)
keeps-Fetch setup past legal actor hart n pc word predicted ok h r there =
    value-kept setup past legal (Fetch actor hart n pc word predicted) ok h r there
    (committer-Fetch setup past legal actor hart n pc word predicted ok h r) (λ w found. refl)

keeps-Decode : (setup : Setup) (past : List Event) → is_legal setup past → (actor n : ℕ)
    → refused setup past (Decode actor n) ≡ None → Keeps setup past (Decode actor n)
keeps-Decode setup past legal actor n ok h r there =
    value-kept setup past legal (Decode actor n) ok h r there (committer-Decode setup past legal actor n ok h r)
    (λ w found. refl)

keeps-Rename : (setup : Setup) (past : List Event) → is_legal setup past → (actor n : ℕ) (register : Option ℕ)
    → refused setup past (Rename actor n register) ≡ None → Keeps setup past (Rename actor n register)
keeps-Rename setup past legal actor n register ok h r there =
    value-kept setup past legal (Rename actor n register) ok h r there
    (committer-Rename setup past legal actor n register ok h r) (λ w found. refl)

keeps-Issue : (setup : Setup) (past : List Event) → is_legal setup past → (actor n : ℕ)
    → refused setup past (Issue actor n) ≡ None → Keeps setup past (Issue actor n)
keeps-Issue setup past legal actor n ok h r there =
    value-kept setup past legal (Issue actor n) ok h r there (committer-Issue setup past legal actor n ok h r)
    (λ w found. refl)

keeps-Complete : (setup : Setup) (past : List Event) → is_legal setup past → (actor n : ℕ) (o : Outcome)
    → refused setup past (Complete actor n o) ≡ None → Keeps setup past (Complete actor n o)
keeps-Complete setup past legal actor n o ok h r there =
    let was = complete_was setup past (sound setup past legal) actor n o ok in
    value-kept setup past legal (Complete actor n o) ok h r there
    (committer-Complete setup past legal actor n o ok h r) (λ w found.
    let retired = (committer-is past h r w found).retired in
    result-other (Complete actor n o) past w (λ same. absurd (omega (arith, ap (λ z. stage (fate past z)) same))))

keeps-Drop : (setup : Setup) (past : List Event) (actor n : ℕ) → Keeps setup past (Drop actor n)
keeps-Drop setup past actor n h r there = refl

keeps-Refetch : (setup : Setup) (past : List Event) → is_legal setup past → (actor n : ℕ)
    → refused setup past (Refetch actor n) ≡ None → Keeps setup past (Refetch actor n)
keeps-Refetch setup past legal actor n ok h r there =
    value-kept setup past legal (Refetch actor n) ok h r there (committer-Refetch setup past legal actor n ok h r)
    (λ w found. refl)

-- What retirements make of a start is the same after an event that is none, so the history stays a run.
still : {A : Type 0} (change : ℕ → Effect → List Event → A → A) (first : A) (e : Event) (past : List Event)
    → retires e ≡ false → by_retirements change first past ≡ by_retirements change first (e ∷ past)
still change first (Fetch actor hart n pc word predicted) past none = refl
still change first (Decode actor n) past none = refl
still change first (Rename actor n register) past none = refl
still change first (Issue actor n) past none = refl
still change first (Complete actor n o) past none = refl
still change first (Drop actor n) past none = refl
still change first (Refetch actor n) past none = refl
still change first (Retire actor n x) past none = absurd (true≢false none)

goes-on : (setup : Setup) (past : List Event) → (legal : is_legal setup past) → IsSequential setup past → (e : Event)
    → retires e ≡ false → (ok : refused setup past e ≡ None) → Keeps setup past e → IsSequential setup (e ∷ past)
goes-on setup past legal k e none ok keeps = record {
  claimed_once = claims-once setup (e ∷ past) (ok, legal);
  claimed_there = claims-there setup (e ∷ past) (ok, legal);
  ran = k.ran;
  runs = subst (λ newer. run setup (map (λ r. r.hart) newer) ≡ Some k.ran) (still _ _ e past none) k.runs;
  records = k.records ∙ still _ _ e past none;
  registers = λ h r there low high.
      keeps h r (is_register setup h r there low high) ∙ k.registers h r there low high;
  pcs = λ h. k.pcs h ∙ ap (λ (pcs : ℕ → ℕ). pcs h) (still _ _ e past none);
  statuses = λ h. k.statuses h ∙ ap (λ (statuses : ℕ → Status). statuses h) (still _ _ e past none);
  reserved = λ h. k.reserved h ∙ ap (λ (reserved : ℕ → Option ℕ). reserved h) (still _ _ e past none);
  bytes = λ a. k.bytes a ∙ ap (λ (bytes : ℕ → ℕ). bytes a) (still _ _ e past none);
  output = k.output ∙ still _ _ e past none;
}

-- A retirement is a step.
goes-Retire : (setup : Setup) (past : List Event) → (legal : is_legal setup past) → IsSequential setup past
    → (actor n : ℕ) (x : Effect)
    → (ok : refused setup past (Retire actor n x) ≡ None) → IsSequential setup (Retire actor n x ∷ past)
goes-Retire setup past legal k actor n x ok =
    let done = done-at setup past legal actor n x ok in
    let f = done.fetch in
    let op = op_of_fetched (Some f) in
    let addr = (computed_at setup past n f).addr in
    record {
      claimed_once = claims-once setup (Retire actor n x ∷ past) (ok, legal);
      claimed_there = claims-there setup (Retire actor n x ∷ past) (ok, legal);
      ran = longer k.ran f.hart f.pc f.word op addr x;
      runs = runs-Retire setup past k actor n x f done.fetched (step-is setup past legal k actor n x ok done);
      records = records-longer setup past k actor n x f done.fetched op addr;
      registers = λ h r there low high. registers-Retire setup past legal k actor n x ok done h r
          (is_register setup h r there low high);
      pcs = pcs-Retire setup past k actor n x f.hart done.of_hart;
      statuses = statuses-Retire setup past k actor n x f.hart done.of_hart;
      reserved = reserved-Retire setup past k actor n x done;
      bytes = λ a. ap (byte_after x.write a) (k.bytes a);
      output = ap (output_after x.out) k.output;
    }

-- The law.
pub sequential : EachIsSequential
sequential setup [] legal = begins setup
sequential setup (Fetch actor hart n pc word predicted ∷ past) legal =
    goes-on setup past legal.1 (sequential setup past legal.1) (Fetch actor hart n pc word predicted) refl legal.0
    (keeps-Fetch setup past legal.1 actor hart n pc word predicted legal.0)
sequential setup (Decode actor n ∷ past) legal =
    goes-on setup past legal.1 (sequential setup past legal.1) (Decode actor n) refl legal.0
    (keeps-Decode setup past legal.1 actor n legal.0)
sequential setup (Rename actor n register ∷ past) legal =
    goes-on setup past legal.1 (sequential setup past legal.1) (Rename actor n register) refl legal.0
    (keeps-Rename setup past legal.1 actor n register legal.0)
sequential setup (Issue actor n ∷ past) legal =
    goes-on setup past legal.1 (sequential setup past legal.1) (Issue actor n) refl legal.0
    (keeps-Issue setup past legal.1 actor n legal.0)
sequential setup (Complete actor n o ∷ past) legal =
    goes-on setup past legal.1 (sequential setup past legal.1) (Complete actor n o) refl legal.0
    (keeps-Complete setup past legal.1 actor n o legal.0)
sequential setup (Drop actor n ∷ past) legal =
    goes-on setup past legal.1 (sequential setup past legal.1) (Drop actor n) refl legal.0
    (keeps-Drop setup past actor n)
sequential setup (Refetch actor n ∷ past) legal =
    goes-on setup past legal.1 (sequential setup past legal.1) (Refetch actor n) refl legal.0
    (keeps-Refetch setup past legal.1 actor n legal.0)
sequential setup (Retire actor n x ∷ past) legal =
    goes-Retire setup past legal.1 (sequential setup past legal.1) actor n x legal.0
