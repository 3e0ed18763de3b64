-- What completed instructions said: their fields are those that the rules compute from their operands.
use Rattle.std.specs.Prelude.{◌≡◌, ◌≢◌, ℕ, Bool, true, ◌==◌, List, [], ◌∷◌, Option, Some, None}
use Rattle.std.proofs.Common.{◌∙◌, refl, sym, ap, subst, inl, inr, arith}
use Rattle.std.proofs.{lemmas.Bool.cases_eq, lemmas.Bool.Decides.nat_tests}
use Rattle.events.specs.{declared.effect.Next.Next, declared.effect.Next.TheVariants.Pc}
use Rattle.events.specs.{declared.effect.Next.TheVariants.Ended, declared.effect.Next.TheVariants.Stopped}
use Rattle.events.specs.{declared.effect.Outcome.Outcome, declared.effect.Effect.Effect}
use Rattle.events.specs.{declared.effect.Written.Written, declared.event.Event.Event}
use Rattle.events.specs.declared.event.Event.TheVariants.{Fetch, Decode, Rename, Issue, Complete, Drop, Retire, Refetch}
use Rattle.smt_model.specs.{Basics.or_else, Basics.or_zero, Setup.Setup, Kinds.first_source, Kinds.second_source}
use Rattle.smt_model.specs.{Faults.computed_on, Outcomes.outcome_of, Looks.first_look}
use Rattle.smt_model.specs.Fates.{Fetched, stage, fate, op_of_fetched, fetching, completion}
use Rattle.smt_model.specs.Registers.{result_of, result_said, resulting, option_inner, operand}
use Rattle.smt_model.specs.Rules.{refused, is_legal, of_fetched, computed_at, outcome_now, effect_now}
use Rattle.smt_model.specs.Comparisons.{same_next, same_write, same_outcome, same_effect}
use Rattle.smt_model.proofs.{Allowed.complete_allowed, Allowed.retire_allowed, Fates.Sound.sound}
use Rattle.smt_model.proofs.Fates.Numbers.{known_below, known_fetched, fetching-kept}
use Rattle.smt_laws.proofs.Registers.Namings.{completion-kept, operand-kept}
use Rattle.smt_model.proofs.Fates.Moves.{same_number-is, complete_was, retire_was, stage-retired_as}

-- ---- Tests of fields

number-is : (x y : ℕ) → (x == y) ≡ true → x ≡ y
number-is x y same = grind (arith, nat_tests)

written-is : (v w : Written) → v.addr ≡ w.addr → v.n ≡ w.n → v.datum ≡ w.datum → v ≡ w
written-is v w addr n datum =
    ap (λ z. record { addr = z; n = v.n; datum = v.datum }) addr
    ∙ (ap (λ z. record { addr = w.addr; n = z; datum = v.datum }) n
    ∙ ap (λ z. record { addr = w.addr; n = w.n; datum = z }) datum)

pub same_next-is : (a b : Next) → same_next a b ≡ true → a ≡ b
same_next-is (Pc x) (Pc y) same = ap Pc (number-is x y same)
same_next-is (Pc x) (Ended y) same = absurd (grind arith)
same_next-is (Pc x) (Stopped y) same = absurd (grind arith)
same_next-is (Ended x) (Pc y) same = absurd (grind arith)
same_next-is (Ended x) (Ended y) same = ap Ended (number-is x y same)
same_next-is (Ended x) (Stopped y) same = absurd (grind arith)
same_next-is (Stopped x) (Pc y) same = absurd (grind arith)
same_next-is (Stopped x) (Ended y) same = absurd (grind arith)
same_next-is (Stopped x) (Stopped y) same = ap Stopped (number-is x y same)

pub same_write-is : (a b : Option Written) → same_write a b ≡ true → a ≡ b
same_write-is None None same = refl
same_write-is None (Some w) same = absurd (grind arith)
same_write-is (Some v) None same = absurd (grind arith)
same_write-is (Some v) (Some w) same =
    let addr : v.addr ≡ w.addr = grind (arith, nat_tests) in
    let n : v.n ≡ w.n = grind (arith, nat_tests) in
    let datum : v.datum ≡ w.datum = grind (arith, nat_tests) in
    ap Some (written-is v w addr n datum)

pub outcome-is : (a b : Outcome) → a.value ≡ b.value → a.next ≡ b.next → a.addr ≡ b.addr → a.datum ≡ b.datum
    → a.out ≡ b.out → a ≡ b
outcome-is a b value next addr datum out =
    ap (λ z. record { value = z; next = a.next; addr = a.addr; datum = a.datum; out = a.out }) value
    ∙ (ap (λ z. record { value = b.value; next = z; addr = a.addr; datum = a.datum; out = a.out }) next
    ∙ (ap (λ z. record { value = b.value; next = b.next; addr = z; datum = a.datum; out = a.out }) addr
    ∙ (ap (λ z. record { value = b.value; next = b.next; addr = b.addr; datum = z; out = a.out }) datum
    ∙ ap (λ z. record { value = b.value; next = b.next; addr = b.addr; datum = b.datum; out = z }) out)))

pub effect-is : (a b : Effect) → a.value ≡ b.value → a.next ≡ b.next → a.write ≡ b.write → a.out ≡ b.out → a ≡ b
effect-is a b value next write out =
    ap (λ z. record { value = z; next = a.next; write = a.write; out = a.out }) value
    ∙ (ap (λ z. record { value = b.value; next = z; write = a.write; out = a.out }) next
    ∙ (ap (λ z. record { value = b.value; next = b.next; write = z; out = a.out }) write
    ∙ ap (λ z. record { value = b.value; next = b.next; write = b.write; out = z }) out))

pub same_outcome-is : (a b : Outcome) → same_outcome a b ≡ true → a ≡ b
same_outcome-is a b same =
    outcome-is a b (same_number-is a.value b.value (grind arith)) (same_next-is a.next b.next (grind arith))
    (same_number-is a.addr b.addr (grind arith)) (same_number-is a.datum b.datum (grind arith))
    (same_number-is a.out b.out (grind arith))

pub same_effect-is : (a b : Effect) → same_effect a b ≡ true → a ≡ b
same_effect-is a b same =
    effect-is a b (same_number-is a.value b.value (grind arith)) (same_next-is a.next b.next (grind arith))
    (same_write-is a.write b.write (grind arith)) (same_number-is a.out b.out (grind arith))

-- ---- What an allowed completion and retirement say

of_fetched-at : (past : List Event) (s : ℕ) (test : Fetched → Bool) (f : Fetched) → fetching past s ≡ Some f
    → of_fetched past s test ≡ true → test f ≡ true
of_fetched-at past s test f at holds = rw at at holds

pub complete_says : (setup : Setup) (past : List Event) (actor n : ℕ) (outcome : Outcome)
    → refused setup past (Complete actor n outcome) ≡ None
    → (f : Fetched) → fetching past n ≡ Some f → outcome ≡ outcome_now setup past n f
complete_says setup past actor n outcome ok f at =
    same_outcome-is outcome (outcome_now setup past n f)
    (of_fetched-at past n (λ g. same_outcome outcome (outcome_now setup past n g)) f
    at (complete_allowed setup past actor n outcome ok).outcome_is)

pub retire_says : (setup : Setup) (past : List Event) (actor n : ℕ) (effect : Effect)
    → refused setup past (Retire actor n effect) ≡ None
    → (f : Fetched) → fetching past n ≡ Some f → effect ≡ effect_now setup past n f
retire_says setup past actor n effect ok f at =
    same_effect-is effect (effect_now setup past n f)
    (of_fetched-at past n (λ g. same_effect effect (effect_now setup past n g)) f
    at (retire_allowed setup past actor n effect ok).effect_is)

-- ---- Completed instructions

-- A completed instruction said what the rules compute of its operands, with some number for what a load saw; and it is
-- this that its register holds.
pub record IsCompleted (setup : Setup) (past : List Event) (s : ℕ) : Type 0 where
  pub fetch : Fetched
  pub outcome : Outcome
  pub look : ℕ
  pub fetched : fetching past s ≡ Some fetch
  pub completed : completion past s ≡ Some outcome
  pub outcome_is : outcome ≡ outcome_of (op_of_fetched (Some fetch)) (computed_at setup past s fetch) (Some look)
  pub result_is : result_of past s ≡ outcome.value

-- Its operands stay, and so what is computed of them.
pub computed-kept : (setup : Setup) (past : List Event) (e : Event) → refused setup past e ≡ None
    → (s : ℕ) (f : Fetched)
    → stage (fate past s) ≢ 3 → computed_at setup (e ∷ past) s f ≡ computed_at setup past s f
computed-kept setup past e ok s f late =
    let op = op_of_fetched (Some f) in
    let one = operand-kept setup past e ok first_source s late in
    let two = operand-kept setup past e ok second_source s late in
    ap (λ a. computed_on setup op f.pc (or_zero a) (or_zero (operand setup second_source (e ∷ past) s))) one
    ∙ ap (λ b. computed_on setup op f.pc (or_zero (operand setup first_source past s)) (or_zero b)) two

-- An event that is neither its completion nor its retirement leaves a completed one as it was.
completed-kept : (setup : Setup) (past : List Event) → is_legal setup past → (e : Event)
    → refused setup past e ≡ None → (s : ℕ)
    → stage (fate past s) ≡ 5 → resulting e s ≡ None → IsCompleted setup past s → IsCompleted setup (e ∷ past) s
completed-kept setup past legal e ok s at quiet before = record {
  fetch = before.fetch;
  outcome = before.outcome;
  look = before.look;
  fetched = fetching-kept setup past legal e ok s (known_below setup past legal s (omega arith)) ∙ before.fetched;
  completed = completion-kept setup past legal e ok s (λ four. absurd (omega arith)) ∙ before.completed;
  outcome_is = before.outcome_is
      ∙ sym (ap (λ c. outcome_of (op_of_fetched (Some before.fetch)) c (Some before.look))
      (computed-kept setup past e ok s before.fetch (λ three. absurd (omega arith))));
  result_is = ap (λ o. option_inner (or_else o (result_said past s))) quiet ∙ before.result_is;
}

completed-now : (setup : Setup) (past : List Event) → is_legal setup past → (actor n : ℕ) (outcome : Outcome)
    → refused setup past (Complete actor n outcome) ≡ None → IsCompleted setup (Complete actor n outcome ∷ past) n
completed-now setup past legal actor n outcome ok =
    let was = complete_was setup past (sound setup past legal) actor n outcome ok in
    let found = known_fetched setup past legal n (omega arith) in
    let f = found.fetch in
    let op = op_of_fetched (Some f) in
    let says = complete_says setup past actor n outcome ok f found.fetched in
    let same : (n == n) ≡ true = grind (arith, nat_tests) in
    record {
      fetch = f;
      outcome = outcome;
      look = first_look setup past f.hart n op (computed_at setup past n f).addr;
      fetched = found.fetched;
      completed = rw same refl;
      outcome_is = says;
      result_is = rw same refl;
    }

-- What is completed now was completed before, or completes now.
pub completes : (setup : Setup) (past : List Event) → is_legal setup past → (e : Event)
    → refused setup past e ≡ None → (s : ℕ)
    → stage (fate (e ∷ past) s) ≡ 5 → (resulting e s ≡ None) → stage (fate past s) ≡ 5
completes setup past legal (Fetch actor hart n pc word predicted) ok s now quiet = grind (arith, nat_tests)
completes setup past legal (Decode actor n) ok s now quiet = grind (arith, nat_tests)
completes setup past legal (Rename actor n register) ok s now quiet = grind (arith, nat_tests)
completes setup past legal (Issue actor n) ok s now quiet = grind (arith, nat_tests)
completes setup past legal (Complete actor n outcome) ok s now quiet = grind (arith, nat_tests)
completes setup past legal (Drop actor n) ok s now quiet = grind (arith, nat_tests)
completes setup past legal (Retire actor n effect) ok s now quiet = grind (arith, nat_tests)
completes setup past legal (Refetch actor n) ok s now quiet = grind (arith, nat_tests)

-- The law: a completed instruction said what the rules compute.
pub completed-is : (setup : Setup) (past : List Event) → is_legal setup past → (s : ℕ) → stage (fate past s) ≡ 5
    → IsCompleted setup past s
completed-is setup [] legal s now = absurd (grind arith)
completed-is setup (Fetch actor hart n pc word predicted ∷ past) legal s now =
    let e = Fetch actor hart n pc word predicted in
    let was = completes setup past legal.1 e legal.0 s now refl in
    completed-kept setup past legal.1 e legal.0 s was refl (completed-is setup past legal.1 s was)
completed-is setup (Decode actor n ∷ past) legal s now =
    let was = completes setup past legal.1 (Decode actor n) legal.0 s now refl in
    completed-kept setup past legal.1 (Decode actor n) legal.0 s was refl (completed-is setup past legal.1 s was)
completed-is setup (Rename actor n register ∷ past) legal s now =
    let was = completes setup past legal.1 (Rename actor n register) legal.0 s now refl in
    completed-kept setup past legal.1 (Rename actor n register) legal.0 s was refl
    (completed-is setup past legal.1 s was)
completed-is setup (Issue actor n ∷ past) legal s now =
    let was = completes setup past legal.1 (Issue actor n) legal.0 s now refl in
    completed-kept setup past legal.1 (Issue actor n) legal.0 s was refl (completed-is setup past legal.1 s was)
completed-is setup (Complete actor n outcome ∷ past) legal s now =
    elim (cases_eq n s) [
      | inl here ↦ subst (λ z. IsCompleted setup (Complete actor n outcome ∷ past) z) here
          (completed-now setup past legal.1 actor n outcome legal.0)
      | inr other ↦
          let quiet : resulting (Complete actor n outcome) s ≡ None = grind (arith, nat_tests) in
          let was = completes setup past legal.1 (Complete actor n outcome) legal.0 s now quiet in
          completed-kept setup past legal.1 (Complete actor n outcome) legal.0 s was quiet
          (completed-is setup past legal.1 s was)
    ]
completed-is setup (Drop actor n ∷ past) legal s now =
    let was = completes setup past legal.1 (Drop actor n) legal.0 s now refl in
    completed-kept setup past legal.1 (Drop actor n) legal.0 s was refl (completed-is setup past legal.1 s was)
completed-is setup (Retire actor n effect ∷ past) legal s now =
    let at = retire_was setup past actor n effect legal.0 in
    let as_told = stage-retired_as effect in
    let other : n ≢ s = λ here. absurd (grind (arith, nat_tests)) in
    let quiet : resulting (Retire actor n effect) s ≡ None = grind (arith, nat_tests) in
    let was = completes setup past legal.1 (Retire actor n effect) legal.0 s now quiet in
    completed-kept setup past legal.1 (Retire actor n effect) legal.0 s was quiet
    (completed-is setup past legal.1 s was)
completed-is setup (Refetch actor n ∷ past) legal s now =
    let was = completes setup past legal.1 (Refetch actor n) legal.0 s now refl in
    completed-kept setup past legal.1 (Refetch actor n) legal.0 s was refl (completed-is setup past legal.1 s was)
