-- Operands: an issued or completed instruction took as operands what its sources hold still.
use Rattle.std.specs.Prelude.{◌≡◌, ℕ, ◌<◌, ◌≤◌, true, ◌==◌, List, [], ◌∷◌, Option, Some, None, is_some}
use Rattle.std.proofs.Common.{◌∙◌, refl, sym, ap, subst, inl, inr, arith}
use Rattle.std.proofs.{lemmas.Bool.cases_Bool, lemmas.Bool.cases_eq, lemmas.Bool.Decides.nat_tests}
use Rattle.rv_instr.specs.{Decode.op_of_word, declared.op.Op.Op}
use Rattle.events.specs.declared.event.Event.{Event}
use Rattle.events.specs.declared.event.Event.TheVariants.{Fetch, Decode, Rename, Issue, Complete, Drop, Retire, Refetch}
use Rattle.smt_model.specs.{Setup.Setup, Kinds.first_source, Kinds.second_source, Rules.refused, Rules.is_legal}
use Rattle.smt_model.specs.Fates.{Fetched, stage, fate, is_in_flight, is_of, op_of_fetched, fetching}
use Rattle.smt_model.specs.Registers.{reading, reading_by, reads, operand}
use Rattle.smt_model.proofs.{Allowed.issue_allowed, Fates.Moves.moves, Fates.Moves.issue_was, Fates.Numbers.known_below}
use Rattle.smt_model.proofs.Fates.Numbers.{known_fetched, fetching-kept}
use Rattle.smt_laws.proofs.Registers.Namings.{operand-kept}
use Rattle.smt_laws.proofs.{Registers.Namings.stage-rises, Fates.Choosing.hart_there}
use Rattle.smt_model.proofs.Registers.Claims.{IsRegister}
use Rattle.smt_laws.proofs.Registers.Below.{first_source-below, second_source-below}
use Rattle.smt_laws.proofs.Registers.Reading.{value-stays}
use Rattle.smt_model.proofs.Fates.Sound.{sound, moved, issued-Fetch, issued-Decode, issued-Rename, issued-Issue}
use Rattle.smt_model.proofs.Fates.Sound.{issued-Complete, issued-Drop, issued-Retire, issued-Refetch}

-- A source, such as the first: x0 or none, or x1 to x31.
abbrev pub IsSourceName : (Op → ℕ) → Type 0
IsSourceName which = (word : Option ℕ) → which (op_of_word word) < 32

-- ---- Readings stay

reading-stays : (setup : Setup) (past : List Event) → is_legal setup past → (e : Event) → refused setup past e ≡ None
    → (h r s : ℕ)
    → r < 32 → is_of past h s ≡ true → is_in_flight (fate past s) ≡ true → is_in_flight (fate (e ∷ past) s) ≡ true
    → (v : ℕ) → reading setup past h r s ≡ Some v → reading setup (e ∷ past) h r s ≡ Some v
reading-stays setup past legal e ok h r s high of_s was still v reads_it =
    elim (cases_Bool (r == 0)) [
      | inl zero ↦ rw zero (rw zero at reads_it)
      | inr some ↦
          let is_register : IsRegister setup h r =
          record { hart = hart_there setup past legal h s of_s; low = grind (arith, nat_tests); high = high } in
          rw some (value-stays setup past legal e ok h r s is_register of_s was still v (rw some at reads_it))
    ]

pub reading_by-is : (setup : Setup) (which : Op → ℕ) (past : List Event) (s : ℕ) (f : Fetched)
    → fetching past s ≡ Some f
    → reads setup which past s ≡ reading setup past f.hart (which (op_of_fetched (Some f))) s
reading_by-is setup which past s f at = ap (reading_by setup which past s) at

reads-stay_of : (setup : Setup) (past : List Event) → is_legal setup past → (e : Event) → refused setup past e ≡ None
    → (which : Op → ℕ) → IsSourceName which → (s : ℕ) → is_in_flight (fate past s) ≡ true
    → is_in_flight (fate (e ∷ past) s) ≡ true
    → (f : Fetched) → fetching past s ≡ Some f → is_of past f.hart s ≡ true → fetching (e ∷ past) s ≡ Some f
    → (v : ℕ) → reads setup which past s ≡ Some v → reads setup which (e ∷ past) s ≡ Some v
reads-stay_of setup past legal e ok which names s was still f at of_s now v reads_it =
    reading_by-is setup which (e ∷ past) s f now
    ∙ reading-stays setup past legal e ok f.hart (which (op_of_fetched (Some f))) s (names f.word) of_s was still v
    (sym (reading_by-is setup which past s f at) ∙ reads_it)

-- The law: what an instruction in flight reads, once there, stays.
pub reads-stay : (setup : Setup) (past : List Event) → is_legal setup past → (e : Event) → refused setup past e ≡ None
    → (which : Op → ℕ) → IsSourceName which → (s : ℕ) → is_in_flight (fate past s) ≡ true
    → is_in_flight (fate (e ∷ past) s) ≡ true
    → (v : ℕ) → reads setup which past s ≡ Some v → reads setup which (e ∷ past) s ≡ Some v
reads-stay setup past legal e ok which names s was still v reads_it =
    let is_known : 1 ≤ stage (fate past s) = grind (arith, nat_tests) in
    let found = known_fetched setup past legal s is_known in
    let kept = fetching-kept setup past legal e ok s (known_below setup past legal s is_known) in
    reads-stay_of setup past legal e ok which names s was still found.fetch found.fetched found.of_hart
    (kept ∙ found.fetched) v reads_it

-- ---- Operands are readings

-- It took a number as operand, and its source holds that number.
pub record IsReady (setup : Setup) (which : Op → ℕ) (past : List Event) (s : ℕ) : Type 0 where
  pub number : ℕ
  pub operand_is : operand setup which past s ≡ Some number
  pub reading_is : reads setup which past s ≡ Some number

some_number : (o : Option ℕ) → is_some o ≡ true → (n : ℕ) × (o ≡ Some n)
some_number None some = absurd (grind arith)
some_number (Some n) some = (n, refl)

-- It was issued before, or is it now.
ready-kept : (setup : Setup) (past : List Event) → is_legal setup past → (e : Event) → refused setup past e ≡ None
    → (which : Op → ℕ) → IsSourceName which → (s : ℕ) → 4 ≤ stage (fate past s) → stage (fate (e ∷ past) s) ≤ 5
    → IsReady setup which past s → IsReady setup which (e ∷ past) s
ready-kept setup past legal e ok which names s four five before =
    let up = stage-rises setup past legal e ok s in
    record {
      number = before.number;
      operand_is = operand-kept setup past e ok which s (λ three. absurd (omega arith)) ∙ before.operand_is;
      reading_is =
          reads-stay setup past legal e ok which names s (grind (arith, nat_tests))
          (grind (arith, nat_tests)) before.number before.reading_is;
    }

ready-now : (setup : Setup) (past : List Event) → is_legal setup past → (actor n : ℕ)
    → refused setup past (Issue actor n) ≡ None
    → (which : Op → ℕ) → IsSourceName which → is_some (reads setup which past n) ≡ true
    → IsReady setup which (Issue actor n ∷ past) n
ready-now setup past legal actor n ok which names some =
    let was = issue_was setup past actor n ok in
    let found = some_number (reads setup which past n) some in
    let same : (n == n) ≡ true = grind (arith, nat_tests) in
    record {
      number = found.0;
      operand_is = rw same found.1;
      reading_is =
          reads-stay setup past legal (Issue actor n) ok which names n (grind (arith, nat_tests))
          (grind (arith, nat_tests)) found.0 found.1;
    }

-- Which of both sources it is, has a number as the instruction issues.
abbrev pub ReadyAtIssue : Setup → (Op → ℕ) → Type 0
ReadyAtIssue setup which = (past : List Event) (actor n : ℕ) → refused setup past (Issue actor n) ≡ None
    → is_some (reads setup which past n) ≡ true

-- An event that isn't an issue issues nothing.
before_issue : (a b : ℕ) → moves a b ≡ true → 4 ≤ b → b ≤ 5 → (b ≡ 4 → a ≡ 4) → 4 ≤ a
before_issue a b move four five same = grind (arith, nat_tests)

ready-next : (setup : Setup) (past : List Event) → is_legal setup past → (e : Event) → refused setup past e ≡ None
    → (which : Op → ℕ) → IsSourceName which → (s : ℕ) → 4 ≤ stage (fate (e ∷ past) s) → stage (fate (e ∷ past) s) ≤ 5
    → (stage (fate (e ∷ past) s) ≡ 4 → stage (fate past s) ≡ 4)
    → (4 ≤ stage (fate past s) → stage (fate past s) ≤ 5 → IsReady setup which past s)
    → IsReady setup which (e ∷ past) s
ready-next setup past legal e ok which names s four five same before =
    let up = stage-rises setup past legal e ok s in
    let was =
    before_issue (stage (fate past s)) (stage (fate (e ∷ past) s)) (moved setup past legal e ok s) four five same in
    ready-kept setup past legal e ok which names s was five (before was (omega arith))

pub ready : (setup : Setup) (past : List Event) → is_legal setup past → (which : Op → ℕ) → IsSourceName which
    → ReadyAtIssue setup which
    → (s : ℕ) → 4 ≤ stage (fate past s) → stage (fate past s) ≤ 5 → IsReady setup which past s
ready setup [] legal which names at_issue s four five = absurd (grind arith)
ready setup (Fetch actor hart n pc word predicted ∷ past) legal which names at_issue s four five =
    ready-next setup past legal.1 (Fetch actor hart n pc word predicted) legal.0 which names s four five
    (issued-Fetch setup past (sound setup past legal.1) actor hart n pc word predicted legal.0 s)
    (ready setup past legal.1 which names at_issue s)
ready setup (Decode actor n ∷ past) legal which names at_issue s four five =
    ready-next setup past legal.1 (Decode actor n) legal.0 which names s four five
    (issued-Decode setup past (sound setup past legal.1) actor n legal.0 s)
    (ready setup past legal.1 which names at_issue s)
ready setup (Rename actor n register ∷ past) legal which names at_issue s four five =
    ready-next setup past legal.1 (Rename actor n register) legal.0 which names s four five
    (issued-Rename setup past (sound setup past legal.1) actor n register legal.0 s)
    (ready setup past legal.1 which names at_issue s)
ready setup (Issue actor n ∷ past) legal which names at_issue s four five =
    elim (cases_eq n s) [
      | inl here ↦
          subst (λ z. IsReady setup which (Issue actor n ∷ past) z) here
          (ready-now setup past legal.1 actor n legal.0 which names (at_issue past actor n legal.0))
      | inr other ↦
          ready-next setup past legal.1 (Issue actor n) legal.0 which names s four five (λ now.
          elim (issued-Issue setup past (sound setup past legal.1) actor n legal.0 s now) [
            | inl same ↦ absurd (other (sym same))
            | inr before ↦ before
          ]) (ready setup past legal.1 which names at_issue s)
    ]
ready setup (Complete actor n outcome ∷ past) legal which names at_issue s four five =
    ready-next setup past legal.1 (Complete actor n outcome) legal.0 which names s four five
    (λ now. (issued-Complete setup past (sound setup past legal.1) actor n outcome legal.0 s now).1)
    (ready setup past legal.1 which names at_issue s)
ready setup (Drop actor n ∷ past) legal which names at_issue s four five =
    ready-next setup past legal.1 (Drop actor n) legal.0 which names s four five
    (λ now. (issued-Drop setup past (sound setup past legal.1) actor n legal.0 s now).1)
    (ready setup past legal.1 which names at_issue s)
ready setup (Retire actor n effect ∷ past) legal which names at_issue s four five =
    ready-next setup past legal.1 (Retire actor n effect) legal.0 which names s four five
    (issued-Retire setup past (sound setup past legal.1) actor n effect legal.0 s)
    (ready setup past legal.1 which names at_issue s)
ready setup (Refetch actor n ∷ past) legal which names at_issue s four five =
    ready-next setup past legal.1 (Refetch actor n) legal.0 which names s four five (issued-Refetch past actor n s)
    (ready setup past legal.1 which names at_issue s)

-- The law, of either source.
first_at_issue : (setup : Setup) → ReadyAtIssue setup first_source
first_at_issue setup past actor n ok = let both = (issue_allowed setup past actor n ok).ready in grind arith

second_at_issue : (setup : Setup) → ReadyAtIssue setup second_source
second_at_issue setup past actor n ok = let both = (issue_allowed setup past actor n ok).ready in grind arith

pub first_ready : (setup : Setup) (past : List Event) → is_legal setup past → (s : ℕ) → 4 ≤ stage (fate past s)
    → stage (fate past s) ≤ 5
    → IsReady setup first_source past s
first_ready setup past legal s four five =
    ready setup past legal first_source first_source-below (first_at_issue setup) s four five

pub second_ready : (setup : Setup) (past : List Event) → is_legal setup past → (s : ℕ) → 4 ≤ stage (fate past s)
    → stage (fate past s) ≤ 5
    → IsReady setup second_source past s
second_ready setup past legal s four five =
    ready setup past legal second_source second_source-below (second_at_issue setup) s four five
