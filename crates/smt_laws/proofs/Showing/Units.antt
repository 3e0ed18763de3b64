-- What was issued has a unit of its kind among the actors; so has each record that a legal history retires.
use Rattle.std.specs.Prelude.{◌≡◌, ℕ, ◌≤◌, true, false, ◌==◌, List, [], ◌∷◌, ◌++◌, Option, Some, None}
use Rattle.std.specs.List.{AllByRecursion}
use Rattle.std.proofs.Common.{sym, subst, inl, inr, arith}
use Rattle.std.proofs.{lemmas.Bool.cases_eq, lemmas.Bool.Decides.nat_tests}
use Rattle.rv_instr.specs.{Registers.op_unit, Registers.same_unit, declared.op.Op.Op}
use Rattle.events.specs.{declared.effect.Effect.Effect, declared.effect.Record.Record, declared.event.Event.Event}
use Rattle.events.specs.declared.event.Event.TheVariants.{Fetch, Decode, Rename, Issue, Complete, Drop, Retire, Refetch}
use Rattle.smt_model.specs.{Basics.holds_of, Setup.Setup, Jobs.unit_of_actor, Account.records, Account.record_of}
use Rattle.smt_model.specs.{Rules.refused, Rules.is_legal, Fates.Fetched, Fates.fetching, Fates.op_at}
use Rattle.smt_model.specs.Fates.{op_of_fetched, stage, fate}
use Rattle.smt_model.proofs.{Allowed.issue_allowed, Fates.Sound.sound, Fates.Sound.moved, Fates.Numbers.known_below}
use Rattle.smt_model.proofs.Fates.Numbers.{op_at-kept}
use Rattle.smt_model.proofs.Fates.Moves.{moves, retire_was}
use Rattle.smt_model.proofs.Fates.Sound.{issued-Fetch, issued-Decode, issued-Rename, issued-Complete, issued-Drop}
use Rattle.smt_model.proofs.Fates.Sound.{issued-Retire, issued-Refetch}
use Rattle.smt_laws.specs.Shown.{HasUnit, NeedsItsUnits}

-- An actor is a unit that executes this instruction.
pub record HasUnitFor (setup : Setup) (op : Op) : Type 0 where
  pub actor : ℕ
  pub suits : holds_of (λ u. same_unit u (op_unit op)) (unit_of_actor setup actor) ≡ true

-- ---- What was issued

abbrev UnitsUpTo : Setup → List Event → Type 0
UnitsUpTo setup past = (s : ℕ) → 4 ≤ stage (fate past s) → stage (fate past s) ≤ 7 → HasUnitFor setup (op_at past s)

was_before : (a b : ℕ) → moves a b ≡ true → 4 ≤ b → b ≤ 7 → (b ≡ 4 → a ≡ 4) → (4 ≤ a) × (a ≤ 7)
was_before a b move four seven same = grind (arith, nat_tests)

-- Any event but its issue.
unit-kept : (setup : Setup) (past : List Event) → is_legal setup past → (e : Event) → refused setup past e ≡ None
    → UnitsUpTo setup past → (s : ℕ) → (stage (fate (e ∷ past) s) ≡ 4 → stage (fate past s) ≡ 4)
    → 4 ≤ stage (fate (e ∷ past) s) → stage (fate (e ∷ past) s) ≤ 7 → HasUnitFor setup (op_at (e ∷ past) s)
unit-kept setup past legal e ok before s same four seven =
    let was = was_before (stage (fate past s)) (stage (fate (e ∷ past) s)) (moved setup past legal e ok s) four seven
    same in
    subst (HasUnitFor setup) (sym (op_at-kept setup past legal e ok s (known_below setup past legal s
    (let low = was.0 in omega arith)))) (before s was.0 was.1)

unit-Issue : (setup : Setup) (past : List Event) → (legal : is_legal setup past) → (actor n : ℕ)
    → refused setup past (Issue actor n) ≡ None → UnitsUpTo setup past → UnitsUpTo setup (Issue actor n ∷ past)
unit-Issue setup past legal actor n ok before s four seven =
    elim (cases_eq s n) [
      | inl here ↦
          let rule = issue_allowed setup past actor n ok in
          subst (λ z. HasUnitFor setup (op_at past z)) (sym here) (record { actor = actor; suits = rule.suited })
      | inr other ↦
          unit-kept setup past legal (Issue actor n) ok before s
          (λ now. let apart : (n == s) ≡ false = grind (arith, nat_tests) in rw apart at now) four seven
    ]

pub has_units : (setup : Setup) (past : List Event) → is_legal setup past → UnitsUpTo setup past
has_units setup [] legal s four seven = absurd (omega arith)
has_units setup (Fetch actor hart n pc word predicted ∷ past) legal s four seven =
    unit-kept setup past legal.1 (Fetch actor hart n pc word predicted) legal.0 (has_units setup past legal.1) s
    (issued-Fetch setup past (sound setup past legal.1) actor hart n pc word predicted legal.0 s) four seven
has_units setup (Decode actor n ∷ past) legal s four seven =
    unit-kept setup past legal.1 (Decode actor n) legal.0 (has_units setup past legal.1) s
    (issued-Decode setup past (sound setup past legal.1) actor n legal.0 s) four seven
has_units setup (Rename actor n register ∷ past) legal s four seven =
    unit-kept setup past legal.1 (Rename actor n register) legal.0 (has_units setup past legal.1) s
    (issued-Rename setup past (sound setup past legal.1) actor n register legal.0 s) four seven
has_units setup (Issue actor n ∷ past) legal s four seven =
    unit-Issue setup past legal.1 actor n legal.0 (has_units setup past legal.1) s four seven
has_units setup (Complete actor n o ∷ past) legal s four seven =
    unit-kept setup past legal.1 (Complete actor n o) legal.0 (has_units setup past legal.1) s
    (λ now. (issued-Complete setup past (sound setup past legal.1) actor n o legal.0 s now).1) four seven
has_units setup (Drop actor n ∷ past) legal s four seven =
    unit-kept setup past legal.1 (Drop actor n) legal.0 (has_units setup past legal.1) s
    (λ now. (issued-Drop setup past (sound setup past legal.1) actor n legal.0 s now).1) four seven
has_units setup (Retire actor n x ∷ past) legal s four seven =
    unit-kept setup past legal.1 (Retire actor n x) legal.0 (has_units setup past legal.1) s
    (issued-Retire setup past (sound setup past legal.1) actor n x legal.0 s) four seven
has_units setup (Refetch actor n ∷ past) legal s four seven =
    unit-kept setup past legal.1 (Refetch actor n) legal.0 (has_units setup past legal.1) s
    (issued-Refetch past actor n s) four seven

-- ---- Its record

recorded : (setup : Setup) (o : Option Fetched) (x : Effect) (older : List Record) → HasUnitFor setup (op_of_fetched o)
    → AllByRecursion (HasUnit setup) older → AllByRecursion (HasUnit setup) (record_of o x ++ older)
recorded setup None x older unit all = all
recorded setup (Some f) x older unit all = (record { actor = unit.actor; suits = unit.suits }, all)

pub needs_its_units : NeedsItsUnits
needs_its_units setup [] legal = tt
needs_its_units setup (Fetch actor hart n pc word predicted ∷ past) legal = needs_its_units setup past legal.1
needs_its_units setup (Decode actor n ∷ past) legal = needs_its_units setup past legal.1
needs_its_units setup (Rename actor n register ∷ past) legal = needs_its_units setup past legal.1
needs_its_units setup (Issue actor n ∷ past) legal = needs_its_units setup past legal.1
needs_its_units setup (Complete actor n o ∷ past) legal = needs_its_units setup past legal.1
needs_its_units setup (Drop actor n ∷ past) legal = needs_its_units setup past legal.1
needs_its_units setup (Refetch actor n ∷ past) legal = needs_its_units setup past legal.1
needs_its_units setup (Retire actor n x ∷ past) legal =
    let at = retire_was setup past actor n x legal.0 in
    recorded setup (fetching past n) x (records past)
    (has_units setup past legal.1 n (omega arith) (omega arith)) (needs_its_units setup past legal.1)
