-- What a history says of an instruction stays, once said; and the list of those that were given a register.
use Rattle.std.specs.Prelude.{◌≡◌, ◌≢◌, ◌⊎◌, ℕ, ◌<◌, ◌≤◌, Bool, true, false, not, ◌==◌, ◌&&◌, ◌||◌, if◌then◌else◌, List}
use Rattle.std.specs.Prelude.{[], ◌∷◌, Option, Some, None, is_some}
use Rattle.std.proofs.Common.{◌∙◌, refl, ap, inl, inr, arith}
use Rattle.std.proofs.{lemmas.Bool.cases_Bool, lemmas.Bool.cases_lt, lemmas.Bool.Decides.nat_tests}
use Rattle.rv_instr.specs.declared.op.Op.{Op}
use Rattle.events.specs.declared.event.Event.{Event}
use Rattle.events.specs.declared.event.Event.TheVariants.{Fetch, Decode, Rename, Issue, Complete, Drop, Retire, Refetch}
use Rattle.smt_model.specs.{Basics.first, Basics.or_else, Basics.same_truth, Setup.Setup, Setup.registers_of}
use Rattle.smt_model.specs.{Kinds.writes_register, Rules.refused, Rules.is_legal}
use Rattle.smt_model.specs.Fates.{stage, fate, is_of, op_at, completion, completed_by}
use Rattle.smt_model.specs.Registers.{naming, named_by, option_inner, phys, namings, given_register, newest}
use Rattle.smt_model.specs.Registers.{result_said, resulting, operand, is_unclaimed}
use Rattle.smt_model.proofs.Lists.{member, member-append, Each-all, Each-at, FallsOf, filter-same}
use Rattle.smt_model.proofs.{Allowed.rename_allowed, Fates.Sound.sound, Fates.Sound.moved, Fates.Numbers.is_of-kept}
use Rattle.smt_model.proofs.Fates.Numbers.{known_below, op_at-kept}
use Rattle.smt_laws.proofs.Fates.Order.{in_order}
use Rattle.smt_model.proofs.Fates.Moves.{moves, fetch_was, decode_was, rename_was, issue_was, complete_was, retire_was}
use Rattle.smt_model.proofs.Fates.Moves.{stage-retired_as}

-- ---- Nothing is said before its step

-- A stage never falls.
pub rises_on : (a b : ℕ) → moves a b ≡ true → a ≤ b
rises_on a b move = grind (arith, nat_tests)

pub stage-rises : (setup : Setup) (past : List Event) → is_legal setup past → (e : Event)
    → refused setup past e ≡ None → (s : ℕ)
    → stage (fate past s) ≤ stage (fate (e ∷ past) s)
stage-rises setup past legal e ok s =
    rises_on (stage (fate past s)) (stage (fate (e ∷ past) s)) (moved setup past legal e ok s)

-- An event names a register for its own instruction alone, which is then renamed.
named-stage : (setup : Setup) (past : List Event) → (e : Event) → refused setup past e ≡ None → (s : ℕ)
    → is_some (named_by e s) ≡ true → (stage (fate past s) ≡ 2) × (stage (fate (e ∷ past) s) ≡ 3)
named-stage setup past (Fetch actor hart n pc word predicted) ok s some = grind arith
named-stage setup past (Decode actor n) ok s some = grind arith
named-stage setup past (Rename actor n phys) ok s some =
    let was = rename_was setup past actor n phys ok in grind (arith, nat_tests)
named-stage setup past (Issue actor n) ok s some = grind arith
named-stage setup past (Complete actor n outcome) ok s some = grind arith
named-stage setup past (Drop actor n) ok s some = grind arith
named-stage setup past (Retire actor n effect) ok s some = grind arith
named-stage setup past (Refetch actor n) ok s some = grind arith

completed-stage : (setup : Setup) (past : List Event) → is_legal setup past → (e : Event)
    → refused setup past e ≡ None → (s : ℕ)
    → is_some (completed_by e s) ≡ true → (stage (fate past s) ≡ 4) × (stage (fate (e ∷ past) s) ≡ 5)
completed-stage setup past legal (Fetch actor hart n pc word predicted) ok s some = grind arith
completed-stage setup past legal (Decode actor n) ok s some = grind arith
completed-stage setup past legal (Rename actor n phys) ok s some = grind arith
completed-stage setup past legal (Issue actor n) ok s some = grind arith
completed-stage setup past legal (Complete actor n outcome) ok s some =
    let was = complete_was setup past (sound setup past legal) actor n outcome ok in grind (arith, nat_tests)
completed-stage setup past legal (Drop actor n) ok s some = grind arith
completed-stage setup past legal (Retire actor n effect) ok s some = grind arith
completed-stage setup past legal (Refetch actor n) ok s some = grind arith

resulting-stage : (setup : Setup) (past : List Event) → is_legal setup past → (e : Event)
    → refused setup past e ≡ None → (s : ℕ)
    → is_some (resulting e s) ≡ true → (4 ≤ stage (fate past s)) × (5 ≤ stage (fate (e ∷ past) s))
resulting-stage setup past legal (Fetch actor hart n pc word predicted) ok s some = grind arith
resulting-stage setup past legal (Decode actor n) ok s some = grind arith
resulting-stage setup past legal (Rename actor n phys) ok s some = grind arith
resulting-stage setup past legal (Issue actor n) ok s some = grind arith
resulting-stage setup past legal (Complete actor n outcome) ok s some =
    let was = complete_was setup past (sound setup past legal) actor n outcome ok in grind (arith, nat_tests)
resulting-stage setup past legal (Drop actor n) ok s some = grind arith
resulting-stage setup past legal (Retire actor n effect) ok s some =
    let was = retire_was setup past actor n effect ok in
    let as_told = stage-retired_as effect in
    grind (arith, nat_tests)
resulting-stage setup past legal (Refetch actor n) ok s some = grind arith

none_or_some : {A : Type 0} → (o : Option A) → (o ≡ None) ⊎ (is_some o ≡ true)
none_or_some None = inl refl
none_or_some (Some x) = inr refl

pub naming-none : (setup : Setup) (past : List Event) → is_legal setup past → (s : ℕ) → stage (fate past s) ≤ 2
    → naming past s ≡ None
naming-none setup [] legal s early = refl
naming-none setup (e ∷ past) legal s early =
    let before = stage-rises setup past legal.1 e legal.0 s in
    let rest : naming past s ≡ None = naming-none setup past legal.1 s (omega arith) in
    elim (none_or_some (named_by e s)) [
      | inl none ↦ rw (none, rest)
      | inr some ↦ let at = named-stage setup past e legal.0 s some in absurd (omega (arith, at.1))
    ]

pub completion-none : (setup : Setup) (past : List Event) → is_legal setup past → (s : ℕ) → stage (fate past s) ≤ 4
    → completion past s ≡ None
completion-none setup [] legal s early = refl
completion-none setup (e ∷ past) legal s early =
    let before = stage-rises setup past legal.1 e legal.0 s in
    let rest : completion past s ≡ None = completion-none setup past legal.1 s (omega arith) in
    elim (none_or_some (completed_by e s)) [
      | inl none ↦ rw (none, rest)
      | inr some ↦ let at = completed-stage setup past legal.1 e legal.0 s some in absurd (omega (arith, at.1))
    ]

pub result-none : (setup : Setup) (past : List Event) → is_legal setup past → (s : ℕ) → stage (fate past s) ≤ 4
    → result_said past s ≡ None
result-none setup [] legal s early = refl
result-none setup (e ∷ past) legal s early =
    let before = stage-rises setup past legal.1 e legal.0 s in
    let rest : result_said past s ≡ None = result-none setup past legal.1 s (omega arith) in
    elim (none_or_some (resulting e s)) [
      | inl none ↦ rw (none, rest)
      | inr some ↦ let at = resulting-stage setup past legal.1 e legal.0 s some in absurd (omega (arith, at.1))
    ]

-- ---- What was said stays

pub naming-kept : (setup : Setup) (past : List Event) (e : Event) → refused setup past e ≡ None → (s : ℕ)
    → stage (fate past s) ≢ 2
    → naming (e ∷ past) s ≡ naming past s
naming-kept setup past e ok s late =
    elim (none_or_some (named_by e s)) [
      | inl none ↦ rw none refl
      | inr some ↦ let at = named-stage setup past e ok s some in absurd (late at.0)
    ]

pub phys-kept : (setup : Setup) (past : List Event) (e : Event) → refused setup past e ≡ None → (s : ℕ)
    → stage (fate past s) ≢ 2
    → phys (e ∷ past) s ≡ phys past s
phys-kept setup past e ok s late = ap option_inner (naming-kept setup past e ok s late)

pub completion-kept : (setup : Setup) (past : List Event) → is_legal setup past → (e : Event)
    → refused setup past e ≡ None → (s : ℕ)
    → stage (fate past s) ≢ 4 → completion (e ∷ past) s ≡ completion past s
completion-kept setup past legal e ok s late =
    elim (none_or_some (completed_by e s)) [
      | inl none ↦ rw none refl
      | inr some ↦ let at = completed-stage setup past legal e ok s some in absurd (late at.0)
    ]

pub operand-kept : (setup : Setup) (past : List Event) (e : Event) → refused setup past e ≡ None
    → (which : Op → ℕ) (s : ℕ)
    → stage (fate past s) ≢ 3 → operand setup which (e ∷ past) s ≡ operand setup which past s
operand-kept setup past (Fetch actor hart n pc word predicted) ok which s late = refl
operand-kept setup past (Decode actor n) ok which s late = refl
operand-kept setup past (Rename actor n phys) ok which s late = refl
operand-kept setup past (Issue actor n) ok which s late =
    let was = issue_was setup past actor n ok in
    let other : (n == s) ≡ false = grind (arith, nat_tests) in
    rw other refl
operand-kept setup past (Complete actor n outcome) ok which s late = refl
operand-kept setup past (Drop actor n) ok which s late = refl
operand-kept setup past (Retire actor n effect) ok which s late = refl
operand-kept setup past (Refetch actor n) ok which s late = refl

-- ---- Those that were given a register

-- An event gives a register to the instruction of a rename that names one.
given-stage : (setup : Setup) (past : List Event) (e : Event) → refused setup past e ≡ None → (s : ℕ)
    → member s (given_register e) ≡ true → (stage (fate past s) ≡ 2) × (stage (fate (e ∷ past) s) ≡ 3)
given-stage setup past (Fetch actor hart n pc word predicted) ok s some = grind arith
given-stage setup past (Decode actor n) ok s some = grind arith
given-stage setup past (Rename actor n None) ok s some = grind arith
given-stage setup past (Rename actor n (Some p)) ok s some =
    let was = rename_was setup past actor n (Some p) ok in grind (arith, nat_tests)
given-stage setup past (Issue actor n) ok s some = grind arith
given-stage setup past (Complete actor n outcome) ok s some = grind arith
given-stage setup past (Drop actor n) ok s some = grind arith
given-stage setup past (Retire actor n effect) ok s some = grind arith
given-stage setup past (Refetch actor n) ok s some = grind arith

-- All of them were renamed.
pub named-renamed : (setup : Setup) (past : List Event) → is_legal setup past → (s : ℕ) → member s (namings past) ≡ true
    → 3 ≤ stage (fate past s)
named-renamed setup [] legal s m = absurd (grind arith)
named-renamed setup (e ∷ past) legal s m =
    let up = stage-rises setup past legal.1 e legal.0 s in
    let parts = member-append s (given_register e) (namings past) in
    elim (cases_Bool (member s (given_register e))) [
      | inl now ↦ let at = given-stage setup past e legal.0 s now in omega (arith, at.1)
      | inr not_now ↦
          let before : member s (namings past) ≡ true = grind arith in
          let was = named-renamed setup past legal.1 s before in
          omega arith
    ]

-- They are just those with a register.
given_is : (e : Event) (s : ℕ) → member s (given_register e) ≡ is_some (option_inner (named_by e s))
given_is (Fetch actor hart n pc word predicted) s = refl
given_is (Decode actor n) s = refl
given_is (Rename actor n None) s = grind (arith, nat_tests)
given_is (Rename actor n (Some p)) s = grind (arith, nat_tests)
given_is (Issue actor n) s = refl
given_is (Complete actor n outcome) s = refl
given_is (Drop actor n) s = refl
given_is (Retire actor n effect) s = refl
given_is (Refetch actor n) s = refl

only_now : (now before : Option (Option ℕ)) → is_some now ≡ true → option_inner (or_else now before) ≡ option_inner now
only_now None before some = absurd (grind arith)
only_now (Some x) before some = refl

or_false : (b : Bool) → (b || false) ≡ b
or_false true = refl
or_false false = refl

pub named_is : (setup : Setup) (past : List Event) → is_legal setup past → (s : ℕ)
    → member s (namings past) ≡ is_some (phys past s)
named_is setup [] legal s = refl
named_is setup (e ∷ past) legal s =
    let parts = member-append s (given_register e) (namings past) in
    let rest = named_is setup past legal.1 s in
    let now = given_is e s in
    elim (none_or_some (named_by e s)) [
      | inl none ↦
          let same : phys (e ∷ past) s ≡ phys past s = rw none refl in
          let not_now : member s (given_register e) ≡ false = now ∙ rw none refl in
          rw (parts, not_now, same) rest
      | inr some ↦
          let at = named-stage setup past e legal.0 s some in
          let none : naming past s ≡ None = naming-none setup past legal.1 s (omega (arith, at.0)) in
          let not_before : member s (namings past) ≡ false = rest ∙ rw none refl in
          let mine : phys (e ∷ past) s ≡ option_inner (named_by e s) = only_now (named_by e s) (naming past s) some in
          rw (parts, not_before, mine, now) (or_false (is_some (option_inner (named_by e s))))
    ]

-- ---- A register is named just where one is written, and is one of the core's that nobody claims

pub same_truth-is : (a b : Bool) → same_truth a b ≡ true → a ≡ b
same_truth-is true b same = grind arith
same_truth-is false true same = grind arith
same_truth-is false false same = refl

named-matched : (setup : Setup) (past : List Event) (e : Event) → refused setup past e ≡ None → (s : ℕ)
    → is_some (named_by e s) ≡ true
    → is_some (option_inner (named_by e s)) ≡ writes_register (op_at past s)
named-matched setup past (Fetch actor hart n pc word predicted) ok s some = grind arith
named-matched setup past (Decode actor n) ok s some = grind arith
named-matched setup past (Rename actor n register) ok s some =
    let here : (n == s) ≡ true = grind (arith, nat_tests) in
    let same : n ≡ s = grind (arith, nat_tests) in
    let named = same_truth-is (is_some register) (writes_register (op_at past n))
    (rename_allowed setup past actor n register ok).named in
    rw (here, ← same) named
named-matched setup past (Issue actor n) ok s some = grind arith
named-matched setup past (Complete actor n outcome) ok s some = grind arith
named-matched setup past (Drop actor n) ok s some = grind arith
named-matched setup past (Retire actor n effect) ok s some = grind arith
named-matched setup past (Refetch actor n) ok s some = grind arith

-- What passes from rename on is named.
passes-named : (setup : Setup) (past : List Event) → is_legal setup past → (e : Event)
    → refused setup past e ≡ None → (s : ℕ)
    → 3 ≤ stage (fate (e ∷ past) s) → stage (fate (e ∷ past) s) ≤ 7 → is_some (named_by e s) ≡ false
    → 3 ≤ stage (fate past s)
passes-named setup past legal (Fetch actor hart n pc word predicted) ok s three seven none =
    let was =
    fetch_was setup past (sound setup past legal) actor hart n pc word predicted ok in grind (arith, nat_tests)
passes-named setup past legal (Decode actor n) ok s three seven none =
    let was = decode_was setup past actor n ok in grind (arith, nat_tests)
passes-named setup past legal (Rename actor n register) ok s three seven none = grind (arith, nat_tests)
passes-named setup past legal (Issue actor n) ok s three seven none =
    let was = issue_was setup past actor n ok in grind (arith, nat_tests)
passes-named setup past legal (Complete actor n outcome) ok s three seven none =
    let was = complete_was setup past (sound setup past legal) actor n outcome ok in grind (arith, nat_tests)
passes-named setup past legal (Drop actor n) ok s three seven none = grind (arith, nat_tests)
passes-named setup past legal (Retire actor n effect) ok s three seven none =
    let was = retire_was setup past actor n effect ok in
    let as_told = stage-retired_as effect in
    grind (arith, nat_tests)
passes-named setup past legal (Refetch actor n) ok s three seven none = grind (arith, nat_tests)

some_false : {A : Type 0} → (o : Option A) → o ≡ None → is_some o ≡ false
some_false o none = rw none refl

pub matched : (setup : Setup) (past : List Event) → is_legal setup past → (s : ℕ) → 3 ≤ stage (fate past s)
    → stage (fate past s) ≤ 7
    → is_some (phys past s) ≡ writes_register (op_at past s)
matched setup [] legal s three seven = absurd (omega arith)
matched setup (e ∷ past) legal s three seven =
    elim (none_or_some (named_by e s)) [
      | inl none ↦
          let up = stage-rises setup past legal.1 e legal.0 s in
          let before = passes-named setup past legal.1 e legal.0 s three seven (some_false (named_by e s) none) in
          let rest = matched setup past legal.1 s before (omega arith) in
          let under = known_below setup past legal.1 s (omega arith) in
          let same_phys : phys (e ∷ past) s ≡ phys past s = rw none refl in
          let same_op = op_at-kept setup past legal.1 e legal.0 s under in
          rw (same_phys, same_op) rest
      | inr some ↦
          let at = named-stage setup past e legal.0 s some in
          let under = known_below setup past legal.1 s (omega (arith, at.0)) in
          let mine : phys (e ∷ past) s ≡ option_inner (named_by e s) = only_now (named_by e s) (naming past s) some in
          let same_op = op_at-kept setup past legal.1 e legal.0 s under in
          rw (mine, same_op) (named-matched setup past e legal.0 s some)
    ]

-- The register that a rename names.
pub record IsTaken (setup : Setup) (past : List Event) (p : ℕ) : Type 0 where
  pub in_range : p < registers_of setup
  pub unclaimed : is_unclaimed setup past p ≡ true

pub taken : (setup : Setup) (past : List Event) (actor n p : ℕ) → refused setup past (Rename actor n (Some p)) ≡ None
    → IsTaken setup past p
taken setup past actor n p ok =
    let rule = (rename_allowed setup past actor n (Some p) ok).unclaimed in
    record { in_range = grind (arith, nat_tests); unclaimed = grind (arith, nat_tests) }

some-is : (q p : ℕ) → Some q ≡ Some p → q ≡ p
some-is q p same = grind arith

named_before : (n s : ℕ) (before : Option (Option ℕ)) (p : ℕ)
    → option_inner (or_else (if n == s then Some None else None) before) ≡ Some p
    → option_inner before ≡ Some p
named_before n s before p named = grind (arith, nat_tests)

pub in_range : (setup : Setup) (past : List Event) → is_legal setup past → (s p : ℕ) → phys past s ≡ Some p
    → p < registers_of setup
in_range setup [] legal s p named = absurd (grind arith)
in_range setup (Fetch actor hart n pc word predicted ∷ past) legal s p named = in_range setup past legal.1 s p named
in_range setup (Decode actor n ∷ past) legal s p named = in_range setup past legal.1 s p named
in_range setup (Rename actor n None ∷ past) legal s p named =
    in_range setup past legal.1 s p (named_before n s (naming past s) p named)
in_range setup (Rename actor n (Some q) ∷ past) legal s p named =
    elim (cases_Bool (n == s)) [
      | inl here ↦
          let same : q ≡ p = some-is q p (rw here at named) in
          let first_one = (taken setup past actor n q legal.0).in_range in
          rw (← same) first_one
      | inr other ↦ in_range setup past legal.1 s p (rw other at named)
    ]
in_range setup (Issue actor n ∷ past) legal s p named = in_range setup past legal.1 s p named
in_range setup (Complete actor n outcome ∷ past) legal s p named = in_range setup past legal.1 s p named
in_range setup (Drop actor n ∷ past) legal s p named = in_range setup past legal.1 s p named
in_range setup (Retire actor n effect ∷ past) legal s p named = in_range setup past legal.1 s p named
in_range setup (Refetch actor n ∷ past) legal s p named = in_range setup past legal.1 s p named

-- ---- Of one hart's that aren't squashed, the newest is the youngest

-- The instruction is of hart h and isn't squashed.
abbrev pub is_spared : List Event → ℕ → ℕ → Bool
is_spared past h s = is_of past h s && not (stage (fate past s) == 8)

FallsOf-narrow : (p q : ℕ → Bool) (xs : List ℕ) → ((y : ℕ) → member y xs ≡ true → q y ≡ true → p y ≡ true)
    → FallsOf p xs → FallsOf q xs
FallsOf-narrow p q [] narrower falls = tt
FallsOf-narrow p q (x ∷ xs) narrower falls = (
  λ passes.
      let below = falls.0 (narrower x (grind (arith, nat_tests)) passes) in
      Each-all (λ y. q y ≡ true → y < x) xs (λ y m also.
      Each-at (λ z. p z ≡ true → z < x) xs below y m (narrower y (grind (arith, nat_tests)) also)),
  FallsOf-narrow p q xs (λ y m. narrower y (grind (arith, nat_tests))) falls.1,
)

-- Spared after an event: spared before.
spared-before : (setup : Setup) (past : List Event) → is_legal setup past → (e : Event)
    → refused setup past e ≡ None → (h s : ℕ)
    → member s (namings past) ≡ true → is_spared (e ∷ past) h s ≡ true → is_spared past h s ≡ true
spared-before setup past legal e ok h s m now =
    let late = named-renamed setup past legal s m in
    let under = known_below setup past legal s (omega arith) in
    let same = is_of-kept setup past legal e ok h s under in
    let up = stage-rises setup past legal e ok s in
    let move = moved setup past legal e ok s in
    grind (arith, nat_tests)

-- The newest naming is of the youngest.
newest-youngest : (setup : Setup) (past : List Event) → is_legal setup past → (actor n : ℕ) (register : Option ℕ)
    → refused setup past (Rename actor n register) ≡ None → (h s : ℕ) → is_of past h n ≡ true
    → member s (namings past) ≡ true
    → is_spared past h s ≡ true → s < n
newest-youngest setup past legal actor n register ok h s of_n m spared =
    let was = rename_was setup past actor n register ok in
    let late = named-renamed setup past legal s m in
    let of_s : is_of past h s ≡ true = grind arith in
    let lives : stage (fate past s) ≢ 8 = grind (arith, nat_tests) in
    elim (cases_lt s n) [
      | inl under ↦ under
      | inr above ↦
          let other : s ≢ n = λ same. absurd (grind arith) in
          let order = in_order setup past legal h n s of_n of_s (omega arith) lives in
          absurd (grind (arith, nat_tests))
    ]

fall-next : (setup : Setup) (past : List Event) → is_legal setup past → (e : Event)
    → refused setup past e ≡ None → (h : ℕ)
    → FallsOf (is_spared past h) (namings past) → FallsOf (is_spared (e ∷ past) h) (namings past)
fall-next setup past legal e ok h falls =
    FallsOf-narrow (is_spared past h) (is_spared (e ∷ past) h) (namings past)
    (spared-before setup past legal e ok h) falls

pub namings-fall : (setup : Setup) (past : List Event) → is_legal setup past → (h : ℕ)
    → FallsOf (is_spared past h) (namings past)
namings-fall setup [] legal h = tt
namings-fall setup (Fetch actor hart n pc word predicted ∷ past) legal h =
    fall-next setup past legal.1 (Fetch actor hart n pc word predicted) legal.0 h (namings-fall setup past legal.1 h)
namings-fall setup (Decode actor n ∷ past) legal h =
    fall-next setup past legal.1 (Decode actor n) legal.0 h (namings-fall setup past legal.1 h)
namings-fall setup (Rename actor n None ∷ past) legal h =
    fall-next setup past legal.1 (Rename actor n None) legal.0 h (namings-fall setup past legal.1 h)
namings-fall setup (Rename actor n (Some p) ∷ past) legal h = (
  λ mine.
      let of_n : is_of past h n ≡ true = grind arith in
      Each-all (λ y. is_spared (Rename actor n (Some p) ∷ past) h y ≡ true → y < n) (namings past) (λ y m spared.
      newest-youngest setup past legal.1 actor n (Some p) legal.0 h y of_n m
      (spared-before setup past legal.1 (Rename actor n (Some p)) legal.0 h y m spared)),
  fall-next setup past legal.1 (Rename actor n (Some p)) legal.0 h (namings-fall setup past legal.1 h),
)
namings-fall setup (Issue actor n ∷ past) legal h =
    fall-next setup past legal.1 (Issue actor n) legal.0 h (namings-fall setup past legal.1 h)
namings-fall setup (Complete actor n outcome ∷ past) legal h =
    fall-next setup past legal.1 (Complete actor n outcome) legal.0 h (namings-fall setup past legal.1 h)
namings-fall setup (Drop actor n ∷ past) legal h =
    fall-next setup past legal.1 (Drop actor n) legal.0 h (namings-fall setup past legal.1 h)
namings-fall setup (Retire actor n effect ∷ past) legal h =
    fall-next setup past legal.1 (Retire actor n effect) legal.0 h (namings-fall setup past legal.1 h)
namings-fall setup (Refetch actor n ∷ past) legal h =
    fall-next setup past legal.1 (Refetch actor n) legal.0 h (namings-fall setup past legal.1 h)

-- ---- The newest that passes a test

pub newest-same : (p q : ℕ → Bool) (past : List Event) → ((x : ℕ) → member x (namings past) ≡ true → p x ≡ q x)
    → newest p past ≡ newest q past
newest-same p q past same = ap first (filter-same p q (namings past) same)
