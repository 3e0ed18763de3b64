-- What a retirement commits, and that nothing else commits: the committed map changes at a retirement alone.
use Rattle.std.specs.Prelude.{◌≡◌, ◌≢◌, ℕ, ◌≤◌, Bool, true, false, not, ◌&&◌, List, ◌∷◌, Option, Some, None}
use Rattle.std.specs.List.{filter}
use Rattle.std.proofs.Common.{◌∙◌, refl, sym, ap, inl, inr, arith}
use Rattle.std.proofs.{lemmas.Bool.cases_eq, lemmas.Bool.Decides.nat_tests}
use Rattle.events.specs.{declared.effect.Outcome.Outcome, declared.effect.Effect.Effect, declared.event.Event.Event}
use Rattle.events.specs.declared.event.Event.TheVariants.{Fetch, Decode, Rename, Issue, Complete, Retire, Refetch}
use Rattle.smt_model.specs.{Basics.first, Basics.or_zero, Setup.Setup, Nexts.is_last, Rules.refused, Rules.is_legal}
use Rattle.smt_model.specs.Fates.{Retired, stage, fate, is}
use Rattle.smt_model.specs.Registers.{namings, writes, committer, committed, register_by, first_register}
use Rattle.smt_model.proofs.{Lists.member, Lists.skips, Lists.first-greatest, Fates.Sound.sound}
use Rattle.smt_model.proofs.Fates.Moves.{fetch_was, decode_was, rename_was, issue_was, complete_was, retire_was}
use Rattle.smt_laws.proofs.Registers.Namings.{newest-same, named-renamed, phys-kept, namings-fall, is_spared}
use Rattle.smt_laws.proofs.Registers.Sources.{writes-of, writes-kept, committer-is, retired_older}

-- ---- Events that retire nothing

-- Who has retired.
abbrev pub RetiresSame : List Event → Event → Type 0
RetiresSame past e = (x : ℕ) → 3 ≤ stage (fate past x) → is (fate (e ∷ past) x) Retired ≡ is (fate past x) Retired

retires-Fetch : (setup : Setup) (past : List Event) → is_legal setup past
    → (actor hart n pc : ℕ) (word : Option ℕ) (predicted : ℕ)
    → refused setup past (Fetch actor hart n pc word predicted) ≡ None
    → RetiresSame past (Fetch actor hart n pc word predicted)
retires-Fetch setup past legal actor hart n pc word predicted ok x late =
    let was =
    fetch_was setup past (sound setup past legal) actor hart n pc word predicted ok in grind (arith, nat_tests)

retires-Decode : (setup : Setup) (past : List Event) (actor n : ℕ) → refused setup past (Decode actor n) ≡ None
    → RetiresSame past (Decode actor n)
retires-Decode setup past actor n ok x late = let was = decode_was setup past actor n ok in grind (arith, nat_tests)

retires-Rename : (setup : Setup) (past : List Event) (actor n : ℕ) (register : Option ℕ)
    → refused setup past (Rename actor n register) ≡ None
    → RetiresSame past (Rename actor n register)
retires-Rename setup past actor n register ok x late =
    let was = rename_was setup past actor n register ok in grind (arith, nat_tests)

retires-Issue : (setup : Setup) (past : List Event) (actor n : ℕ) → refused setup past (Issue actor n) ≡ None
    → RetiresSame past (Issue actor n)
retires-Issue setup past actor n ok x late = let was = issue_was setup past actor n ok in grind (arith, nat_tests)

retires-Complete : (setup : Setup) (past : List Event) → is_legal setup past → (actor n : ℕ) (outcome : Outcome)
    → refused setup past (Complete actor n outcome) ≡ None → RetiresSame past (Complete actor n outcome)
retires-Complete setup past legal actor n outcome ok x late =
    let was = complete_was setup past (sound setup past legal) actor n outcome ok in grind (arith, nat_tests)

-- Of those but its own instruction, also a retirement.
retires-Retire : (setup : Setup) (past : List Event) (actor n : ℕ) (effect : Effect)
    → refused setup past (Retire actor n effect) ≡ None
    → (x : ℕ) → x ≢ n → is (fate (Retire actor n effect ∷ past) x) Retired ≡ is (fate past x) Retired
retires-Retire setup past actor n effect ok x other = grind (arith, nat_tests)

retires-Refetch : (past : List Event) (actor n : ℕ) → RetiresSame past (Refetch actor n)
retires-Refetch past actor n x late = grind (arith, nat_tests)

-- ---- The committed one stays

and_false : (b : Bool) → (b && false) ≡ false
and_false true = refl
and_false false = refl

and_same : (b c d : Bool) → (b ≡ true → c ≡ d) → (b && c) ≡ (b && d)
and_same true c d same = same refl
and_same false c d same = refl

committer-test : (setup : Setup) (past : List Event) → is_legal setup past → (e : Event) → refused setup past e ≡ None
    → RetiresSame past e
    → (h r x : ℕ) → member x (namings past) ≡ true
    → (writes (e ∷ past) h r x && is (fate (e ∷ past) x) Retired) ≡ (writes past h r x && is (fate past x) Retired)
committer-test setup past legal e ok same h r x m =
    let late = named-renamed setup past legal x m in
    let kept = writes-kept setup past legal e ok h r x (omega arith) in
    rw kept
    (and_same (writes past h r x) (is (fate (e ∷ past) x) Retired) (is (fate past x) Retired) (λ mine. same x late))

-- At an event that gives no register.
committer-plain : (setup : Setup) (past : List Event) → is_legal setup past → (e : Event) → refused setup past e ≡ None
    → RetiresSame past e
    → namings (e ∷ past) ≡ namings past → (h r : ℕ) → committer (e ∷ past) h r ≡ committer past h r
committer-plain setup past legal e ok same list h r =
    ap (λ xs. first (filter (λ x. writes (e ∷ past) h r x && is (fate (e ∷ past) x) Retired) xs)) list
    ∙ newest-same (λ x. writes (e ∷ past) h r x && is (fate (e ∷ past) x) Retired)
    (λ x. writes past h r x && is (fate past x) Retired) past
    (committer-test setup past legal e ok same h r)

renamed_not_retired : (setup : Setup) (past : List Event) (actor n : ℕ) (register : Option ℕ)
    → refused setup past (Rename actor n register) ≡ None
    → is (fate (Rename actor n register ∷ past) n) Retired ≡ false
renamed_not_retired setup past actor n register ok =
    let was = rename_was setup past actor n register ok in grind (arith, nat_tests)

pub committer-Fetch : (setup : Setup) (past : List Event) → is_legal setup past
    → (actor hart n pc : ℕ) (word : Option ℕ) (predicted : ℕ)
    → refused setup past (Fetch actor hart n pc word predicted) ≡ None → (h r : ℕ)
    → committer (Fetch actor hart n pc word predicted ∷ past) h r ≡ committer past h r
committer-Fetch setup past legal actor hart n pc word predicted ok h r =
    committer-plain setup past legal (Fetch actor hart n pc word predicted) ok
    (retires-Fetch setup past legal actor hart n pc word predicted ok) refl h r

pub committer-Decode : (setup : Setup) (past : List Event) → is_legal setup past → (actor n : ℕ)
    → refused setup past (Decode actor n) ≡ None
    → (h r : ℕ) → committer (Decode actor n ∷ past) h r ≡ committer past h r
committer-Decode setup past legal actor n ok h r =
    committer-plain setup past legal (Decode actor n) ok (retires-Decode setup past actor n ok) refl h r

pub committer-Rename : (setup : Setup) (past : List Event) → is_legal setup past → (actor n : ℕ) (register : Option ℕ)
    → refused setup past (Rename actor n register) ≡ None → (h r : ℕ)
    → committer (Rename actor n register ∷ past) h r ≡ committer past h r
committer-Rename setup past legal actor n None ok h r =
    committer-plain setup past legal (Rename actor n None) ok (retires-Rename setup past actor n None ok) refl h r
committer-Rename setup past legal actor n (Some p) ok h r =
    let e = Rename actor n (Some p) in
    let fresh = renamed_not_retired setup past actor n (Some p) ok in
    skips (λ x. writes (e ∷ past) h r x && is (fate (e ∷ past) x) Retired) n (namings past)
    (rw fresh (and_false (writes past h r n)))
    ∙ newest-same (λ x. writes (e ∷ past) h r x && is (fate (e ∷ past) x) Retired)
    (λ x. writes past h r x && is (fate past x) Retired) past
    (committer-test setup past legal e ok (retires-Rename setup past actor n (Some p) ok) h r)

pub committer-Issue : (setup : Setup) (past : List Event) → is_legal setup past → (actor n : ℕ)
    → refused setup past (Issue actor n) ≡ None
    → (h r : ℕ) → committer (Issue actor n ∷ past) h r ≡ committer past h r
committer-Issue setup past legal actor n ok h r =
    committer-plain setup past legal (Issue actor n) ok (retires-Issue setup past actor n ok) refl h r

pub committer-Complete : (setup : Setup) (past : List Event) → is_legal setup past → (actor n : ℕ) (outcome : Outcome)
    → refused setup past (Complete actor n outcome) ≡ None → (h r : ℕ)
    → committer (Complete actor n outcome ∷ past) h r ≡ committer past h r
committer-Complete setup past legal actor n outcome ok h r =
    committer-plain setup past legal (Complete actor n outcome) ok
    (retires-Complete setup past legal actor n outcome ok) refl h r

pub committer-Refetch : (setup : Setup) (past : List Event) → is_legal setup past → (actor n : ℕ)
    → refused setup past (Refetch actor n) ≡ None
    → (h r : ℕ) → committer (Refetch actor n ∷ past) h r ≡ committer past h r
committer-Refetch setup past legal actor n ok h r =
    committer-plain setup past legal (Refetch actor n) ok (retires-Refetch past actor n) refl h r

-- ---- A retirement

only_last : (writes_it last : Bool) → writes_it ≡ true → (writes_it && not last) ≡ false → last ≡ true
only_last writes_it last mine another = grind arith

-- One that ends or stops its hart, or writes another register, commits nothing to this one.
pub committer-Retire_other : (setup : Setup) (past : List Event) → is_legal setup past → (actor n : ℕ) (effect : Effect)
    → refused setup past (Retire actor n effect) ≡ None → (h r : ℕ)
    → (writes past h r n && not (is_last effect.next)) ≡ false
    → committer (Retire actor n effect ∷ past) h r ≡ committer past h r
committer-Retire_other setup past legal actor n effect ok h r another =
    let e = Retire actor n effect in
    let was = retire_was setup past actor n effect ok in
    newest-same (λ x. writes (e ∷ past) h r x && is (fate (e ∷ past) x) Retired)
    (λ x. writes past h r x && is (fate past x) Retired) past
    (λ x m. and_same (writes past h r x) (is (fate (e ∷ past) x) Retired) (is (fate past x) Retired) (λ mine.
    elim (cases_eq x n) [
      | inl here ↦
          let last : is_last effect.next ≡ true =
          only_last (writes past h r n) (is_last effect.next) (rw (← here) mine) another in
          rw here (grind (arith, nat_tests))
      | inr other ↦ retires-Retire setup past actor n effect ok x other
    ]))

-- A retirement that goes on commits its register.
pub committer-Retire : (setup : Setup) (past : List Event) → is_legal setup past → (actor n : ℕ) (effect : Effect)
    → refused setup past (Retire actor n effect) ≡ None → (h r : ℕ) → writes past h r n ≡ true
    → is_last effect.next ≡ false
    → member n (namings past) ≡ true → committer (Retire actor n effect ∷ past) h r ≡ Some n
committer-Retire setup past legal actor n effect ok h r mine going m =
    let e = Retire actor n effect in
    let was = retire_was setup past actor n effect ok in
    let of_n = writes-of past h r n mine in
    let now : is (fate (e ∷ past) n) Retired ≡ true = grind (arith, nat_tests) in
    first-greatest (is_spared (e ∷ past) h) (λ x. writes (e ∷ past) h r x && is (fate (e ∷ past) x) Retired) n
    (namings past)
    (namings-fall setup (e ∷ past) (ok, legal) h)
    (λ y passes.
    let writes_y : writes past h r y ≡ true = grind arith in
    let retired_y : is (fate (e ∷ past) y) Retired ≡ true = grind arith in
    let of_y = writes-of past h r y writes_y in (
      grind (arith, nat_tests),
      elim (cases_eq y n) [
        | inl here ↦ omega arith
        | inr other ↦
            let before = retires-Retire setup past actor n effect ok y other in
            let older =
            retired_older setup past legal h n y of_n (grind (arith, nat_tests)) of_y (sym before ∙ retired_y) in
            omega arith
      ],
    ))
    (rw (mine, now) refl) m

-- ---- The committed map

pub register_by-kept : (setup : Setup) (past : List Event) → is_legal setup past → (e : Event)
    → refused setup past e ≡ None
    → (otherwise : ℕ) (o : Option ℕ) → ((w : ℕ) → o ≡ Some w → stage (fate past w) ≢ 2)
    → register_by (e ∷ past) otherwise o ≡ register_by past otherwise o
register_by-kept setup past legal e ok otherwise None late = refl
register_by-kept setup past legal e ok otherwise (Some w) late = ap or_zero (phys-kept setup past e ok w (late w refl))

-- Where the committed one stays, so does its register.
pub committed-kept : (setup : Setup) (past : List Event) → is_legal setup past → (e : Event)
    → refused setup past e ≡ None → (h r : ℕ)
    → committer (e ∷ past) h r ≡ committer past h r → committed (e ∷ past) h r ≡ committed past h r
committed-kept setup past legal e ok h r same =
    rw same (register_by-kept setup past legal e ok (first_register h r) (committer past h r)
    (λ w found. let retired = (committer-is past h r w found).retired in λ two. absurd (omega arith)))
