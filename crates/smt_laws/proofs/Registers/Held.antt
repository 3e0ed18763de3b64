-- Each claimed register is held by its claimant: the last instruction that was given it. So none is claimed twice.
use Rattle.std.specs.Prelude.{◌≡◌, ◌≢◌, ℕ, ◌≤◌, true, false, not, ◌==◌, ◌&&◌, List, [], ◌∷◌, Option, Some, None}
use Rattle.std.specs.Prelude.{is_some}
use Rattle.std.specs.List.{filter}
use Rattle.std.proofs.Common.{◌∙◌, refl, sym, ap, inl, inr, arith}
use Rattle.std.proofs.{lemmas.Bool.cases_Bool, lemmas.Bool.cases_eq, lemmas.Bool.Decides.nat_tests}
use Rattle.events.specs.{declared.effect.Effect.Effect, declared.event.Event.Event}
use Rattle.events.specs.declared.event.Event.TheVariants.{Fetch, Decode, Rename, Issue, Complete, Drop, Retire, Refetch}
use Rattle.smt_model.specs.Basics.{first, holds_of, or_zero, same_number}
use Rattle.smt_model.specs.{Setup.Setup, Kinds.destination, Kinds.writes_register, Nexts.is_last, Rules.refused}
use Rattle.smt_model.specs.{Rules.is_legal}
use Rattle.smt_model.specs.Fates.{Fetched, stage, fate, is_in_flight, fetching, op_of_fetched}
use Rattle.smt_model.specs.Registers.{phys, option_inner, naming, namings, writes, committer, committed, holder}
use Rattle.smt_model.specs.Registers.{register_by, first_register}
use Rattle.smt_model.proofs.{Lists.member, Lists.skips, Lists.takes, Fates.Moves.retire_was}
use Rattle.smt_model.proofs.{Fates.Moves.same_number-self, Fates.Sound.moved, Registers.Claims.IsRegister}
use Rattle.smt_model.proofs.Registers.Claims.{unclaimed_flight, unclaimed_committed}
use Rattle.smt_laws.proofs.Registers.Namings.{newest-same, named-renamed, naming-none, named_is, matched, phys-kept}
use Rattle.smt_laws.proofs.Registers.Namings.{taken}
use Rattle.smt_laws.proofs.Registers.Committing.{committed-kept, committer-Fetch, committer-Decode, committer-Rename}
use Rattle.smt_laws.proofs.Registers.Committing.{committer-Issue, committer-Complete, committer-Retire}
use Rattle.smt_laws.proofs.Registers.Committing.{committer-Retire_other, committer-Refetch}

pub record IsHeld (setup : Setup) (past : List Event) : Type 0 where
  -- An instruction in flight holds its register,
  pub flying : (w p : ℕ) → is_in_flight (fate past w) ≡ true → phys past w ≡ Some p → holder past p ≡ Some w
  -- and who wrote a committed one last holds that: nobody where it is the register of the start.
  pub committing : (h r : ℕ) → IsRegister setup h r → holder past (committed past h r) ≡ committer past h r

-- ---- Holders

holder-test : (setup : Setup) (past : List Event) → is_legal setup past → (e : Event)
    → refused setup past e ≡ None → (p x : ℕ)
    → member x (namings past) ≡ true → same_number (phys (e ∷ past) x) (Some p) ≡ same_number (phys past x) (Some p)
holder-test setup past legal e ok p x m =
    let late = named-renamed setup past legal x m in
    rw (phys-kept setup past e ok x (λ two. absurd (omega arith))) refl

-- An event that names no register leaves all holders,
holder-plain : (setup : Setup) (past : List Event) → is_legal setup past → (e : Event) → refused setup past e ≡ None
    → namings (e ∷ past) ≡ namings past → (p : ℕ) → holder (e ∷ past) p ≡ holder past p
holder-plain setup past legal e ok list p =
    ap (λ xs. first (filter (λ x. same_number (phys (e ∷ past) x) (Some p)) xs)) list
    ∙ newest-same (λ x. same_number (phys (e ∷ past) x) (Some p)) (λ x. same_number (phys past x) (Some p)) past
    (holder-test setup past legal e ok p)

-- and a rename leaves those of all registers but its own.
named_now : (n : ℕ) (p : ℕ) (past : List Event) (actor : ℕ) → phys (Rename actor n (Some p) ∷ past) n ≡ Some p
named_now n p past actor = grind (arith, nat_tests)

other_number : (p q : ℕ) → p ≢ q → same_number (Some p) (Some q) ≡ false
other_number p q apart = grind (arith, nat_tests)

pub holder-Rename_other : (setup : Setup) (past : List Event) → is_legal setup past
    → (actor n : ℕ) (register : Option ℕ)
    → refused setup past (Rename actor n register) ≡ None → (q : ℕ) → register ≢ Some q
    → holder (Rename actor n register ∷ past) q ≡ holder past q
holder-Rename_other setup past legal actor n None ok q apart =
    holder-plain setup past legal (Rename actor n None) ok refl q
holder-Rename_other setup past legal actor n (Some p) ok q apart =
    let e = Rename actor n (Some p) in
    skips (λ x. same_number (phys (e ∷ past) x) (Some q)) n (namings past)
    (rw (named_now n p past actor) (other_number p q (λ same. apart (ap Some same))))
    ∙ newest-same (λ x. same_number (phys (e ∷ past) x) (Some q)) (λ x. same_number (phys past x) (Some q)) past
    (holder-test setup past legal e ok q)

pub holder-Rename_own : (past : List Event) (actor n p : ℕ) → holder (Rename actor n (Some p) ∷ past) p ≡ Some n
holder-Rename_own past actor n p =
    takes (λ x. same_number (phys (Rename actor n (Some p) ∷ past) x) (Some p)) n (namings past)
    (rw (named_now n p past actor) (same_number-self (Some p)))

-- ---- Flights

-- Who is in flight after an event that isn't its rename was before.
flew : (setup : Setup) (past : List Event) → is_legal setup past → (e : Event) → refused setup past e ≡ None → (w : ℕ)
    → is_in_flight (fate (e ∷ past) w) ≡ true → stage (fate past w) ≢ 2 → is_in_flight (fate past w) ≡ true
flew setup past legal e ok w flies late = let move = moved setup past legal e ok w in grind (arith, nat_tests)

unnamed : (o : Option (Option ℕ)) (p : ℕ) → o ≡ None → option_inner o ≢ Some p
unnamed None p none names = absurd (grind arith)
unnamed (Some x) p none names = absurd (grind arith)

flew-plain : (setup : Setup) (past : List Event) → is_legal setup past → (e : Event)
    → refused setup past e ≡ None → (w p : ℕ)
    → phys (e ∷ past) w ≡ phys past w → is_in_flight (fate (e ∷ past) w) ≡ true → phys (e ∷ past) w ≡ Some p
    → is_in_flight (fate past w) ≡ true
flew-plain setup past legal e ok w p same flies names =
    flew setup past legal e ok w flies (λ two.
    let none : naming past w ≡ None = naming-none setup past legal w (omega arith) in
    absurd (unnamed (naming past w) p none (sym same ∙ names)))

flying-plain : (setup : Setup) (past : List Event) → is_legal setup past → IsHeld setup past → (e : Event)
    → refused setup past e ≡ None
    → namings (e ∷ past) ≡ namings past → ((w : ℕ) → phys (e ∷ past) w ≡ phys past w) → (w p : ℕ)
    → is_in_flight (fate (e ∷ past) w) ≡ true → phys (e ∷ past) w ≡ Some p → holder (e ∷ past) p ≡ Some w
flying-plain setup past legal held e ok list same w p flies names =
    holder-plain setup past legal e ok list p
    ∙ held.flying w p (flew-plain setup past legal e ok w p (same w) flies names) (sym (same w) ∙ names)

flying-Rename : (setup : Setup) (past : List Event) → is_legal setup past → IsHeld setup past → (actor n p : ℕ)
    → refused setup past (Rename actor n (Some p)) ≡ None → (w q : ℕ)
    → is_in_flight (fate (Rename actor n (Some p) ∷ past) w) ≡ true
    → phys (Rename actor n (Some p) ∷ past) w ≡ Some q → holder (Rename actor n (Some p) ∷ past) q ≡ Some w
flying-Rename setup past legal held actor n p ok w q flies names =
    elim (cases_eq w n) [
      | inl here ↦
          let same : Some p ≡ Some q = sym (named_now n p past actor) ∙ (rw here at names) in
          let at : p ≡ q = grind arith in
          ap (λ x. holder (Rename actor n (Some p) ∷ past) x) (sym at)
          ∙ (holder-Rename_own past actor n p ∙ ap Some (sym here))
      | inr other ↦
          let before : phys past w ≡ Some q = grind (arith, nat_tests) in
          let same : phys (Rename actor n (Some p) ∷ past) w ≡ phys past w = grind (arith, nat_tests) in
          let flew_before = flew-plain setup past legal (Rename actor n (Some p)) ok w q same flies names in
          let free = (taken setup past actor n p ok).unclaimed in
          holder-Rename_other setup past legal actor n (Some p) ok q
          (λ also. unclaimed_flight setup past legal w p free flew_before (before ∙ sym also))
          ∙ held.flying w q flew_before before
    ]

-- A rename that names no register.
flying-none : (setup : Setup) (past : List Event) → is_legal setup past → IsHeld setup past → (actor n : ℕ)
    → refused setup past (Rename actor n None) ≡ None → (w p : ℕ)
    → is_in_flight (fate (Rename actor n None ∷ past) w) ≡ true
    → phys (Rename actor n None ∷ past) w ≡ Some p → holder (Rename actor n None ∷ past) p ≡ Some w
flying-none setup past legal held actor n ok w p flies names =
    let other : w ≢ n = λ here. absurd (grind (arith, nat_tests)) in
    let same : phys (Rename actor n None ∷ past) w ≡ phys past w = grind (arith, nat_tests) in
    holder-plain setup past legal (Rename actor n None) ok refl p
    ∙ held.flying w p (flew-plain setup past legal (Rename actor n None) ok w p same flies names) (sym same ∙ names)

-- ---- Committed registers

committing-plain : (setup : Setup) (past : List Event) → is_legal setup past → IsHeld setup past → (e : Event)
    → refused setup past e ≡ None
    → namings (e ∷ past) ≡ namings past → (h r : ℕ) → IsRegister setup h r
    → committer (e ∷ past) h r ≡ committer past h r
    → holder (e ∷ past) (committed (e ∷ past) h r) ≡ committer (e ∷ past) h r
committing-plain setup past legal held e ok list h r is_register same =
    ap (λ p. holder (e ∷ past) p) (committed-kept setup past legal e ok h r same)
    ∙ (holder-plain setup past legal e ok list (committed past h r) ∙ (held.committing h r is_register ∙ sym same))

not_committed : (setup : Setup) (past : List Event) (actor n : ℕ) (register : Option ℕ)
    → refused setup past (Rename actor n register) ≡ None
    → (h r : ℕ) → IsRegister setup h r → register ≢ Some (committed past h r)
not_committed setup past actor n None ok h r is_register also = absurd (grind arith)
not_committed setup past actor n (Some p) ok h r is_register also =
    let at : p ≡ committed past h r = grind arith in
    absurd (unclaimed_committed setup past h r p (taken setup past actor n p ok).unclaimed is_register (sym at))

committing-Rename : (setup : Setup) (past : List Event) → is_legal setup past → IsHeld setup past
    → (actor n : ℕ) (register : Option ℕ)
    → refused setup past (Rename actor n register) ≡ None → (h r : ℕ) → IsRegister setup h r
    → holder (Rename actor n register ∷ past) (committed (Rename actor n register ∷ past) h r)
    ≡ committer (Rename actor n register ∷ past) h r
committing-Rename setup past legal held actor n register ok h r is_register =
    let e = Rename actor n register in
    let same = committer-Rename setup past legal actor n register ok h r in
    ap (λ p. holder (e ∷ past) p) (committed-kept setup past legal e ok h r same)
    ∙ (holder-Rename_other setup past legal actor n register ok (committed past h r)
    (λ also. not_committed setup past actor n register ok h r is_register also)
    ∙ (held.committing h r is_register ∙ sym same))

writes_some : (h r : ℕ) (o : Option Fetched) → 1 ≤ r
    → holds_of (λ f. (f.hart == h) && (destination (op_of_fetched (Some f)) == r)) o ≡ true
    → writes_register (op_of_fetched o) ≡ true
writes_some h r None low mine = absurd (grind arith)
writes_some h r (Some f) low mine = grind (arith, nat_tests)

pub some_is : (o : Option ℕ) → is_some o ≡ true → o ≡ Some (or_zero o)
some_is None some = absurd (grind arith)
some_is (Some p) some = refl

-- Who writes a register other than x0 was given one.
pub writer_named : (setup : Setup) (past : List Event) → is_legal setup past → (h r s : ℕ) → 1 ≤ r
    → writes past h r s ≡ true
    → 3 ≤ stage (fate past s) → stage (fate past s) ≤ 7 → is_some (phys past s) ≡ true
writer_named setup past legal h r s low mine three seven =
    matched setup past legal s three seven ∙ writes_some h r (fetching past s) low mine

committing-Retire : (setup : Setup) (past : List Event) → is_legal setup past → IsHeld setup past
    → (actor n : ℕ) (effect : Effect)
    → refused setup past (Retire actor n effect) ≡ None → (h r : ℕ) → IsRegister setup h r
    → holder (Retire actor n effect ∷ past) (committed (Retire actor n effect ∷ past) h r)
    ≡ committer (Retire actor n effect ∷ past) h r
committing-Retire setup past legal held actor n effect ok h r is_register =
    let e = Retire actor n effect in
    elim (cases_Bool (writes past h r n && not (is_last effect.next))) [
      | inl commits ↦
          let was = retire_was setup past actor n effect ok in
          let mine : writes past h r n ≡ true = grind arith in
          let going : is_last effect.next ≡ false = grind arith in
          let some = writer_named setup past legal h r n is_register.low mine (omega arith) (omega arith) in
          let m : member n (namings past) ≡ true = named_is setup past legal n ∙ some in
          let now = committer-Retire setup past legal actor n effect ok h r mine going m in
          let at : committed (e ∷ past) h r ≡ or_zero (phys past n) =
          ap (register_by (e ∷ past) (first_register h r)) now in
          let names : phys past n ≡ Some (or_zero (phys past n)) = some_is (phys past n) some in
          ap (λ p. holder (e ∷ past) p) at
          ∙ (holder-plain setup past legal e ok refl (or_zero (phys past n))
          ∙ (held.flying n (or_zero (phys past n)) (grind (arith, nat_tests)) names ∙ sym now))
      | inr another ↦
          committing-plain setup past legal held e ok refl h r is_register
          (committer-Retire_other setup past legal actor n effect ok h r another)
    ]

-- ---- Every legal history

held-next : (setup : Setup) (past : List Event) → is_legal setup past → IsHeld setup past → (e : Event)
    → refused setup past e ≡ None
    → IsHeld setup (e ∷ past)
held-next setup past legal held (Fetch actor hart n pc word predicted) ok = record {
  flying = flying-plain setup past legal held (Fetch actor hart n pc word predicted) ok refl (λ w. refl);
  committing = λ h r is_register.
      committing-plain setup past legal held (Fetch actor hart n pc word predicted) ok refl h r is_register
      (committer-Fetch setup past legal actor hart n pc word predicted ok h r);
}
held-next setup past legal held (Decode actor n) ok = record {
  flying = flying-plain setup past legal held (Decode actor n) ok refl (λ w. refl);
  committing = λ h r is_register.
      committing-plain setup past legal held (Decode actor n) ok refl h r is_register
      (committer-Decode setup past legal actor n ok h r);
}
held-next setup past legal held (Rename actor n None) ok = record {
  flying = flying-none setup past legal held actor n ok;
  committing = committing-Rename setup past legal held actor n None ok;
}
held-next setup past legal held (Rename actor n (Some p)) ok = record {
  flying = flying-Rename setup past legal held actor n p ok;
  committing = committing-Rename setup past legal held actor n (Some p) ok;
}
held-next setup past legal held (Issue actor n) ok = record {
  flying = flying-plain setup past legal held (Issue actor n) ok refl (λ w. refl);
  committing = λ h r is_register.
      committing-plain setup past legal held (Issue actor n) ok refl h r is_register
      (committer-Issue setup past legal actor n ok h r);
}
held-next setup past legal held (Complete actor n outcome) ok = record {
  flying = flying-plain setup past legal held (Complete actor n outcome) ok refl (λ w. refl);
  committing = λ h r is_register.
      committing-plain setup past legal held (Complete actor n outcome) ok refl h r is_register
      (committer-Complete setup past legal actor n outcome ok h r);
}
held-next setup past legal held (Drop actor n) ok = record {
  flying = flying-plain setup past legal held (Drop actor n) ok refl (λ w. refl);
  committing = λ h r is_register. committing-plain setup past legal held (Drop actor n) ok refl h r is_register refl;
}
held-next setup past legal held (Retire actor n effect) ok = record {
  flying = flying-plain setup past legal held (Retire actor n effect) ok refl (λ w. refl);
  committing = committing-Retire setup past legal held actor n effect ok;
}
held-next setup past legal held (Refetch actor n) ok = record {
  flying = flying-plain setup past legal held (Refetch actor n) ok refl (λ w. refl);
  committing = λ h r is_register.
      committing-plain setup past legal held (Refetch actor n) ok refl h r is_register
      (committer-Refetch setup past legal actor n ok h r);
}

-- The law: each claimed register is held by its claimant.
pub is_held : (setup : Setup) (past : List Event) → is_legal setup past → IsHeld setup past
is_held setup [] legal = record {
  flying = λ w p flies names. absurd (grind arith);
  committing = λ h r is_register. refl;
}
is_held setup (e ∷ past) legal = held-next setup past legal.1 (is_held setup past legal.1) e legal.0
