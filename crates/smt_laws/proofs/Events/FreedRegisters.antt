-- Registers given back by an event after which some of those in flight aren't any more, and none is committed.
use Rattle.std.specs.Prelude.{◌≡◌, ◌≢◌, ℕ, true, false, ◌&&◌, ◌||◌, nat_lt, List, ◌∷◌, Some, None}
use Rattle.std.proofs.Common.{◌∙◌, sym, ap, subst, inl, inr}
use Rattle.std.proofs.lemmas.Bool.{cases_Bool}
use Rattle.events.specs.declared.event.Event.{Event}
use Rattle.smt_model.specs.{Basics.same_number, Setup.Setup, Setup.registers_of, Fates.fate, Fates.is_in_flight}
use Rattle.smt_model.specs.{Registers.phys, Registers.committed, Registers.is_unclaimed, Rules.refused, Rules.is_legal}
use Rattle.smt_model.specs.{Picture.picture, Picture.is_free, Steps.has_register}
use Rattle.smt_model.proofs.{Lists.member, Registers.Claims.claimant, Registers.Claims.flight_claimed}
use Rattle.smt_model.proofs.Registers.Claims.{committed_claimed}
use Rattle.smt_laws.proofs.Events.Freeing.{claims_on, same_test}
use Rattle.smt_laws.proofs.Events.Freeing.{true_false}
use Rattle.smt_model.proofs.Fates.Moves.{same_number-is, same_number-self}
use Rattle.smt_laws.proofs.{Registers.Namings.in_range, Registers.Counts.flights-once, Registers.Counts.apart}
use Rattle.std.specs.List.{list_any}
use Rattle.smt_laws.proofs.Events.SquashedRegisters.{IsOneOf, any-some, any-one, freed, or_false, below_true}

-- Those of a list leave the flights, and no other; registers are named and committed as before.
pub record Leaves (setup : Setup) (past : List Event) (e : Event) (gone : List ℕ) : Type 0 where
  pub flew : (s : ℕ) → member s gone ≡ true → is_in_flight (fate past s) ≡ true
  pub landed : (s : ℕ) → member s gone ≡ true → is_in_flight (fate (e ∷ past) s) ≡ false
  pub flies_on : (s : ℕ) → is_in_flight (fate past s) ≡ true → member s gone ≡ false
      → is_in_flight (fate (e ∷ past) s) ≡ true
  pub back : (s : ℕ) → is_in_flight (fate (e ∷ past) s) ≡ true → is_in_flight (fate past s) ≡ true
  pub names : (s : ℕ) → phys (e ∷ past) s ≡ phys past s
  pub commits : (g r : ℕ) → committed (e ∷ past) g r ≡ committed past g r

given_back : (setup : Setup) (past : List Event) → is_legal setup past → (e : Event) → (gone : List ℕ)
    → Leaves setup past e gone
    → (x : ℕ) → IsOneOf (has_register (picture setup past) x) gone → is_unclaimed setup (e ∷ past) x ≢ false
given_back setup past legal e gone leaves x one claimed =
    let t = one.one in
    let names : phys past t ≡ Some x = same_number-is (phys past t) (Some x) one.passes in
    elim (claimant setup (e ∷ past) x claimed) [
      | inl flight_claim ↦
          let same = flights-once setup past legal t flight_claim.one x (leaves.flew t one.inside)
          (leaves.back flight_claim.one flight_claim.flies) names
          (sym (leaves.names flight_claim.one) ∙ flight_claim.names) in
          absurd
          (true_false (sym (subst (λ z. is_in_flight (fate (e ∷ past) z) ≡ true) (sym same) flight_claim.flies)
          ∙ leaves.landed t one.inside))
      | inr register_claim ↦
          absurd
          (apart setup past legal t register_claim.hart register_claim.register
          (leaves.flew t one.inside) register_claim.is_register
          (names
          ∙ ap Some
          (sym (sym (leaves.commits register_claim.hart register_claim.register) ∙ register_claim.commits))))
    ]

not_given : (setup : Setup) (past : List Event) → is_legal setup past → (e : Event) → (ok : refused setup past e ≡ None)
    → (gone : List ℕ)
    → Leaves setup past e gone → (x : ℕ) → list_any (has_register (picture setup past) x) gone ≡ false
    → is_unclaimed setup (e ∷ past) x ≡ is_unclaimed setup past x
not_given setup past legal e ok gone leaves x none =
    same_test (is_unclaimed setup (e ∷ past) x) (is_unclaimed setup past x)
    (claims_on setup (e ∷ past) past legal
    (λ s q flies names. flight_claimed setup past legal s q (leaves.back s flies) (sym (leaves.names s) ∙ names))
    (λ h r is_register. subst (λ z. is_unclaimed setup past z ≡ false) (sym (leaves.commits h r))
    (committed_claimed setup past h r is_register)) x)
    (λ claimed.
    elim (claimant setup past x claimed) [
      | inl flight_claim ↦
          elim (cases_Bool (member flight_claim.one gone)) [
            | inl inside ↦
                absurd (true_false (sym (any-some (has_register (picture setup past) x) gone flight_claim.one inside
                (ap (λ o. same_number o (Some x)) flight_claim.names ∙ same_number-self (Some x))) ∙ none))
            | inr outside ↦
                flight_claimed setup (e ∷ past) (ok, legal) flight_claim.one x
                (leaves.flies_on flight_claim.one flight_claim.flies outside)
                (leaves.names flight_claim.one ∙ flight_claim.names)
          ]
      | inr register_claim ↦
          subst (λ z. is_unclaimed setup (e ∷ past) z ≡ false)
          (leaves.commits register_claim.hart register_claim.register ∙ register_claim.commits)
          (committed_claimed setup (e ∷ past) register_claim.hart register_claim.register register_claim.is_register)
    ])

pub free-given : (setup : Setup) (past : List Event) → is_legal setup past → (e : Event)
    → (ok : refused setup past e ≡ None) → (gone : List ℕ)
    → Leaves setup past e gone → (x : ℕ)
    → is_free setup (e ∷ past) x ≡ (is_free setup past x || list_any (has_register (picture setup past) x) gone)
free-given setup past legal e ok gone leaves x =
    elim (cases_Bool (list_any (has_register (picture setup past) x) gone)) [
      | inl some ↦
          let one = any-one (has_register (picture setup past) x) gone some in
          let names : phys past one.one ≡ Some x = same_number-is (phys past one.one) (Some x) one.passes in
          freed (nat_lt x (registers_of setup)) (is_unclaimed setup (e ∷ past) x) (is_free setup past x)
          (list_any (has_register (picture setup past) x) gone)
          (below_true x (registers_of setup) (in_range setup past legal one.one x names))
          (given_back setup past legal e gone leaves x one) some
      | inr none ↦
          ap (λ b. nat_lt x (registers_of setup) && b) (not_given setup past legal e ok gone leaves x none)
          ∙ sym (ap (λ b. is_free setup past x || b) none ∙ or_false (is_free setup past x))
    ]
