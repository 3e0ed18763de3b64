-- Where the first unit of a kind stands among the actors.
use Rattle.std.specs.Prelude.{◌≡◌, ℕ, zero, suc, ◌<◌, ◌≤◌, Bool, true, false, List, [], ◌∷◌, ◌++◌, Option, Some, None}
use Rattle.std.specs.Prelude.{filter, length, get_or, slice_get, option_and_then}
use Rattle.std.specs.List.{position, position_or_len}
use Rattle.std.proofs.Common.{refl, sym, ap, subst, ◌∙◌, inl, inr, arith}
use Rattle.std.proofs.{lemmas.Bool.cases_eq, lemmas.Bool.Decides.nat_tests, lemmas.List.Elements.filter-append}
use Rattle.std.proofs.{lemmas.List.Quantifiers.position-Some, lemmas.List.Sums.fails_before_first}
use Rattle.rv_instr.specs.{Registers.same_unit, declared.op.UnitKind.UnitKind}
use Rattle.events.specs.declared.role.Role.{Role}
use Rattle.smt_model.specs.{Setup.unit_of_role, Basics.holds_of, Basics.first}
use Rattle.smt_model.specs.Basics.{below}
use Rattle.events.specs.declared.role.Role.TheVariants as role
use Rattle.smt_model.proofs.{Lists.first-passes, Registers.Claims.member-below}
use Rattle.smt_laws.specs.Scripts.{unit_of_kind}

-- ---- The first number below n that passes a test

none_below : (t : ℕ → Bool) (n : ℕ) → ((j : ℕ) → j < n → t j ≡ false) → filter t (below n) ≡ []
none_below t zero none = refl
none_below t (suc n) none =
    filter-append t (below n) (n ∷ [])
    ∙ rw (none_below t n (λ j small. none j (omega arith)), none n (omega arith)) refl

first_in : (xs ys : List ℕ) (k : ℕ) → first xs ≡ Some k → first (xs ++ ys) ≡ Some k
first_in [] ys k is = absurd (cc)
first_in (x ∷ xs) ys k is = is

first_below : (t : ℕ → Bool) (n k : ℕ) → k < n → t k ≡ true → ((j : ℕ) → j < k → t j ≡ false)
    → first (filter t (below n)) ≡ Some k
first_below t zero k inside here none = absurd (omega arith)
first_below t (suc n) k inside here none =
    elim (cases_eq k n) [
      | inl last ↦
          let now : t n ≡ true = subst (λ z. t z ≡ true) last here in
          ap first (filter-append t (below n) (n ∷ []))
          ∙ rw (none_below t n (λ j small. none j (omega arith)), now, last) refl
      | inr other ↦
          ap first (filter-append t (below n) (n ∷ []))
          ∙ first_in (filter t (below n)) (filter t (n ∷ [])) k (first_below t n k (omega arith) here none)
    ]

-- ---- The first role that passes a test

got : (roles : List Role) (k : ℕ) (d : Role) → k < length roles → slice_get roles k ≡ Some (get_or roles k d)
got [] k d inside = absurd (omega arith)
got (r ∷ roles) zero d inside = refl
got (r ∷ roles) (suc k) d inside = got roles k d (omega arith)

place_none : (p : Role → Bool) (roles : List Role) → position p roles ≡ None → length roles ≤ position_or_len p roles
place_none p roles e = grind (arith, nat_tests)

module _ (kind : UnitKind) where
  abbrev is_of : Role → Bool
  is_of r = holds_of (λ u. same_unit u kind) (unit_of_role r)

  abbrev is_there : List Role → ℕ → Bool
  is_there roles k = holds_of (λ u. same_unit u kind) (option_and_then unit_of_role (slice_get roles k))

  there : (roles : List Role) (k : ℕ) → k < length roles → (b : Bool) → is_of (get_or roles k role.Fetch) ≡ b
      → is_there roles k ≡ b
  there roles k inside b is =
      ap (λ o. holds_of (λ u. same_unit u kind) (option_and_then unit_of_role o)) (got roles k role.Fetch inside) ∙ is

  by_place : (roles : List Role) (o : Option ℕ) → position is_of roles ≡ o → o ≡ unit_of_kind roles kind
  by_place roles (Some k) found =
      let facts = position-Some is_of roles k role.Fetch found in
      sym (first_below (is_there roles) (length roles) k facts.0 (there roles k facts.0 true facts.1)
      (λ j small. there roles j (omega (arith, facts.0)) false (facts.2 j small)))
  by_place roles None none =
      let all = place_none is_of roles none in
      sym (ap first (none_below (is_there roles) (length roles)
      (λ j small. there roles j small false (fails_before_first is_of roles j role.Fetch (omega arith)))))

  pub unit_at : (roles : List Role) → position is_of roles ≡ unit_of_kind roles kind
  unit_at roles = by_place roles (position is_of roles) refl

  -- What is found is such a unit, and one of the actors.
  pub found_suits : (roles : List Role) (k : ℕ) → unit_of_kind roles kind ≡ Some k → is_there roles k ≡ true
  found_suits roles k found = (first-passes (is_there roles) (below (length roles)) k found).0

  pub found_inside : (roles : List Role) (k : ℕ) → unit_of_kind roles kind ≡ Some k → k < length roles
  found_inside roles k found =
      member-below (length roles) k (first-passes (is_there roles) (below (length roles)) k found).1
