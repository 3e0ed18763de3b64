-- What holds at the other end of a jump that the table of targets allows holds at that of some jump in it.
use Rattle.std.specs.Prelude.{◌≡◌, ℕ, Bool, true, false, ◌==◌, ◌&&◌, ◌||◌, List, [], ◌∷◌}
use Rattle.std.specs.List.{list_any}
use Rattle.std.proofs.Common.{refl, subst, inl, inr, arith}
use Rattle.std.proofs.{lemmas.Bool.cases_Bool, lemmas.Bool.Decides.nat_tests}
use Rattle.live_registers.specs.Targets.{allows, is_jump}
use Rattle.live_registers.specs.declared.targets.{Jump.Jump, Targets.Targets}

-- It is a jump from this pc, and it holds where that goes.
abbrev pub leads : (ℕ → Bool) → ℕ → Jump → Bool
leads holds from jump = jump.from == from && holds jump.to

abbrev pub leads_on : (ℕ → Bool) → ℕ → List Jump → Bool
leads_on holds from jumps = list_any (leads holds from) jumps

is_there : (holds : ℕ → Bool) (from to : ℕ) (jump : Jump) → is_jump from to jump ≡ true → holds to ≡ true
    → leads holds from jump ≡ true
is_there holds from to jump is so =
    let here : (jump.from == from) ≡ true = grind (arith, nat_tests) in
    let there : to ≡ jump.to = grind (arith, nat_tests) in
    rw here (subst (λ pc. holds pc ≡ true) there so)

pub listed : (holds : ℕ → Bool) (from to : ℕ) (jumps : List Jump) → list_any (is_jump from to) jumps ≡ true
    → holds to ≡ true → leads_on holds from jumps ≡ true
listed holds from to [] is so = is
listed holds from to (jump ∷ jumps) is so =
    elim (cases_Bool (is_jump from to jump)) [
      | inl here ↦ rw (is_there holds from to jump here so) refl
      | inr other ↦
          or_second (leads holds from jump) (leads_on holds from jumps)
          (listed holds from to jumps (other_is (is_jump from to jump) (list_any (is_jump from to) jumps) other is) so)
    ]
  where
    or_second : (a b : Bool) → b ≡ true → (a || b) ≡ true
    or_second true b second = refl
    or_second false b second = second

    other_is : (a b : Bool) → a ≡ false → (a || b) ≡ true → b ≡ true
    other_is true b not either = absurd (grind arith)
    other_is false b not either = either

pub allowed : (holds : ℕ → Bool) (targets : Targets) (from to : ℕ) → allows targets from to ≡ true
    → targets.anywhere ≡ false → holds to ≡ true → leads_on holds from targets.jumps.items ≡ true
allowed holds targets from to is here so =
    listed holds from to targets.jumps.items (rw here at is) so
