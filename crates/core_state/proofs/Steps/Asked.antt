-- Small facts for what a step answers: nothing is allowed where what would be allowed can't be.
use Rattle.std.specs.Prelude.{◌≡◌, ℕ, true, Option, Some, None, is_some}
use Rattle.std.proofs.{Common.refl, Common.arith, lemmas.Bool.Decides.nat_tests}
use Rattle.smt_model.specs.Basics.{same_number}

pub some_of : (o : Option ℕ) → (o ≡ None → ⊥) → is_some o ≡ true
some_of None not_none = absurd (not_none refl)
some_of (Some n) not_none = refl

pub same_self : (o : Option ℕ) → same_number o o ≡ true
same_self None = refl
same_self (Some n) = grind (arith, nat_tests)
