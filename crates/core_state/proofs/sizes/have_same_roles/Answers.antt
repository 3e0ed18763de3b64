use Rattle.std.proofs.Common.{◌≡◌, rules, true, refl, subst}
use Rattle.std.specs.Bool.{Decides}
use Rattle.std.proofs.lemmas.Slice.Eq.{slice_eq-Decides}
use Rattle.events.specs.{declared.role.Role.Role, contracts.role.RolePartialEq.TheImpl.eq-value}
use Rattle.events.specs.contracts.role.Role.{the_type}
use Rattle.events.specs.declared.role.Role.TheVariants.{Fetch, Front, Retire, Alu, Mul, Mem}
use denote.Enum.Bare.{same_true}
use Rattle.core_state.proofs.sizes.have_same_roles.Goals as goal

same : (a : Role) → eq-value.it a a ≡ true
same Fetch = refl
same Front = refl
same Retire = refl
same Alu = refl
same Mul = refl
same Mem = refl

decides : (a b : Role) → Decides (eq-value.it a b) (a ≡ b)
decides a b = (λ e. same_true the_type (search rules) a b e, λ e. subst (λ r. eq-value.it a r ≡ true) e (same a))

pub returns : goal.returns
returns c = slice_eq-Decides decides _ _ _ c.eq.ensures
