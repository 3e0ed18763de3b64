-- The test whether a role is there, and that it is there; and the same of every role.
use Rattle.std.proofs.Common.{◌≡◌, List, [], ◌∷◌, true, rules, refl, subst, sym}
use Rattle.std.specs.Prelude.{Contains}
use Rattle.std.specs.List.{Any, list_all}
use Rattle.std.proofs.lemmas.Bool.{and_parts, and_from}
use Rattle.std.proofs.lemmas.List.Folds.{Any-from_list_any, list_any_at}
use Rattle.events.specs.{declared.role.Role.Role, contracts.role.RolePartialEq.TheImpl.eq-value}
use Rattle.events.specs.contracts.role.Role.{the_type}
use Rattle.events.specs.declared.role.Role.TheVariants.{Fetch, Front, Retire, Alu, Mul, Mem}
use Rattle.actors.specs.Roles.{HaveEveryRole, has_role}
use denote.Enum.Bare.{same_true}

same : (r : Role) → eq-value.it r r ≡ true
same Fetch = refl
same Front = refl
same Retire = refl
same Alu = refl
same Mul = refl
same Mem = refl

has : (roles : List Role) (r : Role) → Contains roles r → has_role roles r ≡ true
has roles r (k, under, is) = list_any_at (λ there. eq-value.it there r) roles k r under
    (subst (λ there. eq-value.it there r ≡ true) (sym is) (same r))

found : (roles : List Role) (r : Role) → Any (λ there. eq-value.it there r ≡ true) roles → Contains roles r
found roles r (k, there, under, at, is) = subst (Contains roles) (same_true the_type (search rules) there r is)
    (k, under, at)

first : (roles : List Role) (r : Role) (rs : List Role) → list_all (has_role roles) (r ∷ rs) ≡ true → Contains roles r
first roles r rs all = found roles r (Any-from_list_any (λ there. eq-value.it there r) roles
    (and_parts (has_role roles r) (list_all (has_role roles) rs) all).0)

others : (roles : List Role) (r : Role) (rs : List Role) → list_all (has_role roles) (r ∷ rs) ≡ true
    → list_all (has_role roles) rs ≡ true
others roles r rs all = (and_parts (has_role roles r) (list_all (has_role roles) rs) all).1

abbrev pub every_role : List Role
every_role = Fetch ∷ Front ∷ Retire ∷ Alu ∷ Mul ∷ Mem ∷ []

pub each : (roles : List Role) → list_all (has_role roles) every_role ≡ true → HaveEveryRole roles
each roles all Fetch = first roles Fetch (Front ∷ Retire ∷ Alu ∷ Mul ∷ Mem ∷ []) all
each roles all Front = first roles Front (Retire ∷ Alu ∷ Mul ∷ Mem ∷ [])
    (others roles Fetch (Front ∷ Retire ∷ Alu ∷ Mul ∷ Mem ∷ []) all)
each roles all Retire = first roles Retire (Alu ∷ Mul ∷ Mem ∷ []) (others roles Front (Retire ∷ Alu ∷ Mul ∷ Mem ∷ [])
    (others roles Fetch (Front ∷ Retire ∷ Alu ∷ Mul ∷ Mem ∷ []) all))
each roles all Alu = first roles Alu (Mul ∷ Mem ∷ []) (others roles Retire (Alu ∷ Mul ∷ Mem ∷ [])
    (others roles Front (Retire ∷ Alu ∷ Mul ∷ Mem ∷ []) (others roles Fetch (Front ∷ Retire ∷ Alu ∷ Mul ∷ Mem ∷ []) all)))
each roles all Mul = first roles Mul (Mem ∷ []) (others roles Alu (Mul ∷ Mem ∷ [])
    (others roles Retire (Alu ∷ Mul ∷ Mem ∷ []) (others roles Front (Retire ∷ Alu ∷ Mul ∷ Mem ∷ [])
    (others roles Fetch (Front ∷ Retire ∷ Alu ∷ Mul ∷ Mem ∷ []) all))))
each roles all Mem = first roles Mem [] (others roles Mul (Mem ∷ []) (others roles Alu (Mul ∷ Mem ∷ [])
    (others roles Retire (Alu ∷ Mul ∷ Mem ∷ []) (others roles Front (Retire ∷ Alu ∷ Mul ∷ Mem ∷ [])
    (others roles Fetch (Front ∷ Retire ∷ Alu ∷ Mul ∷ Mem ∷ []) all)))))

pub are_there : (roles rs : List Role) → HaveEveryRole roles → list_all (has_role roles) rs ≡ true
are_there roles [] have = refl
are_there roles (r ∷ rs) have = and_from (has_role roles r) (list_all (has_role roles) rs) (has roles r (have r))
    (are_there roles rs have)
