-- A list of values that is a list of names: each value is one.
use Rattle.std.proofs.Common.{◌≡◌, ℕ, zero, suc, ◌<◌, List, [], ◌∷◌, map, length, get_or, refl, ap, ◌∙◌, arith}
use Rattle.toml.specs.Data.{Data, string, Items, item}
use Rattle.toml.specs.{View.view, View.items_of, View.items_view, declared.value.Value.Value}
use Rattle.events.specs.declared.role.Role.{Role}
use Rattle.events.specs.Roles.{role_name}

-- the values are the names of these roles
abbrev pub AreNames : List Value → List Role → Type 0
AreNames vs roles = items_view vs ≡ items_of (map (λ r. string (role_name r)) roles)

abbrev first_or : Data → Items → Data
first_or d (item x xs) = x
first_or d _ = d

abbrev others : Items → Items
others (item x xs) = xs
others xs = xs

pub length_named : (vs : List Value) (roles : List Role) → AreNames vs roles → length vs ≡ length roles
length_named [] [] named = refl
length_named [] (r ∷ roles) named = cc
length_named (v ∷ vs) [] named = cc
length_named (v ∷ vs) (r ∷ roles) named = ap suc (length_named vs roles (ap others named))

named_at : (vs : List Value) (roles : List Role) (i : ℕ) (d : Value) → AreNames vs roles → i < length vs
    → (r : Role) × (view (get_or vs i d) ≡ string (role_name r))
named_at [] roles i d named within = absurd (omega arith)
named_at (v ∷ vs) [] i d named within = cc
named_at (v ∷ vs) (r ∷ roles) zero d named within = (r, ap (first_or (view v)) named)
named_at (v ∷ vs) (r ∷ roles) (suc i) d named within = named_at vs roles i d (ap others named) (omega arith)

pub value_named : (vs items : List Value) (roles : List Role) (i : ℕ) (v : Value) → items ≡ vs → v ≡ get_or items i v
    → i < length items → AreNames vs roles →
    (r : Role) × (view v ≡ string (role_name r))
value_named vs items roles i v same is within named =
    let at : (r : Role) × (view (get_or items i v) ≡ string (role_name r)) =
    named_at items roles i v (rw same named) within in (at.0, ap view is ∙ at.1)
