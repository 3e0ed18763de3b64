-- Which records have a unit.
use Rattle.std.specs.Prelude.{◌≡◌, ℕ, ◌+◌, ◌<◌, true, false, List, []}
use Rattle.std.specs.Prelude.{◌∷◌, ◌++◌, Option, Some, None, is_some, All, take}
use Rattle.std.specs.Prelude.{drop, get_or, length, reverse, Bool, if◌then◌else◌}
use Rattle.std.specs.List.{AllByRecursion}
use Rattle.std.proofs.Common.{refl, sym, ap, subst, ◌∙◌}
use Rattle.std.proofs.lemmas.List.{take-append-drop, drop_more}
use Rattle.std.proofs.lemmas.List.Elements.{recursion_from_All}
use Rattle.rv_instr.specs.declared.op.UnitKind.{UnitKind}
use Rattle.rv_instr.specs.declared.op.UnitKind.TheVariants.{Alu, Mul, Mem}
use Rattle.events.specs.declared.effect.Record.{Record}
use Rattle.events.specs.declared.role.Role.{Role}
use Rattle.smt_model.specs.{Setup.Setup}
use Rattle.smt_laws.specs.{Shown.HasUnit, Shown.HasKind, Shown.HasEachKind, Scripts.unit_of_kind}
use Rattle.schedules.specs.Refusals.{unit_of_record, IsServed, IsFirstUnserved, missing_kind, HasUnits}
use Rattle.schedules.proofs.{Asking.reverse_cons, Places.found_suits}

-- ---- The first that has none

pub none_there : (o : Option ℕ) → is_some o ≡ false → o ≡ None
none_there None absent = refl
none_there (Some k) absent = absurd (cc)

pub unserved : (roles : List Role) (all : List Record) (i : ℕ) (d : Record) (kind : UnitKind) → i < length all
    → All (IsServed roles) (take i all) → kind ≡ unit_of_record (get_or all i d)
    → unit_of_kind roles kind ≡ None → IsFirstUnserved roles all kind
unserved roles all i d kind inside served is_for missing = record {
  before = take i all;
  one = get_or all i d;
  after = drop (i + 1) all;
  parts = sym (take-append-drop i all) ∙ ap (λ xs. take i all ++ xs) (drop_more all i d inside);
  served = served;
  missing = missing;
  is_for = is_for;
}

-- ---- All have one

served_by : (setup : Setup) (r : Record) (o : Option ℕ) → unit_of_kind setup.roles (unit_of_record r) ≡ o
    → is_some o ≡ true → HasUnit setup r
served_by setup r None found some = absurd (cc)
served_by setup r (Some k) found some =
    record { actor = k; suits = found_suits (unit_of_record r) setup.roles k found }

has_unit : (setup : Setup) (r : Record) → IsServed setup.roles r → HasUnit setup r
has_unit setup r served = served_by setup r (unit_of_kind setup.roles (unit_of_record r)) refl served

have_units : (setup : Setup) (all : List Record) → AllByRecursion (IsServed setup.roles) all
    → AllByRecursion (HasUnit setup) all
have_units setup [] served = tt
have_units setup (r ∷ all) served = (has_unit setup r served.0, have_units setup all served.1)

-- What holds of each of a list read from its end holds of each of the list.
parted : {A : Type 0} (P : A → Type 0) (xs ys : List A) → AllByRecursion P (xs ++ ys)
    → AllByRecursion P xs × AllByRecursion P ys
parted P [] ys all = (tt, all)
parted P (x ∷ xs) ys all = let rest = parted P xs ys all.1 in ((all.0, rest.0), rest.1)

pub unreversed : {A : Type 0} (P : A → Type 0) (xs : List A) → AllByRecursion P (reverse xs) → AllByRecursion P xs
unreversed P [] all = tt
unreversed P (x ∷ xs) all =
    let parts = parted P (reverse xs) (x ∷ []) (subst (AllByRecursion P) (reverse_cons x xs) all) in
    (parts.1.0, unreversed P xs parts.0)

units_for : (setup : Setup) (all : List Record) → All (IsServed setup.roles) (reverse all)
    → AllByRecursion (HasUnit setup) all
units_for setup all served =
    unreversed (HasUnit setup) all
    (have_units setup (reverse all) (recursion_from_All (IsServed setup.roles) (reverse all) served))

-- ---- There is one of each kind

each_there : (a b c : Option ℕ)
    → (if is_some a then (if is_some b then (if is_some c then None else Some Mem) else Some Mul) else Some Alu) ≡ None
    → (is_some a ≡ true) × ((is_some b ≡ true) × (is_some c ≡ true))
each_there None b c none = absurd (cc)
each_there (Some x) None c none = absurd (cc)
each_there (Some x) (Some y) None none = absurd (cc)
each_there (Some x) (Some y) (Some z) none = (refl, (refl, refl))

has_kind : (setup : Setup) (kind : UnitKind) (o : Option ℕ) → unit_of_kind setup.roles kind ≡ o → is_some o ≡ true
    → HasKind setup kind
has_kind setup kind None found some = absurd (cc)
has_kind setup kind (Some k) found some = record { actor = k; suits = found_suits kind setup.roles k found }

pub each_kind : (setup : Setup) → missing_kind setup.roles ≡ None → HasEachKind setup
each_kind setup none Alu =
    has_kind setup Alu (unit_of_kind setup.roles Alu) refl
    (each_there (unit_of_kind setup.roles Alu) (unit_of_kind setup.roles Mul) (unit_of_kind setup.roles Mem) none).0
each_kind setup none Mul =
    has_kind setup Mul (unit_of_kind setup.roles Mul) refl
    (each_there (unit_of_kind setup.roles Alu) (unit_of_kind setup.roles Mul) (unit_of_kind setup.roles Mem) none).1.0
each_kind setup none Mem =
    has_kind setup Mem (unit_of_kind setup.roles Mem) refl
    (each_there (unit_of_kind setup.roles Alu) (unit_of_kind setup.roles Mul) (unit_of_kind setup.roles Mem) none).1.1

units_by_kind : (setup : Setup) → HasEachKind setup → (all : List Record) → AllByRecursion (HasUnit setup) all
units_by_kind setup kinds [] = tt
units_by_kind setup kinds (r ∷ all) =
    let one = kinds (unit_of_record r) in
    (record { actor = one.actor; suits = one.suits }, units_by_kind setup kinds all)

-- Either way each record has one.
pub units_needed : (setup : Setup) (writable : Bool) (all : List Record) → HasUnits writable setup.roles (reverse all)
    → AllByRecursion (HasUnit setup) all
units_needed setup true all has = units_by_kind setup (each_kind setup has) all
units_needed setup false all has = units_for setup all has
