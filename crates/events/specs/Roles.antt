-- Which roles of actors are units, and how roles are spelled, in a configuration and in a trace. (This
-- project's own choice.)
use Rattle.std.specs.Prelude.{ℕ, List, [], ◌∷◌, Option, Some, None, filter, slice_get, codes}
use Rattle.std.specs.Str.{bytes_eq}
use Rattle.events.specs.declared.role.Role.{Role}
use Rattle.events.specs.declared.role.Role.TheVariants.{Fetch, Front, Retire, Alu, Mul, Mem}
use Rattle.rv_instr.specs.declared.op.UnitKind.{UnitKind}
use Rattle.rv_instr.specs.declared.op.UnitKind.TheVariants as unit

-- The kind of unit that an actor of this role is, where it is one.
abbrev pub unit_of_role : Role → Option UnitKind
unit_of_role Alu = Some unit.Alu
unit_of_role Mul = Some unit.Mul
unit_of_role Mem = Some unit.Mem
unit_of_role _ = None

abbrev pub every_role : List Role
every_role = Fetch ∷ Front ∷ Retire ∷ Alu ∷ Mul ∷ Mem ∷ []

abbrev pub role_name : Role → List ℕ
role_name Fetch = codes "fetch"
role_name Front = codes "front"
role_name Retire = codes "retire"
role_name Alu = codes "alu"
role_name Mul = codes "mul"
role_name Mem = codes "mem"

-- the role of this name
abbrev pub role_of_name : List ℕ → Option Role
role_of_name name = slice_get (filter (λ role. bytes_eq name (role_name role)) every_role) 0
