-- How a kind of unit is called.
use Rattle.std.specs.Prelude.{ℕ, List, codes}
use Rattle.rv_instr.specs.declared.op.UnitKind.{UnitKind}
use Rattle.rv_instr.specs.declared.op.UnitKind.TheVariants.{Alu, Mul, Mem}

abbrev pub name_of : UnitKind → List ℕ
name_of Alu = codes "alu"
name_of Mul = codes "mul"
name_of Mem = codes "mem"
