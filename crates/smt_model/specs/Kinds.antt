-- What an instruction is for the pipeline, as `rv_instr` says it, and how many bytes its access
-- moves.
use Rattle.std.specs.Prelude.{ℕ}
pub use Rattle.rv_instr.specs.declared.kind.Kind.{Kind}
pub use Rattle.rv_instr.specs.declared.kind.Kind.TheVariants.{Computing, Loading, Storing}
pub use Rattle.rv_instr.specs.declared.kind.Kind.TheVariants.{Reserving, Conditional, Atomic}
pub use Rattle.rv_instr.specs.Kinds.{kind_of_instr, is_loading, is_storing, touches_memory}
pub use Rattle.rv_instr.specs.Kinds.{writes_register}
unfoldable pub use Rattle.rv_instr.specs.Kinds.{kind_of, destination, first_source, second_source}
pub use Rattle.rv_instr.specs.Registers.{same_unit}
use Rattle.rv_instr.specs.{declared.op.Op.Op, declared.op.Op.TheVariants.Known}
use Rattle.rv_instr.specs.{declared.op.Op.TheVariants.Illegal, declared.op.Op.TheVariants.NoWord}
use Rattle.rv_instr.specs.{declared.instr.Instr.Instr, declared.instr.LoadOp.LoadOp}
use Rattle.rv_instr.specs.{declared.instr.StoreOp.StoreOp, declared.instr.StoreOp.TheVariants.Sb}
use Rattle.rv_instr.specs.{declared.instr.StoreOp.TheVariants.Sh}
use Rattle.rv_instr.specs.{declared.instr.StoreOp.TheVariants.Sw}
use Rattle.rv_instr.specs.declared.instr.Instr.TheVariants as instr
use Rattle.rv_instr.specs.declared.instr.LoadOp.TheVariants.{Lb, Lh, Lw, Lbu, Lhu}

-- How many bytes a load or store moves; all atomics move a word.
abbrev pub load_size : LoadOp → ℕ
load_size Lb = 1
load_size Lh = 2
load_size Lw = 4
load_size Lbu = 1
load_size Lhu = 2

abbrev pub store_size : StoreOp → ℕ
store_size Sb = 1
store_size Sh = 2
store_size Sw = 4

abbrev pub size_of_instr : Instr → ℕ
size_of_instr (instr.Load op _ _ _) = load_size op
size_of_instr (instr.Store op _ _ _) = store_size op
size_of_instr _ = 4

unfoldable pub access_size : Op → ℕ
access_size (Known i) = size_of_instr i
access_size Illegal = 4
access_size NoWord = 4
