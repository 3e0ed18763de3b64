-- What is read or written without a fault can be read or written.
use Rattle.std.specs.Prelude.{◌≡◌, ℕ, ◌==◌, ◌%◌, Bool, true, false, not, ◌||◌, if◌then◌else◌, Option, Some, None}
use Rattle.std.proofs.Common.{refl, arith}
use Rattle.elf_image.specs.Image.{ProgramImage, in_ram}
use Rattle.rv_instr.specs.declared.op.Op.{Op}
use Rattle.rv_execute.specs.Access.{reads_memory}
use Rattle.smt_model.specs.Faults.{read_fault, write_fault, touches_fixed_code, fault_of, fault}
use Rattle.smt_model.specs.Kinds.{Kind, Computing, Loading, Storing, Reserving, Conditional, Atomic, kind_of}
use Rattle.smt_model.specs.Kinds.{access_size}

read_by : Bool → Bool → Option ℕ
read_by aligned inside = if not aligned then Some 4 else (if not inside then Some 5 else None)

write_by : Bool → Bool → Bool → Option ℕ
write_by aligned inside code = if not aligned then Some 6 else (if not inside || code then Some 7 else None)

reads_where_writes : (aligned inside code : Bool) → write_by aligned inside code ≡ None → read_by aligned inside ≡ None
unfolding read_by write_by
reads_where_writes true true code none = refl
reads_where_writes true false code none = absurd (grind arith)
reads_where_writes false inside code none = absurd (grind arith)

write_then_read : (image : ProgramImage) (addr n : ℕ) → write_fault image addr n ≡ None → read_fault image addr n ≡ None
unfolding read_by write_by
write_then_read image addr n none =
    reads_where_writes (addr % n == 0) (in_ram image addr n) (touches_fixed_code image addr n) none

kind_reads : (kind : Kind) (image : ProgramImage) (addr n : ℕ) → reads_memory kind ≡ true
    → fault_of kind image addr n ≡ None
    → read_fault image addr n ≡ None
kind_reads Computing image addr n reads none = absurd (grind arith)
kind_reads Loading image addr n reads none = none
kind_reads Storing image addr n reads none = absurd (grind arith)
kind_reads Reserving image addr n reads none = none
kind_reads Conditional image addr n reads none = absurd (grind arith)
kind_reads Atomic image addr n reads none = write_then_read image addr n none

pub can_read : (image : ProgramImage) (op : Op) (addr : ℕ) → reads_memory (kind_of op) ≡ true
    → fault image op addr ≡ None
    → read_fault image addr (access_size op) ≡ None
unfolding fault
can_read image op addr reads none = kind_reads (kind_of op) image addr (access_size op) reads none
