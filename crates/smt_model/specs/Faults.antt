-- The faults of an access. Misaligned is decided before outside. [this project's own choice]
use Rattle.std.specs.Prelude.{ℕ, ◌%◌, Bool, not, ◌==◌, ◌&&◌, ◌||◌, if◌then◌else◌, Option, Some, None}
use Rattle.std.specs.Prelude.{option_map, unwrap_or}
use Rattle.smt_model.specs.Words.{Op, ProgramImage, in_ram, touches_code, code_writable, Stopped}
use Rattle.smt_model.specs.{Setup.Setup, Exec.Computed, Exec.exec, Nexts.is_last}
use Rattle.smt_model.specs.Kinds.{Kind, Computing, Loading, Reserving, kind_of, access_size}

-- The cause for a read of n bytes: 4 misaligned, 5 outside RAM.
abbrev pub read_fault : ProgramImage → ℕ → ℕ → Option ℕ
read_fault image addr n =
    if not (addr % n == 0) then Some 4 else (if not (in_ram image addr n) then Some 5 else None)

-- Some of the n bytes is part of code that may not be written.
abbrev pub touches_fixed_code : ProgramImage → ℕ → ℕ → Bool
touches_fixed_code image addr n = not (code_writable image) && touches_code image addr n

-- The cause for a write of n bytes: 6 misaligned, 7 outside RAM or into code that may not be
-- written.
abbrev pub write_fault : ProgramImage → ℕ → ℕ → Option ℕ
write_fault image addr n =
    if not (addr % n == 0) then Some 6
    else (if not (in_ram image addr n) || touches_fixed_code image addr n then Some 7 else None)

abbrev pub fault_of : Kind → ProgramImage → ℕ → ℕ → Option ℕ
fault_of Computing image addr n = None
fault_of Loading image addr n = read_fault image addr n
fault_of Reserving image addr n = read_fault image addr n
fault_of _ image addr n = write_fault image addr n

-- The access of an instruction, where there is one, faults for this cause.
unfoldable pub fault : ProgramImage → Op → ℕ → Option ℕ
fault image op addr = fault_of (kind_of op) image addr (access_size op)

-- What is computed, with the faults of the access: one that goes on stops where its access faults.
unfoldable pub checked : ProgramImage → Op → Computed → Computed
checked image op c =
    if is_last c.next then c
    else record c { next = unwrap_or (option_map Stopped (fault image op c.addr)) c.next }

-- What a core computes of an instruction at a pc, with the numbers of its first and second source.
abbrev pub computed_on : Setup → Op → ℕ → ℕ → ℕ → Computed
computed_on setup op pc a b = checked setup.image op (exec op pc a b)
