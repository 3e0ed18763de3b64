-- What is asked of an instruction before it touches memory, and of its effect.
use Rattle.std.specs.Prelude.{◌≡◌, true, false, None}
use Rattle.elf_image.specs.Image.{ProgramImage}
use Rattle.smt_model.specs.Words.{Op, Effect}
use Rattle.smt_model.specs.{Exec.Computed, Nexts.is_last, Faults.fault}

-- An instruction that goes on has no fault.
abbrev pub HasNoFault : ProgramImage → Op → Computed → Type 0
HasNoFault image op c = is_last c.next ≡ false → fault image op c.addr ≡ None

-- What ends or stops its hart writes nothing.
abbrev pub WritesAlone : Effect → Type 0
WritesAlone x = is_last x.next ≡ true → x.write ≡ None
