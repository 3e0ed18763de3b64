-- What an instruction of a hart does, told of the machine's own parts.
use Rattle.std.specs.Prelude.{ℕ, Option, slice_index}
use Rattle.elf_image.specs.Image.{word_now}
use Rattle.rv_instr.specs.Decode.{op_of_word}
use Rattle.shared_memory.specs.Contents.{Contents, byte_of, reserved_of}
use Rattle.smt_model.specs.Words.{Op, Effect}
use Rattle.smt_model.specs.Kinds.{first_source, second_source}
use Rattle.smt_model.specs.{Exec.Computed, Exec.exec, Faults.checked, Bytes.read}
use Rattle.smt_model.specs.{Reservations.holds_word, Effects.effect_of}
use Rattle.sc_machine.specs.declared.hart.Hart.{Hart}

-- The word that memory has at the hart's pc, and what it is.
abbrev pub word_here : Contents → Hart → Option ℕ
word_here m x = word_now m.image (byte_of m) x.pc

abbrev pub op_here : Contents → Hart → Op
op_here m x = op_of_word (word_here m x)

-- What an instruction computes of the hart's registers, with the faults of its access.
abbrev pub computed_here : Contents → Hart → Op → Computed
computed_here m x op =
    checked m.image op (exec op x.pc (slice_index x.registers (first_source op))
    (slice_index x.registers (second_source op)))

-- The effect of hart h's instruction on memory as it stands.
abbrev pub effect_here : Contents → ℕ → Op → Computed → Effect
effect_here m h op c =
    effect_of op c (read op (byte_of m) c.addr) (holds_word (reserved_of m h) c.addr)
