-- What a story tells of a step is what its record says.
use Rattle.std.proofs.Common.{◌≡◌, ℕ, Bool, true, false, Option, Some, None, refl}
use Rattle.std.specs.Prelude.{option_map, if◌then◌else◌, IfSome}
use Rattle.events.specs.declared.effect.Next.TheVariants as next
use Rattle.rv_instr.specs.{declared.op.Op.TheVariants.Illegal}
use Rattle.rv_instr.specs.declared.instr.Instr.TheVariants as instr
use Rattle.smt_model.specs.Words.{Op, Known, NoWord, Instr, Next, Effect}
use Rattle.smt_model.specs.Kinds.{kind_of, kind_of_instr, access_size, writes_register}
use Rattle.smt_model.specs.{Exec.Computed, Bytes.load_value, Bytes.read_value, Bytes.read_value_of}
use Rattle.smt_model.specs.{Bytes.number_at}
use Rattle.smt_model.specs.{Effects.effect_by, Effects.effect_of, Effects.last_effect, Outcomes.given}
use Rattle.smt_model.specs.{Setup.Setup, Plain.Plain, Plain.op_at_pc, Plain.computes, Reservations.holds_word}
use Rattle.stories.specs.{Deeds.deed_before, Deeds.deed_by, Deeds.deed_of_instr, Deeds.deed_of_op}
use Rattle.stories.specs.Laws.{IsAsRecorded, TellsRecords}
use Rattle.stories.specs.declared.deed.Deed.TheVariants as deed

-- What is computed, by its fields.
abbrev computed : ℕ → Next → ℕ → ℕ → Option ℕ → Computed
computed value after addr datum out = record { value = value; next = after; addr = addr; datum = datum; out = out }

-- A number that a register may have.
value_is : (writes : Bool) (n : ℕ) → IfSome (given writes n) (λ value. value ≡ n)
value_is true n = refl
value_is false n = tt

-- An instruction that shows a byte, or nothing.
put_is : (writes : Bool) (value pc : ℕ) (out : Option ℕ)
    → IsAsRecorded (option_map deed.Out out)
    (record (last_effect (next.Pc pc)) { value = given writes value; out = out })
put_is writes value pc None = record { write = refl; out = refl; last = refl; value = tt }
put_is writes value pc (Some byte) = record { write = refl; out = refl; last = refl; value = tt }

-- The effect of an instruction that goes on, and what it shows.
abbrev going : Instr → Bool → ℕ → ℕ → ℕ → ℕ → Option ℕ → ℕ → Bool → Effect
going i writes value pc addr datum out n held =
    effect_by (kind_of_instr i) (Known i) writes (computed value (next.Pc pc) addr datum out) (read_value_of i n) held

abbrev ShowsEffect : Instr → ℕ → ℕ → Effect → Type 0
ShowsEffect i addr n x = IsAsRecorded (deed_before x.next (deed_of_instr i addr n x)) x

shows : (i : Instr) (writes : Bool) (value pc addr datum : ℕ) (out : Option ℕ) (n : ℕ) (held : Bool)
    → ShowsEffect i addr n (going i writes value pc addr datum out n held)
unfolding access_size
shows (instr.Lui _ _) writes value pc addr datum out n held = put_is writes value pc out
shows (instr.Auipc _ _) writes value pc addr datum out n held = put_is writes value pc out
shows (instr.Jal _ _) writes value pc addr datum out n held = put_is writes value pc out
shows (instr.Jalr _ _ _) writes value pc addr datum out n held = put_is writes value pc out
shows (instr.Branch _ _ _ _) writes value pc addr datum out n held = put_is writes value pc out
shows (instr.Immediate _ _ _ _) writes value pc addr datum out n held = put_is writes value pc out
shows (instr.Shift _ _ _ _) writes value pc addr datum out n held = put_is writes value pc out
shows (instr.Register _ _ _ _) writes value pc addr datum out n held = put_is writes value pc out
shows (instr.MulDiv _ _ _ _) writes value pc addr datum out n held = put_is writes value pc out
shows instr.Fence writes value pc addr datum out n held = put_is writes value pc out
shows instr.InstructionFence writes value pc addr datum out n held = put_is writes value pc out
shows instr.Ecall writes value pc addr datum out n held = put_is writes value pc out
shows instr.Ebreak writes value pc addr datum out n held = put_is writes value pc out
shows (instr.Load op rd rs1 offset) writes value pc addr datum out n held =
    record { write = refl; out = refl; last = refl; value = value_is writes (load_value op n) }
shows (instr.Store op rs2 rs1 offset) writes value pc addr datum out n held =
    record { write = refl; out = refl; last = refl; value = tt }
shows (instr.LoadReserved rd rs1 ordering) writes value pc addr datum out n held =
    record { write = refl; out = refl; last = refl; value = value_is writes n }
shows (instr.StoreConditional rd rs1 rs2 ordering) writes value pc addr datum out n true =
    record { write = refl; out = refl; last = refl; value = value_is writes 0 }
shows (instr.StoreConditional rd rs1 rs2 ordering) writes value pc addr datum out n false =
    record { write = refl; out = refl; last = refl; value = value_is writes 1 }
shows (instr.Amo kind rd rs1 rs2 ordering) writes value pc addr datum out n held =
    record { write = refl; out = refl; last = refl; value = value_is writes n }

-- So it is of what is found at a pc, whatever comes next.
shows_op : (op : Op) (writes : Bool) (value pc addr datum : ℕ) (out : Option ℕ) (n : ℕ) (held : Bool)
    → let x = effect_by (kind_of op) op writes (computed value (next.Pc pc) addr datum out) (read_value op n) held in
    IsAsRecorded (deed_by op addr n x) x
unfolding kind_of deed_of_op read_value
shows_op (Known i) writes value pc addr datum out n held = shows i writes value pc addr datum out n held
shows_op Illegal writes value pc addr datum out n held = put_is writes value pc out
shows_op NoWord writes value pc addr datum out n held = put_is writes value pc out

shows_next : (op : Op) (after : Next) (value addr datum : ℕ) (out : Option ℕ) (n : ℕ) (held : Bool)
    → let x = effect_of op (computed value after addr datum out) (read_value op n) held in
    IsAsRecorded (deed_by op addr n x) x
shows_next op (next.Pc pc) value addr datum out n held =
    shows_op op (writes_register op) value pc addr datum out n held
shows_next op (next.Ended number) value addr datum out n held =
    record { write = refl; out = refl; last = refl; value = tt }
shows_next op (next.Stopped cause) value addr datum out n held =
    record { write = refl; out = refl; last = refl; value = tt }

pub tells : TellsRecords
tells setup s h =
    let op = op_at_pc setup s h in
    let c = computes setup s h in
    shows_next op c.next c.value c.addr c.datum c.out (number_at s.bytes c.addr (access_size op))
    (holds_word (s.reserved h) c.addr)
