-- No instruction writes more than a word: by what it may be, and then along the records.
use Rattle.std.specs.Prelude.{ℕ, ◌≤◌, Bool, true, false, List, [], ◌∷◌, reverse, All}
use Rattle.std.proofs.Common.{sym, subst, inl, inr, arith}
use Rattle.std.proofs.{lemmas.Bool.cases_Bool, lemmas.List.reverse-append, lemmas.List.Elements.All-nil}
use Rattle.std.proofs.{lemmas.List.Elements.All-push}
use Rattle.rv_instr.specs.{declared.op.Op.Op, declared.op.Op.TheVariants.Known, declared.op.Op.TheVariants.Illegal}
use Rattle.rv_instr.specs.{declared.op.Op.TheVariants.NoWord, declared.instr.LoadOp.LoadOp}
use Rattle.rv_instr.specs.{declared.instr.StoreOp.StoreOp, declared.instr.StoreOp.TheVariants.Sb}
use Rattle.rv_instr.specs.{declared.instr.StoreOp.TheVariants.Sh, declared.instr.StoreOp.TheVariants.Sw}
use Rattle.rv_instr.specs.declared.instr.Instr.TheVariants as instr
use Rattle.rv_instr.specs.declared.instr.LoadOp.TheVariants.{Lb, Lh, Lw, Lbu, Lhu}
use Rattle.events.specs.{declared.effect.Effect.Effect, declared.effect.Record.Record}
use Rattle.smt_model.specs.{Setup.Setup, Exec.Computed, Nexts.is_last, Effects.effect_by, Effects.effect_of, Bytes.read}
use Rattle.smt_model.specs.{Reservations.holds_word, Account.records}
use Rattle.smt_model.specs.Kinds.{Kind, Computing, Loading, Storing, Reserving, Conditional, Atomic, kind_of}
use Rattle.smt_model.specs.Kinds.{writes_register, access_size, load_size, store_size}
use Rattle.smt_laws.specs.Execution.{op_of_record, byte_by, computed_by, reserved_by, IsExecution}
use Rattle.smt_laws.specs.Writes.{bytes_of, WritesAWord, WritesAtMostAWord}
use Rattle.smt_laws.proofs.Executions.{retires_an_execution}

loads_a_word : (op : LoadOp) → load_size op ≤ 4
loads_a_word Lb = omega arith
loads_a_word Lh = omega arith
loads_a_word Lw = omega arith
loads_a_word Lbu = omega arith
loads_a_word Lhu = omega arith

stores_a_word : (op : StoreOp) → store_size op ≤ 4
stores_a_word Sb = omega arith
stores_a_word Sh = omega arith
stores_a_word Sw = omega arith

touches_a_word : (op : Op) → access_size op ≤ 4
unfolding access_size
touches_a_word (Known (instr.Load op rd rs1 offset)) = loads_a_word op
touches_a_word (Known (instr.Store op rs2 rs1 offset)) = stores_a_word op
touches_a_word (Known (instr.Lui _ _)) = omega arith
touches_a_word (Known (instr.Auipc _ _)) = omega arith
touches_a_word (Known (instr.Jal _ _)) = omega arith
touches_a_word (Known (instr.Jalr _ _ _)) = omega arith
touches_a_word (Known (instr.Branch _ _ _ _)) = omega arith
touches_a_word (Known (instr.Immediate _ _ _ _)) = omega arith
touches_a_word (Known (instr.Shift _ _ _ _)) = omega arith
touches_a_word (Known (instr.Register _ _ _ _)) = omega arith
touches_a_word (Known (instr.MulDiv _ _ _ _)) = omega arith
touches_a_word (Known instr.Fence) = omega arith
touches_a_word (Known instr.InstructionFence) = omega arith
touches_a_word (Known instr.Ecall) = omega arith
touches_a_word (Known instr.Ebreak) = omega arith
touches_a_word (Known (instr.LoadReserved _ _ _)) = omega arith
touches_a_word (Known (instr.StoreConditional _ _ _ _)) = omega arith
touches_a_word (Known (instr.Amo _ _ _ _ _)) = omega arith
touches_a_word Illegal = omega arith
touches_a_word NoWord = omega arith

abbrev IsShort : Effect → Type 0
IsShort x = bytes_of x.write ≤ 4

kind_short : (kind : Kind) (op : Op) (writes : Bool) (c : Computed) (now : ℕ) (held : Bool)
    → IsShort (effect_by kind op writes c now held)
kind_short Computing op writes c now held = omega arith
kind_short Loading op writes c now held = omega arith
kind_short Storing op writes c now held = touches_a_word op
kind_short Reserving op writes c now held = omega arith
kind_short Conditional op writes c now true = omega arith
kind_short Conditional op writes c now false = omega arith
kind_short Atomic op writes c now held = omega arith

effect_short : (op : Op) (c : Computed) (now : ℕ) (held : Bool) → IsShort (effect_of op c now held)
effect_short op c now held = elim (cases_Bool (is_last c.next)) [
  | inl t ↦ rw t (omega arith)
  | inr f ↦ rw f (kind_short (kind_of op) op (writes_register op) c now held)
]

executions_short : (setup : Setup) (rs : List Record) → IsExecution setup rs → All WritesAWord (reverse rs)
executions_short setup [] is = All-nil WritesAWord
executions_short setup (r ∷ older) is =
    let op = op_of_record r in
    let c = computed_by setup older r in
    let one : WritesAWord r =
    subst IsShort (sym is.0.effect)
    (effect_short op c (read op (byte_by setup older) c.addr)
    (holds_word (reserved_by setup older r.hart) c.addr)) in
    subst (All WritesAWord) (sym (reverse-append (r ∷ []) older))
    (All-push WritesAWord (reverse older) r (executions_short setup older is.1) one)

pub writes_at_most_a_word : WritesAtMostAWord
writes_at_most_a_word setup past legal = executions_short setup (records past) (retires_an_execution setup past legal)
