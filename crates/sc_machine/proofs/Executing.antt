-- What a hart does next on the machine is what it does next in a state with which the machine agrees.
use Rattle.std.proofs.Common.{◌≡◌, ℕ, zero, suc, ◌+◌, ◌<◌, Option, refl, sym, ap, subst, ◌∙◌}
use Rattle.std.specs.Prelude.{slice_index}
use Rattle.elf_image.specs.Image.{word_now}
use Rattle.elf_image.proofs.Words.{word_now-same}
use Rattle.rv_instr.specs.Decode.{op_of_word}
use Rattle.shared_memory.specs.Contents.{byte_of, reserved_of}
use Rattle.smt_model.specs.Words.{Op, Effect, Record}
use Rattle.smt_model.specs.Kinds.{access_size, first_source, second_source}
use Rattle.smt_model.specs.{Exec.Computed, Exec.exec, Setup.Setup, Faults.checked, Faults.computed_on}
use Rattle.smt_model.specs.{Bytes.number_at, Bytes.read, Bytes.read_value, Effects.effect_of, Reservations.holds_word}
use Rattle.smt_model.specs.Plain.{Plain, read_register, word_at_pc, op_at_pc, computes, effect_at}
use Rattle.sc_machine.specs.{Harts.HartAgrees, Machine.Machine, Machine.Agrees, declared.hart.Hart.Hart}
use Rattle.sc_machine.specs.{Here.word_here, Here.op_here, Here.computed_here, Here.effect_here}
use Rattle.sc_machine.specs.{Execution.IsNext, Execution.IsAllowed, Execution.IsExecution}
use Rattle.sc_machine.specs.{declared.execution.Execution.Execution}

number_same : (f g : ℕ → ℕ) → ((a : ℕ) → f a ≡ g a) → (addr n : ℕ) → number_at f addr n ≡ number_at g addr n
number_same f g same addr zero = refl
number_same f g same addr (suc n) = rw (same addr, number_same f g same (addr + 1) n) refl

read_same : (f g : ℕ → ℕ) → ((a : ℕ) → f a ≡ g a) → (op : Op) (addr : ℕ) → read op f addr ≡ read op g addr
read_same f g same op addr = ap (read_value op) (number_same f g same addr (access_size op))

abbrev recorded : ℕ → ℕ → Option ℕ → Effect → Record
recorded h pc word x = record { hart = h; pc = pc; word = word; effect = x }

record_same : (r : Record) (h pc : ℕ) (word : Option ℕ) (x : Effect) → r.hart ≡ h → r.pc ≡ pc → r.word ≡ word
    → r.effect ≡ x → r ≡ recorded h pc word x
record_same r h pc word x of_h at of_word of_x =
    ap (λ z. recorded z r.pc r.word r.effect) of_h ∙ ap (λ z. recorded h z r.word r.effect) at
    ∙ ap (λ z. recorded h pc z r.effect) of_word ∙ ap (recorded h pc word) of_x

module _ (setup : Setup) (s : Plain) (m : Machine) (h : ℕ) (x : Hart) (agrees : Agrees setup s m)
    (is : HartAgrees s h x) where
  pub word_same : word_here m.memory x ≡ word_at_pc setup s h
  word_same =
      ap (λ image. word_now image (byte_of m.memory) x.pc) agrees.image
      ∙ word_now-same setup.image (byte_of m.memory) s.bytes agrees.bytes x.pc
      ∙ ap (word_now setup.image s.bytes) is.pc

  op_same : op_here m.memory x ≡ op_at_pc setup s h
  op_same = ap op_of_word word_same

  computes_same : first_source (op_here m.memory x) < 32 → second_source (op_here m.memory x) < 32
      → computed_here m.memory x (op_here m.memory x) ≡ computes setup s h
  computes_same first second =
      let op = op_here m.memory x in
      let a = slice_index x.registers (first_source op) in
      let b = slice_index x.registers (second_source op) in
      let a' = read_register s h (first_source op) in
      ap (λ image. checked image op (exec op x.pc a b)) agrees.image
      ∙ ap (λ pc. checked setup.image op (exec op pc a b)) is.pc
      ∙ ap (λ n. checked setup.image op (exec op (s.pcs h) n b)) (is.registers (first_source op) first)
      ∙ ap (λ n. checked setup.image op (exec op (s.pcs h) a' n))
      (is.registers (second_source op) second)
      ∙ ap (λ w. computed_on setup (op_of_word w) (s.pcs h) (read_register s h (first_source (op_of_word w)))
      (read_register s h (second_source (op_of_word w)))) word_same

  effect_same : first_source (op_here m.memory x) < 32 → second_source (op_here m.memory x) < 32
      → effect_here m.memory h (op_here m.memory x) (computed_here m.memory x (op_here m.memory x))
      ≡ effect_at setup s h
  effect_same first second =
      let op = op_here m.memory x in
      let c = computed_here m.memory x op in
      let d = computes setup s h in
      ap (λ now. effect_of op c now (holds_word (reserved_of m.memory h) c.addr))
      (read_same (byte_of m.memory) s.bytes agrees.bytes op c.addr)
      ∙ ap (λ held. effect_of op c (read op s.bytes c.addr) (holds_word held c.addr)) (agrees.reserved h)
      ∙ ap (λ (c : Computed). effect_of op c (read op s.bytes c.addr) (holds_word (s.reserved h) c.addr))
      (computes_same first second)
      ∙ ap (λ w. effect_of (op_of_word w) d (read (op_of_word w) s.bytes d.addr) (holds_word (s.reserved h) d.addr))
      word_same

  pub execution_is : (e : Execution) → IsNext m.memory h x e → IsAllowed m.memory e → IsExecution setup s h e
  execution_is e next allowed =
      let first = subst (λ op. first_source op < 32) next.op allowed.first in
      let second = subst (λ op. second_source op < 32) next.op allowed.second in
      record {
        op = next.op ∙ op_same;
        addr = next.addr ∙ ap (λ (c : Computed). c.addr) (computes_same first second);
        said = record_same e.record h (s.pcs h) (word_at_pc setup s h) (effect_at setup s h) next.hart
            (next.pc ∙ is.pc) (next.word ∙ word_same) (next.effect ∙ effect_same first second);
      }
