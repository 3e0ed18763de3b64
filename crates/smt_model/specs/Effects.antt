-- The fields of a retirement: what is read from memory and reservations now.
use Rattle.std.specs.Prelude.{ℕ, Bool, if◌then◌else◌, Some, None}
use Rattle.rv_word.specs.Word.{atomic_result_of}
use Rattle.smt_model.specs.Words.{Op, Known, Amo, Next, Effect}
use Rattle.smt_model.specs.Kinds.{Kind, Computing, Loading, Storing, Reserving, Conditional, Atomic}
use Rattle.smt_model.specs.Kinds.{kind_of, access_size, writes_register}
use Rattle.smt_model.specs.{Exec.Computed, Nexts.is_last, Bytes.write_of, Outcomes.given}

-- One that says no more than what comes next.
abbrev pub last_effect : Next → Effect
last_effect next = record { value = None; next = next; write = None; out = None }

-- The word that an AMO writes.
abbrev pub atomic_result : Op → ℕ → ℕ → ℕ
atomic_result (Known (Amo kind _ _ _ _)) old operand = atomic_result_of kind old operand
atomic_result _ old operand = operand

-- `now` is the number that the access reads, `held` tells whether the hart's reservation is on this
-- word.
abbrev pub effect_by : Kind → Op → Bool → Computed → ℕ → Bool → Effect
effect_by Computing op writes c now held =
    record (last_effect c.next) { value = given writes c.value; out = c.out }
effect_by Loading op writes c now held = record (last_effect c.next) { value = given writes now }
effect_by Storing op writes c now held =
    record (last_effect c.next) { write = Some (write_of c.addr (access_size op) c.datum) }
effect_by Reserving op writes c now held = record (last_effect c.next) { value = given writes now }
effect_by Conditional op writes c now held =
    record (last_effect c.next) {
      value = given writes (if held then 0 else 1);
      write = if held then Some (write_of c.addr 4 c.datum) else None;
    }
effect_by Atomic op writes c now held =
    record (last_effect c.next) {
      value = given writes now;
      write = Some (write_of c.addr 4 (atomic_result op now c.datum));
    }

abbrev pub effect_of : Op → Computed → ℕ → Bool → Effect
effect_of op c now held =
    if is_last c.next then last_effect c.next
    else effect_by (kind_of op) op (writes_register op) c now held
