-- The fields of a completion. One that ends or stops its hart says nothing else. A register's
-- number is there only for an instruction that writes a register; that of a load is its first look,
-- that of LR, SC and AMO isn't known yet.
use Rattle.std.specs.Prelude.{ℕ, Bool, true, false, if◌then◌else◌, Option, Some, None}
use Rattle.smt_model.specs.{Words.Op, Words.Next, Words.Outcome, Exec.Computed, Nexts.is_last}
use Rattle.smt_model.specs.Kinds.{Kind, Computing, Loading, Reserving, kind_of, writes_register}

abbrev pub given : Bool → ℕ → Option ℕ
given true n = Some n
given false n = None

-- One that says no more than what comes next.
abbrev pub last_outcome : Next → Outcome
last_outcome next = record { value = None; next = next; addr = None; datum = None; out = None }

abbrev pub outcome_by : Kind → Bool → Computed → Option ℕ → Outcome
outcome_by Computing writes c look =
    record (last_outcome c.next) { value = given writes c.value; out = c.out }
outcome_by Loading writes c look =
    record (last_outcome c.next) { value = if writes then look else None; addr = Some c.addr }
outcome_by Reserving writes c look = record (last_outcome c.next) { addr = Some c.addr }
outcome_by _ writes c look =
    record (last_outcome c.next) { addr = Some c.addr; datum = Some c.datum }

-- With the number that a load's first look gives. What a unit hands back is the same with no look
-- and no faults.
abbrev pub outcome_of : Op → Computed → Option ℕ → Outcome
outcome_of op c look =
    if is_last c.next then last_outcome c.next
    else outcome_by (kind_of op) (writes_register op) c look
