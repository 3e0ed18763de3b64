-- The plain machine: harts that execute one whole instruction at a time on one memory. A run of it
-- in some order of harts is a sequentially consistent execution. [Lamport 1979, "How to Make a
-- Multiprocessor Computer That Correctly Executes Multiprocess Programs": one order of all
-- operations, those of each processor in its program's order]
use Rattle.std.specs.Prelude.{ℕ, Bool, true, false, ◌==◌, ◌&&◌, nat_lt, if◌then◌else◌, List, []}
use Rattle.std.specs.Prelude.{◌∷◌, ◌++◌, Option, Some, None}
use Rattle.events.specs.declared.effect.Next.TheVariants as next
use Rattle.smt_model.specs.Words.{byte_in, word_now, op_of_word, Op, Next, Effect, Record}
use Rattle.smt_model.specs.{declared.config.Status.Status, declared.config.Status.TheVariants.Going}
use Rattle.smt_model.specs.{declared.config.Status.TheVariants.Ended}
use Rattle.smt_model.specs.{declared.config.Status.TheVariants.Stopped, Setup.Setup}
use Rattle.smt_model.specs.{Setup.first_number, Kinds.destination, Kinds.first_source}
use Rattle.smt_model.specs.{Kinds.second_source, Exec.Computed, Nexts.pc_after, Faults.computed_on}
use Rattle.smt_model.specs.{Bytes.read, Bytes.byte_after, Reservations.holds_word}
use Rattle.smt_model.specs.{Reservations.reservation_after, Effects.effect_of}

-- Of each hart its registers, pc, status and reservation; one memory, a byte for each address; one
-- output.
pub record Plain : Type 0 where
  pub registers : ℕ → ℕ → ℕ
  pub pcs : ℕ → ℕ
  pub statuses : ℕ → Status
  pub reserved : ℕ → Option ℕ
  pub bytes : ℕ → ℕ
  pub output : List ℕ

-- Every hart is at the entry, with its first numbers; memory is the image.
abbrev pub start : Setup → Plain
start setup = record {
  registers = first_number setup.harts;
  pcs = λ h. setup.image.entry;
  statuses = λ h. Going;
  reserved = λ h. None;
  bytes = byte_in setup.image;
  output = [];
}

abbrev pub is_going_status : Status → Bool
is_going_status Going = true
is_going_status _ = false

-- x0 reads as 0.
abbrev pub read_register : Plain → ℕ → ℕ → ℕ
read_register s h r = if r == 0 then 0 else s.registers h r

-- What hart h finds at its pc in memory as it stands, and what that computes.
abbrev pub word_at_pc : Setup → Plain → ℕ → Option ℕ
word_at_pc setup s h = word_now setup.image s.bytes (s.pcs h)

abbrev pub op_at_pc : Setup → Plain → ℕ → Op
op_at_pc setup s h = op_of_word (word_at_pc setup s h)

abbrev pub computes : Setup → Plain → ℕ → Computed
computes setup s h =
    let op = op_at_pc setup s h in
    computed_on setup op (s.pcs h) (read_register s h (first_source op))
    (read_register s h (second_source op))

-- Its effect on the machine as it stands.
abbrev pub effect_at : Setup → Plain → ℕ → Effect
effect_at setup s h =
    let op = op_at_pc setup s h in
    let c = computes setup s h in
    effect_of op c (read op s.bytes c.addr) (holds_word (s.reserved h) c.addr)

abbrev pub record_at : Setup → Plain → ℕ → Record
record_at setup s h =
    record { hart = h; pc = s.pcs h; word = word_at_pc setup s h; effect = effect_at setup s h }

-- What an effect changes.

abbrev pub register_after : Option ℕ → ℕ → ℕ
register_after None before = before
register_after (Some n) before = n

abbrev pub status_after : Next → Status → Status
status_after (next.Pc _) before = before
status_after (next.Ended n) before = Ended n
status_after (next.Stopped cause) before = Stopped cause

abbrev pub output_after : Option ℕ → List ℕ → List ℕ
output_after None before = before
output_after (Some byte) before = before ++ byte ∷ []

-- The machine after hart h's instruction `op`, which touched `addr` and had effect x.
abbrev pub after : Plain → ℕ → Op → ℕ → Effect → Plain
after s h op addr x = record {
  registers = λ g r.
      if (g == h) && (r == destination op) then register_after x.value (s.registers g r)
      else s.registers g r;
  pcs = λ g. if g == h then pc_after x.next (s.pcs g) else s.pcs g;
  statuses = λ g. if g == h then status_after x.next (s.statuses g) else s.statuses g;
  reserved = λ g. reservation_after op addr x (g == h) (s.reserved g);
  bytes = λ a. byte_after x.write a (s.bytes a);
  output = output_after x.out s.output;
}

-- A run: the records so far, the newest first, and the machine.
pub record Run : Type 0 where
  pub records : List Record
  pub state : Plain

-- One instruction of hart h.
abbrev pub advance : Setup → ℕ → Run → Run
advance setup h before =
    let s = before.state in
    record {
      records = record_at setup s h ∷ before.records;
      state = after s h (op_at_pc setup s h) (computes setup s h).addr (effect_at setup s h);
    }

-- Undefined for a hart that isn't there or isn't going.
abbrev pub step : Setup → ℕ → Option Run → Option Run
step setup h None = None
step setup h (Some before) =
    if nat_lt h setup.harts && is_going_status (before.state.statuses h)
    then Some (advance setup h before)
    else None

-- The run in an order of harts, the newest first.
abbrev pub run : Setup → List ℕ → Option Run
run setup [] = Some (record { records = []; state = start setup })
run setup (h ∷ order) = step setup h (run setup order)
