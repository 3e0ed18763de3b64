-- All that a history says of the parts of a core, as one value. A core agrees with its history
-- where each of its parts is what the picture of the history has for it; `Steps` says what each
-- event changes in it.
use Rattle.std.specs.Prelude.{ℕ, ◌&&◌, nat_lt, Bool, List, Option, Some, None}
use Rattle.rv_instr.specs.declared.op.Op.{Op}
use Rattle.events.specs.{declared.effect.Outcome.Outcome, declared.effect.Record.Record}
use Rattle.events.specs.{declared.event.Event.Event}
use Rattle.smt_model.specs.{declared.config.Status.Status, Setup.Setup, Setup.registers_of}
use Rattle.smt_model.specs.{Fetching.fetch_pc, Fetching.last_fetched, Jobs.job, Account.records}
use Rattle.smt_model.specs.Fates.{Fate, Fetched, fate, fetches, fetching, completion, op_of_fetched}
use Rattle.smt_model.specs.Flights.{in_decode, in_rename, flight, queue, icount}
use Rattle.smt_model.specs.Registers.{phys, mapped, committed, source_register, value, reads}
use Rattle.smt_model.specs.Registers.{operand, is_unclaimed}
use Rattle.smt_model.specs.Memory.{status, output, byte_at, reserved}
use Rattle.smt_model.specs.Touched.{is_touched, looks}

pub record Picture : Type 0 where
  -- of an instruction: what was fetched, its fate, the register it was given, what its completion
  -- said
  pub fetched : ℕ → Option Fetched
  pub fate : ℕ → Fate
  pub phys : ℕ → Option ℕ
  pub completion : ℕ → Option Outcome
  -- of an instruction that was renamed: the physical registers of its sources, what they hold, and
  -- its operands
  pub seen : (Op → ℕ) → ℕ → ℕ
  pub reads : (Op → ℕ) → ℕ → Option ℕ
  pub operand : (Op → ℕ) → ℕ → Option ℕ
  -- of a hart: its latches and active list, its counter, its maps, where it fetches, how it stands
  pub in_decode : ℕ → List ℕ
  pub in_rename : ℕ → List ℕ
  pub flight : ℕ → List ℕ
  pub icount : ℕ → ℕ
  pub mapped : ℕ → ℕ → ℕ
  pub committed : ℕ → ℕ → ℕ
  pub fetch_pc : ℕ → ℕ
  pub status : ℕ → Status
  -- of all harts: the issue queue; of a physical register, whether it is free, and what it holds;
  -- each actor's open job
  pub queue : List ℕ
  pub free : ℕ → Bool
  pub value : ℕ → Option ℕ
  pub job : ℕ → Option ℕ
  -- how many were fetched, which hart last, what has retired and what it put out
  pub fetches : ℕ
  pub last_fetched : Option ℕ
  pub records : List Record
  pub output : List ℕ
  -- the byte at each address, the word that each hart has reserved, the accesses that were touched,
  -- and how many loads looked again
  pub byte : ℕ → ℕ
  pub reserved : ℕ → Option ℕ
  pub touched : ℕ → Bool
  pub looks : ℕ

-- The physical register that instruction s finds for a source.
abbrev pub source_register_in : List Event → (Op → ℕ) → ℕ → Option Fetched → ℕ
source_register_in past which s None = 0
source_register_in past which s (Some f) =
    source_register past f.hart (which (op_of_fetched (Some f))) s

-- A register is free where it is one of the core's and nobody claims it.
abbrev pub is_free : Setup → List Event → ℕ → Bool
is_free setup past p = nat_lt p (registers_of setup) && is_unclaimed setup past p

abbrev pub picture : Setup → List Event → Picture
picture setup past = record {
  fetched = fetching past;
  fate = fate past;
  phys = phys past;
  completion = completion past;
  seen = λ which s. source_register_in past which s (fetching past s);
  reads = λ which s. reads setup which past s;
  operand = λ which s. operand setup which past s;
  in_decode = in_decode past;
  in_rename = in_rename past;
  flight = flight past;
  icount = icount past;
  mapped = mapped past;
  committed = committed past;
  fetch_pc = fetch_pc setup past;
  status = status past;
  queue = queue past;
  free = is_free setup past;
  value = value setup past;
  job = job past;
  fetches = fetches past;
  last_fetched = last_fetched past;
  records = records past;
  output = output past;
  byte = byte_at setup past;
  reserved = reserved past;
  touched = is_touched past;
  looks = looks past;
}
