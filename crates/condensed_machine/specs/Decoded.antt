-- What the numbers of a state stand for.
use Rattle.std.specs.Prelude.{◌≡◌, ℕ, ◌<◌, ◌≤◌, ◌&&◌, false, None, nat_lt, if◌then◌else◌, List, [], map, length}
use Rattle.std.specs.Prelude.{slice_index, slice_index_or}
use Rattle.numbers.specs.Sizes.{most_harts}
use Rattle.smt_model.specs.{Plain.Plain, Setup.first_number, declared.config.Status.Status}
use Rattle.smt_model.specs.{declared.config.Status.TheVariants.Going}
use Rattle.outcome_laws.specs.Live.{reservation_matters}
use Rattle.condensed_machine.specs.Machine.{keeps_at}
use Rattle.sc_machine.specs.declared.hart.Hart.{Hart}
use Rattle.changed_memory.specs.Shared.{Shared, byte_at, reserved_at}
use Rattle.condensed_machine.specs.Machine.{Machine, Program}
use Rattle.condensed_machine.specs.Numbering.{numbers_in, near_harts}
use Rattle.condensed_machine.specs.declared.state.State.{State}

-- The parts of a state: each hart, and what they share.
pub record Decoded : Type 0 where
  pub harts : List Hart
  pub shared : Shared

-- What stands for a hart or for shared parts where there are none.
abbrev pub no_hart : Hart
no_hart = record { registers = []; pc = 0; status = Going }

abbrev pub no_shared : Shared
no_shared = record { changes = []; reserved = []; output = [] }

-- The hart with a number, and the shared parts with one.
abbrev pub hart_at : List Hart → ℕ → Hart
hart_at harts n = slice_index_or harts n no_hart

abbrev pub shared_at : List Shared → ℕ → Shared
shared_at shared n = slice_index_or shared n no_shared

-- The numbers of a state's harts.
abbrev pub numbers_of : Machine → State → List ℕ
numbers_of m s = numbers_in m.far_harts s

abbrev pub decoded : Machine → State → Decoded
decoded m s = record {
  harts = map (hart_at m.hart_states) (numbers_of m s);
  shared = shared_at m.shared_states s.shared;
}

-- Hart h of a state.
abbrev pub hart_in : Machine → State → ℕ → Hart
hart_in m s h = hart_at (decoded m s).harts h

-- What hart h has, which is x where it is there. One that isn't there stands as at the start, and so does a
-- register that isn't there.
abbrev pub register_of : Program → ℕ → Hart → ℕ → ℕ
register_of p h x r =
    if nat_lt h p.harts && nat_lt r 32 then slice_index x.registers r else first_number p.harts h r

abbrev pub pc_of : Program → ℕ → Hart → ℕ
pc_of p h x = if nat_lt h p.harts then x.pc else p.image.entry

abbrev pub status_of : Program → ℕ → Hart → Status
status_of p h x = if nat_lt h p.harts then x.status else Going

-- The state of the definitions' machine that these parts are.
abbrev pub full : Program → Decoded → Plain
full p d = record {
  registers = λ h r. register_of p h (hart_at d.harts h) r;
  pcs = λ h. pc_of p h (hart_at d.harts h);
  statuses = λ h. status_of p h (hart_at d.harts h);
  reserved = reserved_at d.shared;
  bytes = byte_at p.image d.shared;
  output = d.shared.output;
}

-- The state of the definitions' machine that a state is.
abbrev pub state_of : Machine → State → Plain
state_of m s = full m.program (decoded m s)

-- A reservation that isn't kept isn't there.
abbrev pub AreDropped : Program → Decoded → Type 0
AreDropped p d = (h : ℕ) → reservation_matters (keeps_at p) (full p d) h ≡ false → reserved_at d.shared h ≡ None

-- Each number of a state is that of something that was found; that of a hart that isn't there is 0. No
-- reservation is there that isn't kept.
pub record Knows (m : Machine) (s : State) : Type 0 where
  pub near : length s.near ≡ near_harts
  pub room : length (numbers_of m s) ≡ most_harts
  pub harts : (h : ℕ) → h < length (numbers_of m s) → slice_index (numbers_of m s) h < length m.hart_states
  pub absent : (h : ℕ) → m.program.harts ≤ h → slice_index (numbers_of m s) h ≡ 0
  pub far : s.far < length m.far_harts
  pub shared : s.shared < length m.shared_states
  pub dropped : AreDropped m.program (decoded m s)
