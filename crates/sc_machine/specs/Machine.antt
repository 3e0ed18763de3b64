-- The plain machine's parts, and when they are the definitions' machine.
use Rattle.std.specs.Prelude.{◌≡◌, ℕ, ◌<◌, List, length, slice_index_or}
use Rattle.shared_memory.specs.Contents.{Contents, byte_of, reserved_of}
use Rattle.smt_model.specs.{Setup.Setup, Plain.Plain}
use Rattle.sc_machine.specs.{Harts.HartAgrees, declared.hart.Hart.Hart}

-- The harts, memory with the image and the reservations, the bytes put out, and how many bytes
-- there is room for.
pub record Machine : Type 0 where
  pub harts : List Hart
  pub memory : Contents
  pub output : List ℕ
  pub room : ℕ

-- The machine is the state s of the definitions' machine.
pub record Agrees (setup : Setup) (s : Plain) (m : Machine) : Type 0 where
  pub image : m.memory.image ≡ setup.image
  pub count : length m.harts ≡ setup.harts
  pub each : (h : ℕ) (d : Hart) → h < length m.harts → HartAgrees s h (slice_index_or m.harts h d)
  pub reserved : (h : ℕ) → reserved_of m.memory h ≡ s.reserved h
  pub bytes : (addr : ℕ) → byte_of m.memory addr ≡ s.bytes addr
  pub output : m.output ≡ s.output

-- It is so of every state with which the machine agrees.
abbrev pub InEachState : Machine → (Setup → Plain → Type 0) → Type 0
InEachState m P = (setup : Setup) (s : Plain) → Agrees setup s m → P setup s
