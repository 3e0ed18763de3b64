-- The loads and stores of each hart that are in flight: those of its active list, in order, and of
-- each load its first look, with whether a write has touched it since. And memory: the bytes and
-- reservations of a picture.
use Rattle.std.specs.Prelude.{◌≡◌, ℕ, ◌<◌, ◌≤◌, Bool, List, map, filter, length, Option, None}
use Rattle.std.specs.Prelude.{is_some, option_map, option_and_then, if◌then◌else◌, slice_index_or}
use Rattle.numbers.specs.Sizes.{most_harts}
use Rattle.rv_instr.specs.declared.op.Op.{Op}
use Rattle.events.specs.{declared.effect.Outcome.Outcome, declared.effect.Written.Written}
use Rattle.retire_squash.specs.{declared.active.Active.Active, declared.active.Stage.Stage}
use Rattle.retire_squash.specs.declared.active.Stage.TheVariants as stage
use Rattle.smt_model.specs.{Fates.is, Fates.Completed}
use Rattle.smt_model.specs.{Looks.stored_by, Picture.Picture, Steps.op_in}
use Rattle.smt_model.specs.Kinds.{kind_of, is_loading, is_storing, access_size}
use Rattle.shared_memory.specs.Contents.{Contents, byte_of, reserved_of}
use Rattle.load_store.specs.{Queues.Queues, Queues.queues_of, declared.store.Store.Store}
use Rattle.load_store.specs.{declared.load.Load.Load, declared.load.FirstLook.FirstLook}
use Rattle.core_parts.specs.declared.hart.HartState.{HartState}

-- ---- In the parts' words

abbrev pub is_load : Active → Bool
is_load a = is_loading (kind_of a.op)

abbrev pub is_store : Active → Bool
is_store a = is_storing (kind_of a.op)

-- What a store will write: once it has completed, what its completion names.
abbrev pub write_at : Op → Stage → Option Written
write_at op stage.Renamed = None
write_at op stage.Issued = None
write_at op (stage.Completed outcome) = stored_by op outcome

abbrev pub store_of : Active → Store
store_of a = record { seq = a.seq; write = write_at a.op a.stage }

-- The first look that a completion was, where it names an address and gives a number: of the
-- instruction's size, and touched or not.
abbrev pub looked_by : Op → Bool → Outcome → Option FirstLook
looked_by op touched o =
    if is_some o.value
    then option_map (λ addr. record { addr = addr; n = access_size op; touched = touched }) o.addr
    else None

-- The first look that a load has had: none before it has completed.
abbrev pub look_at : Op → Bool → Stage → Option FirstLook
look_at op touched stage.Renamed = None
look_at op touched stage.Issued = None
look_at op touched (stage.Completed outcome) = looked_by op touched outcome

-- `touched` tells of an instruction whether a write has touched it since its completion.
abbrev pub load_of : (ℕ → Bool) → Active → Load
load_of touched a = record { seq = a.seq; look = look_at a.op (touched a.seq) a.stage }

-- The loads and the stores of an active list.
abbrev pub accesses_of : (ℕ → Bool) → List Active → Queues
accesses_of touched xs =
    record {
      loads = map (load_of touched) (filter is_load xs);
      stores = map store_of (filter is_store xs);
    }

-- Each hart's queues are the loads and stores of its active list; there is a place for each hart.
pub record AccessesAgree (touched : ℕ → Bool) (harts : List HartState) (accesses : List Queues)
    : Type 0 where
  pub few : length harts ≤ most_harts
  pub places : length accesses ≡ length harts
  pub each : (h : ℕ) (d : HartState) → h < length harts
      → queues_of accesses h ≡ accesses_of touched (slice_index_or harts h d).active

-- ---- In the history's words

abbrev pub is_load_in : Picture → ℕ → Bool
is_load_in p s = is_loading (kind_of (op_in p s))

abbrev pub is_store_in : Picture → ℕ → Bool
is_store_in p s = is_storing (kind_of (op_in p s))

abbrev pub write_in : Picture → ℕ → Option Written
write_in p s = if is (p.fate s) Completed
    then option_and_then (stored_by (op_in p s)) (p.completion s) else None

abbrev pub store_in : Picture → ℕ → Store
store_in p s = record { seq = s; write = write_in p s }

abbrev pub looked_in : Picture → ℕ → Option FirstLook
looked_in p s = if is (p.fate s) Completed
    then option_and_then (looked_by (op_in p s) (p.touched s)) (p.completion s) else None

abbrev pub load_in : Picture → ℕ → Load
load_in p s = record { seq = s; look = looked_in p s }

-- The loads and the stores of hart h that are in flight.
abbrev pub queues_in : Picture → ℕ → Queues
queues_in p h =
    record {
      loads = map (load_in p) (filter (is_load_in p) (p.flight h));
      stores = map (store_in p) (filter (is_store_in p) (p.flight h));
    }

-- Memory has each byte and each hart's reservation.
pub record MemoryAgrees (p : Picture) (m : Contents) : Type 0 where
  pub byte : (addr : ℕ) → byte_of m addr ≡ p.byte addr
  pub reserved : (h : ℕ) → reserved_of m h ≡ p.reserved h
