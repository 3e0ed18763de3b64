-- When the parts of a core agree with a picture of its history (smt_model's `Picture`): one
-- sentence for each part.
use Rattle.std.specs.Prelude.{◌≡◌, ℕ, ◌<◌, Bool, false, List, [], ◌∷◌, length, map, Option, Some}
use Rattle.std.specs.Prelude.{None, slice_index_or}
use Rattle.numbers.specs.Sizes.{most_registers, most_actors}
use Rattle.std.specs.List.{AllByRecursion}
use Rattle.rv_instr.specs.{Decode.op_of_word, declared.op.Op.Op}
use Rattle.free_list.specs.Flags.{holds}
use Rattle.issue_queue.specs.{Queue.Queue, declared.entry.Entry.Entry, declared.entry.Source.Source}
use Rattle.issue_queue.specs.{declared.entry.Source.TheVariants.Value}
use Rattle.issue_queue.specs.{declared.entry.Source.TheVariants.Waits}
use Rattle.rename_map.specs.Maps.{lookup, committed_of}
use Rattle.retire_squash.specs.{declared.active.Active.Active, declared.active.Stage.Stage}
use Rattle.retire_squash.specs.declared.active.Stage.TheVariants as stage
use Rattle.smt_model.specs.{Kinds.destination, Kinds.first_source, Kinds.second_source}
use Rattle.smt_model.specs.{Picture.Picture}
use Rattle.smt_model.specs.Fates.{Fetched, Renamed, Issued, Completed}
use Rattle.core_parts.specs.{Accesses.AccessesAgree, Accesses.MemoryAgrees}
use Rattle.core_parts.specs.Checkpoints.{CheckpointsAgree}
use Rattle.core_parts.specs.{declared.slot.Slot.Slot, declared.slot.OpenJob.OpenJob}
use Rattle.core_parts.specs.{declared.hart.HartState.HartState, declared.parts.Parts.Parts}

abbrev pub fetched_as : ℕ → ℕ → Option ℕ → ℕ → Option Fetched
fetched_as h pc word predicted =
    Some (record { hart = h; pc = pc; word = word; predicted = predicted })

-- A slot of one of hart h's latches is an instruction as it was fetched.
pub record IsSlot (p : Picture) (h : ℕ) (x : Slot) : Type 0 where
  pub fetched : p.fetched x.seq ≡ fetched_as h x.pc x.word x.predicted
  pub op : x.op ≡ op_of_word x.word

-- The stage in the active list is the instruction's fate, and a completed one has its outcome
-- there.
abbrev pub IsStage : Picture → ℕ → Stage → Type 0
IsStage p s stage.Renamed = p.fate s ≡ Renamed
IsStage p s stage.Issued = p.fate s ≡ Issued
IsStage p s (stage.Completed outcome) = (p.fate s ≡ Completed) × (p.completion s ≡ Some outcome)

-- A member of hart h's active list.
pub record IsActive (p : Picture) (h : ℕ) (x : Active) : Type 0 where
  pub fetched : p.fetched x.seq ≡ fetched_as h x.pc x.word x.predicted
  pub op : x.op ≡ op_of_word x.word
  pub rd : x.rd ≡ destination x.op
  pub phys : x.phys ≡ p.phys x.seq
  pub stage : IsStage p x.seq x.stage

-- What hart h has of its own: both latches and the active list in order, its counter, its maps,
-- where it fetches, how it stands.
pub record HartAgrees (p : Picture) (h : ℕ) (x : HartState) : Type 0 where
  pub decode_latch : map (λ s. s.seq) x.decode_latch.items ≡ p.in_decode h
  pub decode_slots : AllByRecursion (IsSlot p h) x.decode_latch.items
  pub rename_latch : map (λ s. s.seq) x.rename_latch.items ≡ p.in_rename h
  pub rename_slots : AllByRecursion (IsSlot p h) x.rename_latch.items
  pub active : map (λ a. a.seq) x.active ≡ p.flight h
  pub actives : AllByRecursion (IsActive p h) x.active
  pub icount : x.icount ≡ p.icount h
  pub speculative : (r : ℕ) → 0 < r → r < 32 → lookup x.maps r ≡ p.mapped h r
  pub committed : (r : ℕ) → 0 < r → r < 32 → committed_of x.maps r ≡ p.committed h r
  pub fetch_pc : x.fetch_pc ≡ p.fetch_pc h
  pub status : x.status ≡ p.status h

abbrev pub EachAgrees : Picture → List HartState → Type 0
EachAgrees p harts =
    (h : ℕ) (d : HartState) → h < length harts → HartAgrees p h (slice_index_or harts h d)

-- What a waiting entry has for a source: the number that it reads, or the register to wait for.
abbrev pub source_of : Option ℕ → ℕ → Source
source_of None register = Waits register
source_of (Some number) register = Value number

abbrev pub source_at : Picture → (Op → ℕ) → ℕ → Source
source_at p which s = source_of (p.reads which s) (p.seen which s)

pub record IsEntry (p : Picture) (e : Entry) : Type 0 where
  pub instruction : Fetched
  pub fetched : p.fetched e.seq ≡ Some instruction
  pub hart : instruction.hart ≡ e.hart
  pub pc : instruction.pc ≡ e.pc
  pub op : e.op ≡ op_of_word instruction.word
  pub waits : p.fate e.seq ≡ Renamed
  pub sources : e.sources ≡ source_at p first_source e.seq ∷ source_at p second_source e.seq ∷ []

pub record QueueAgrees (p : Picture) (queue : Queue) : Type 0 where
  pub numbers : map (λ e. e.seq) queue.entries ≡ p.queue
  pub entries : AllByRecursion (IsEntry p) queue.entries

-- A register is in the free list where nobody claims it.
abbrev pub FreeAgrees : Picture → List Bool → Type 0
FreeAgrees p free = (x : ℕ) → holds free x ≡ p.free x

-- The number, or the lack of one, of each register that isn't free.
abbrev pub ValuesAgree : Picture → List (Option ℕ) → Type 0
ValuesAgree p values = (x : ℕ) (d : Option ℕ) → x < length values → p.free x ≡ false
    → slice_index_or values x d ≡ p.value x

-- Actor k's open job, with its operands.
pub record IsOpenJob (p : Picture) (k : ℕ) (job : OpenJob) : Type 0 where
  pub lent : p.job k ≡ Some job.seq
  pub instruction : Fetched
  pub fetched : p.fetched job.seq ≡ Some instruction
  pub hart : instruction.hart ≡ job.hart
  pub pc : instruction.pc ≡ job.pc
  pub op : job.op ≡ op_of_word instruction.word
  pub first : p.operand first_source job.seq ≡ Some job.first
  pub second : p.operand second_source job.seq ≡ Some job.second

abbrev pub HasOpenJob : Picture → ℕ → Option OpenJob → Type 0
HasOpenJob p k None = p.job k ≡ None
HasOpenJob p k (Some job) = IsOpenJob p k job

abbrev pub JobsAgree : Picture → List (Option OpenJob) → Type 0
JobsAgree p jobs =
    (k : ℕ) (d : Option OpenJob) → k < most_actors → HasOpenJob p k (slice_index_or jobs k d)

pub record PartsAgree (p : Picture) (x : Parts) : Type 0 where
  pub harts : EachAgrees p x.harts.items
  pub checkpoints : CheckpointsAgree x.harts.items
  pub queue : QueueAgrees p x.queue
  pub free : FreeAgrees p x.free
  pub registers : length x.values ≡ most_registers
  pub values : ValuesAgree p x.values
  pub actors : length x.jobs ≡ most_actors
  pub jobs : JobsAgree p x.jobs
  pub accesses : AccessesAgree p.touched x.harts.items x.accesses
  pub memory : MemoryAgrees p x.memory

-- A step of hart h can be made: the parts agree with a picture that the step starts from.
pub record From (x : Parts) (h : ℕ) (Step : Picture → Picture → Type 0) : Type 0 where
  pub before : Picture
  pub after : Picture
  pub inside : h < length x.harts.items
  pub agrees : PartsAgree before x
  pub step : Step before after

-- A step changes neither how many harts there are, nor how much room the queue has, nor the image
-- that memory began with.
pub record KeepsSizes (old new : Parts) : Type 0 where
  pub harts : length new.harts.items ≡ length old.harts.items
  pub queue : new.queue.size ≡ old.queue.size
  pub image : new.memory.image ≡ old.memory.image
