-- The entries under their keys, and what the lists and the orders are to have of them.
use Rattle.std.specs.Prelude.{◌≡◌, ◌≢◌, ℕ, ◌-◌, ◌<◌, ◌≤◌, nat_lt, Bool, true, false, if◌then◌else◌, List, length}
use Rattle.std.specs.Prelude.{Option, Some, None, slice_index_or, slice_set}
use Rattle.std.specs.{List.AllByRecursion, Option.option_map}
use Rattle.slab.specs.Slab.{Slab, get, Updates}
use Rattle.numbers.specs.Sizes.{most_queued, most_registers}
use Rattle.rv_instr.specs.declared.op.UnitKind.{UnitKind}
use Rattle.issue_queue.specs.{declared.entry.Source.Source, declared.entry.Source.TheVariants.Value}
use Rattle.issue_queue.specs.{declared.entry.Source.TheVariants.Waits, declared.entry.Entry.Entry}
use Rattle.issue_queue.specs.{declared.order.Ready.Ready, declared.parts.QueueParts.QueueParts}
use Rattle.issue_queue.specs.{Entry.can_issue, Entry.woken_entry, Lists.Stands, Queue.stays, Order.AreReadyRising, Ready.order_of}
use Rattle.issue_queue.specs.{Waiting.IsLinked, Waiting.WaitsThere, declared.waiting.WaitingLists.WaitingLists}

-- ---- The sources as nodes

-- the key of a node's entry, and which of its sources the node is
abbrev pub key_of : ℕ → ℕ
key_of node = if nat_lt node most_queued then node else node - most_queued

abbrev pub side_of : ℕ → ℕ
side_of node = if nat_lt node most_queued then 0 else 1

-- the register for which a source waits
abbrev pub register_of : Source → Option ℕ
register_of (Value value) = None
register_of (Waits register) = Some register

-- the same where the register has a list
abbrev pub listed_register : Source → Option ℕ
listed_register (Value value) = None
listed_register (Waits register) = if nat_lt register most_registers then Some register else None

-- the register for which a source of an entry waits, if there is an entry
abbrev pub waits_of : ℕ → Option Entry → Option ℕ
waits_of side None = None
waits_of side (Some e) = register_of (slice_index_or e.sources side (Value 0))

-- for what each node waits
abbrev pub waits_at : Slab Entry → ℕ → Option ℕ
waits_at s node = waits_of (side_of node) (get s (key_of node))

-- ---- The parts agree

-- an entry that stands under this key has a node for each of its two sources
pub record IsPlaced (key : ℕ) (e : Entry) : Type 0 where
  pub below : key < most_queued
  pub two : length e.sources ≡ 2

-- Under the key of one that is ready stands an entry of its number, which a unit of this kind may
-- take up.
pub record IsReadyAt (kind : UnitKind) (s : Slab Entry) (ready : Ready) : Type 0 where
  pub entry : Entry
  pub there : get s ready.key ≡ Some entry
  pub can : can_issue kind entry ≡ true
  pub number : entry.seq ≡ ready.seq

abbrev pub ready_of : ℕ → Entry → Ready
ready_of key e = record { seq = e.seq; key = key }

-- An order is exactly the entries that a unit of this kind may take up, by rising number.
pub record IsOrder (kind : UnitKind) (s : Slab Entry) (order : List Ready) : Type 0 where
  pub rising : AreReadyRising order
  pub only : AllByRecursion (IsReadyAt kind s) order
  pub each : (key : ℕ) (e : Entry) → get s key ≡ Some e → can_issue kind e ≡ true
      → Stands (ready_of key e) order

-- The parts agree: each entry has its two nodes, no two have one number, each register's list is
-- exactly the sources that wait for it, and each kind's order exactly the ready ones of that kind.
pub record IsSound (parts : QueueParts) : Type 0 where
  pub placed : (key : ℕ) (e : Entry) → get parts.entries key ≡ Some e → IsPlaced key e
  pub apart : (j k : ℕ) (e f : Entry) → get parts.entries j ≡ Some e → get parts.entries k ≡ Some f
      → e.seq ≡ f.seq → j ≡ k
  pub waiting : IsLinked parts.waiting (waits_at parts.entries)
  pub ready : (kind : UnitKind) → IsOrder kind parts.entries (order_of kind parts.ready)
  pub capacity : parts.entries.capacity ≤ most_queued

-- ---- What the calls do, under each key

-- no entry has this number
abbrev pub NoneHasNumber : ℕ → Slab Entry → Type 0
NoneHasNumber seq s = (key : ℕ) (e : Entry) → get s key ≡ Some e → e.seq ≢ seq

-- the entry stands under a key that had none
pub record IsAdded (old new : Slab Entry) (e : Entry) : Type 0 where
  pub key : ℕ
  pub vacant : get old key ≡ None
  pub updates : Updates old new key (Some e)

-- an entry whose first or second source has this value
abbrev pub with_source : ℕ → ℕ → Entry → Entry
with_source side value e = record e { sources = slice_set e.sources side (Value value) }

-- a node's source has this value
pub record IsGiven (node value : ℕ) (old new : Slab Entry) : Type 0 where
  pub entry : Entry
  pub was : get old (key_of node) ≡ Some entry
  pub updates : Updates old new (key_of node) (Some (with_source (side_of node) value entry))

-- each entry is what it is once a register has its value
abbrev pub AreWoken : ℕ → ℕ → Slab Entry → Slab Entry → Type 0
AreWoken register value old new =
    (key : ℕ) → get new key ≡ option_map (woken_entry register value) (get old key)

-- those stay for which the test says so
abbrev pub kept : (Entry → Bool) → Option Entry → Option Entry
kept test None = None
kept test (Some e) = if test e then Some e else None

abbrev pub AreKept : (Entry → Bool) → Slab Entry → Slab Entry → Type 0
AreKept test old new = (key : ℕ) → get new key ≡ kept test (get old key)

-- a unit of this kind may take up the entry under this key, and none of a lower number
pub record IsOldestAt (kind : UnitKind) (s : Slab Entry) (key : ℕ) : Type 0 where
  pub entry : Entry
  pub there : get s key ≡ Some entry
  pub can : can_issue kind entry ≡ true
  pub oldest : (j : ℕ) (f : Entry) → get s j ≡ Some f → can_issue kind f ≡ true → entry.seq ≤ f.seq

-- a unit of this kind may take up none
abbrev pub NoneReady : UnitKind → Slab Entry → Type 0
NoneReady kind s = (key : ℕ) (e : Entry) → get s key ≡ Some e → can_issue kind e ≡ false

-- the entry of this number stands under this key
pub record HasNumberAt (seq : ℕ) (s : Slab Entry) (key : ℕ) : Type 0 where
  pub entry : Entry
  pub there : get s key ≡ Some entry
  pub number : entry.seq ≡ seq

-- where a source waits for a register that has a list, it stands in that list
abbrev pub WaitsOrNot : WaitingLists → ℕ → Source → Type 0
WaitsOrNot lists node source = (register : ℕ) → register_of source ≡ Some register
    → register < most_registers → WaitsThere lists node

-- an entry of the hart stands there that is younger than that
abbrev pub HasYounger : ℕ → ℕ → Option Entry → Type 0
HasYounger hart after None = ⊥
HasYounger hart after (Some e) = stays hart after e ≡ false
