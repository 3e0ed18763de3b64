-- What a step leaves as it was. `p` is the picture before it, `q` the one after.
use Rattle.std.specs.Prelude.{◌≡◌, ◌≢◌, ℕ, ◌<◌, Bool, true, false, ◌==◌, List, [], Some}
use Rattle.std.specs.List.{list_any}
use Rattle.rv_instr.specs.declared.op.Op.{Op}
use Rattle.smt_model.specs.{Kinds.first_source, Kinds.second_source, Picture.Picture}
use Rattle.smt_model.specs.Fates.{Fetched, is, is_in_flight, Renamed}

-- ---- Parts

-- The parts of a hart that a step can change.
pub data HartPart : Type 0 where
  DecodeLatch RenameLatch ActiveList Counter Map CommittedMap FetchPc Standing : HartPart

-- And those that all harts share.
pub data SharedPart : Type 0 where
  Queue FreeList Values Jobs Fetches Records Output Memory : SharedPart

abbrev pub place : HartPart → ℕ
place DecodeLatch = 0
place RenameLatch = 1
place ActiveList = 2
place Counter = 3
place Map = 4
place CommittedMap = 5
place FetchPc = 6
place Standing = 7

abbrev pub shared_place : SharedPart → ℕ
shared_place Queue = 0
shared_place FreeList = 1
shared_place Values = 2
shared_place Jobs = 3
shared_place Fetches = 4
shared_place Records = 5
shared_place Output = 6
shared_place Memory = 7

-- The part is among those that change.
abbrev pub changes : List HartPart → HartPart → Bool
changes parts part = list_any (λ x. place x == place part) parts

abbrev pub changes_shared : List SharedPart → SharedPart → Bool
changes_shared parts part = list_any (λ x. shared_place x == shared_place part) parts

-- What is said of a part, unless it changes.
abbrev pub Unless : Bool → Type 0 → Type 0
Unless true Stays = Unit {0}
Unless false Stays = Stays

-- Two maps have the same physical register for each of x1 to x31.
abbrev pub SameMap : (ℕ → ℕ) → (ℕ → ℕ) → Type 0
SameMap one two = (r : ℕ) → 0 < r → r < 32 → one r ≡ two r

-- Hart h's own parts are the same, but those that change.
pub record KeepsHart (parts : List HartPart) (p q : Picture) (h : ℕ) : Type 0 where
  pub in_decode : Unless (changes parts DecodeLatch) (q.in_decode h ≡ p.in_decode h)
  pub in_rename : Unless (changes parts RenameLatch) (q.in_rename h ≡ p.in_rename h)
  pub flight : Unless (changes parts ActiveList) (q.flight h ≡ p.flight h)
  pub icount : Unless (changes parts Counter) (q.icount h ≡ p.icount h)
  pub mapped : Unless (changes parts Map) (SameMap (q.mapped h) (p.mapped h))
  pub committed : Unless (changes parts CommittedMap) (SameMap (q.committed h) (p.committed h))
  pub fetch_pc : Unless (changes parts FetchPc) (q.fetch_pc h ≡ p.fetch_pc h)
  pub status : Unless (changes parts Standing) (q.status h ≡ p.status h)

abbrev pub IsSameHart : Picture → Picture → ℕ → Type 0
IsSameHart p q h = KeepsHart [] p q h

-- What was fetched stays.
abbrev pub KeepsFetched : Picture → Picture → Type 0
KeepsFetched p q = (s : ℕ) (f : Fetched) → p.fetched s ≡ Some f → q.fetched s ≡ Some f

-- A claimed register holds what it held.
abbrev pub KeepsValues : Picture → Picture → Type 0
KeepsValues p q = (x : ℕ) → q.free x ≡ false → q.value x ≡ p.value x

-- A waiting instruction finds the same registers for its sources, and these hold what they held.
pub record ReadsTheSame (p q : Picture) (which : Op → ℕ) (s : ℕ) : Type 0 where
  pub seen : q.seen which s ≡ p.seen which s
  pub reads : q.reads which s ≡ p.reads which s

-- Every instruction that waits in q's queue and did in p's reads so from both its sources.
abbrev pub KeepsReadings : Picture → Picture → Type 0
KeepsReadings p q = (s : ℕ) → is (p.fate s) Renamed ≡ true → is (q.fate s) Renamed ≡ true
    → ReadsTheSame p q first_source s × ReadsTheSame p q second_source s

-- The operands of every job that was open and is.
abbrev pub KeepsJobs : Picture → Picture → Type 0
KeepsJobs p q = (k s : ℕ) → p.job k ≡ Some s → q.job k ≡ Some s
    → (q.operand first_source s ≡ p.operand first_source s)
    × (q.operand second_source s ≡ p.operand second_source s)

pub record FetchesNothing (p q : Picture) : Type 0 where
  pub fetched : (s : ℕ) → q.fetched s ≡ p.fetched s
  pub fetches : q.fetches ≡ p.fetches
  pub last_fetched : q.last_fetched ≡ p.last_fetched

-- No byte is written, every hart holds the reservation that it held, no access is touched, and no
-- load looks again.
pub record KeepsMemory (p q : Picture) : Type 0 where
  pub byte : (addr : ℕ) → q.byte addr ≡ p.byte addr
  pub reserved : (g : ℕ) → q.reserved g ≡ p.reserved g
  pub touched : (s : ℕ) → q.touched s ≡ p.touched s
  pub looks : q.looks ≡ p.looks

-- What all harts share is the same, but the parts that change. No step forgets what was fetched, or
-- changes an open job's operands.
pub record KeepsShared (parts : List SharedPart) (p q : Picture) : Type 0 where
  pub kept : KeepsFetched p q
  pub operands : KeepsJobs p q
  pub queue : Unless (changes_shared parts Queue) (q.queue ≡ p.queue)
  pub free : Unless (changes_shared parts FreeList) ((x : ℕ) → q.free x ≡ p.free x)
  pub values : Unless (changes_shared parts Values) (KeepsValues p q)
  pub readings : Unless (changes_shared parts Values) (KeepsReadings p q)
  pub job : Unless (changes_shared parts Jobs) ((k : ℕ) → q.job k ≡ p.job k)
  pub fetches : Unless (changes_shared parts Fetches) (FetchesNothing p q)
  pub records : Unless (changes_shared parts Records) (q.records ≡ p.records)
  pub output : Unless (changes_shared parts Output) (q.output ≡ p.output)
  pub memory : Unless (changes_shared parts Memory) (KeepsMemory p q)

-- All stays but these parts of hart h, and these of what all harts share.
pub record StaysBut (own : List HartPart) (all : List SharedPart) (p q : Picture) (h : ℕ)
    : Type 0 where
  pub hart : KeepsHart own p q h
  pub others : (g : ℕ) → g ≢ h → IsSameHart p q g
  pub shared : KeepsShared all p q

-- Instruction s is in flight as it was.
pub record IsSameInstruction (p q : Picture) (s : ℕ) : Type 0 where
  pub fate : q.fate s ≡ p.fate s
  pub phys : q.phys s ≡ p.phys s
  pub completion : q.completion s ≡ p.completion s

-- Every one in flight is.
abbrev pub KeepsAllFlights : Picture → Picture → Type 0
KeepsAllFlights p q = (t : ℕ) → is_in_flight (p.fate t) ≡ true → IsSameInstruction p q t

-- Every one but s is.
abbrev pub KeepsFlights : Picture → Picture → ℕ → Type 0
KeepsFlights p q s = (t : ℕ) → is_in_flight (p.fate t) ≡ true → t ≢ s → IsSameInstruction p q t
