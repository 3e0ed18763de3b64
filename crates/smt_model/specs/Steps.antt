-- What each event changes in the picture of a history. `p` is the picture before it, `q` the one
-- after. A record for a step says what happens, and by `flights` and `stays` that all else stays.
use Rattle.std.specs.Prelude.{◌≡◌, ℕ, ◌+◌, ◌<◌, ◌≤◌, Bool, true, false, not, ◌==◌, ◌&&◌, ◌||◌}
use Rattle.std.specs.Prelude.{nat_lt, nat_le, List, [], ◌∷◌, ◌++◌, filter, Option, Some, None}
use Rattle.std.specs.Prelude.{is_some, if◌then◌else◌}
use Rattle.std.specs.List.{list_any}
use Rattle.numbers.specs.Sizes.{most_registers}
use Rattle.rv_instr.specs.declared.op.Op.{Op}
use Rattle.events.specs.{declared.effect.Outcome.Outcome, declared.effect.Effect.Effect}
use Rattle.smt_model.specs.{Basics.holds_of, Basics.same_number, Basics.how_many, Kinds.destination}
use Rattle.smt_model.specs.{Kinds.first_source, Kinds.second_source, Plain.status_after}
use Rattle.smt_model.specs.{Plain.output_after, Plain.is_going_status, Bytes.byte_after}
use Rattle.smt_model.specs.{Reservations.reservation_after, Memory.address_of, Picture.Picture}
use Rattle.smt_model.specs.{declared.config.Status.Status}
use Rattle.smt_model.specs.Touched.{accessed, touches_access, looks_after}
use Rattle.smt_model.specs.Fates.{Fetched, is, is_in_flight, op_of_fetched, Renamed, Issued}
use Rattle.smt_model.specs.Fates.{Completed}
pub use Rattle.smt_model.specs.Frames.{IsSameHart, IsSameInstruction, KeepsFlights, KeepsAllFlights}
pub use Rattle.smt_model.specs.Frames.{KeepsFetched, KeepsValues, KeepsReadings, KeepsJobs}
pub use Rattle.smt_model.specs.Frames.{ReadsTheSame}
use Rattle.smt_model.specs.Frames.{StaysBut, SameMap, KeepsShared, DecodeLatch, RenameLatch}
use Rattle.smt_model.specs.Frames.{ActiveList, Counter, Map, CommittedMap, FetchPc, Standing, Queue}
use Rattle.smt_model.specs.Frames.{FreeList, Values, Jobs, Fetches, Records, Output, Memory}

-- The instruction, as it was fetched, is one of hart h.
abbrev pub is_hart_of : Picture → ℕ → ℕ → Bool
is_hart_of p h s = holds_of (λ f. f.hart == h) (p.fetched s)

abbrev pub op_in : Picture → ℕ → Op
op_in p s = op_of_fetched (p.fetched s)

-- ---- Fetch of number n by a hart
pub record IsFetch (p q : Picture) (n : ℕ) (f : Fetched) : Type 0 where
  pub number : n ≡ p.fetches
  pub going : is_going_status (p.status f.hart) ≡ true
  pub fetched : q.fetched n ≡ Some f
  pub in_decode : q.in_decode f.hart ≡ p.in_decode f.hart ++ n ∷ []
  pub icount : q.icount f.hart ≡ p.icount f.hart + 1
  pub fetch_pc : q.fetch_pc f.hart ≡ f.predicted
  pub fetches : q.fetches ≡ p.fetches + 1
  pub last_fetched : q.last_fetched ≡ Some f.hart
  pub flights : KeepsAllFlights p q
  pub stays : StaysBut (DecodeLatch ∷ Counter ∷ FetchPc ∷ []) (Fetches ∷ []) p q f.hart

-- ---- Decode of n, hart h's oldest fetched
pub record IsDecode (p q : Picture) (h n : ℕ) : Type 0 where
  pub of_hart : is_hart_of p h n ≡ true
  pub in_decode : p.in_decode h ≡ n ∷ q.in_decode h
  pub in_rename : q.in_rename h ≡ p.in_rename h ++ n ∷ []
  pub flights : KeepsAllFlights p q
  pub stays : StaysBut (DecodeLatch ∷ RenameLatch ∷ []) [] p q h

-- ---- Rename of n, hart h's oldest decoded, with the register that it takes, if it takes one

-- The destination's register, where r is the destination.
abbrev pub renamed_map : ℕ → Option ℕ → ℕ → ℕ → ℕ
renamed_map rd None r before = before
renamed_map rd (Some x) r before = if r == rd then x else before

abbrev pub is_register_taken : Option ℕ → ℕ → Bool
is_register_taken taken x = same_number taken (Some x)

-- The queue by rising number.
abbrev pub inserted : ℕ → List ℕ → List ℕ
inserted n [] = n ∷ []
inserted n (x ∷ xs) = if nat_lt n x then n ∷ x ∷ xs else x ∷ inserted n xs

-- n finds for a source the register that hart h's map has, before its own register enters the map,
-- and reads what it holds.
pub record FindsSource (p q : Picture) (h n : ℕ) (which : Op → ℕ) : Type 0 where
  pub seen : 0 < which (op_in p n) → q.seen which n ≡ p.mapped h (which (op_in p n))
  pub reads :
      q.reads which n
      ≡ (if which (op_in p n) == 0 then Some 0 else p.value (p.mapped h (which (op_in p n))))

pub record IsRename (p q : Picture) (h n : ℕ) (taken : Option ℕ) : Type 0 where
  pub of_hart : is_hart_of p h n ≡ true
  pub fits : is_some taken ≡ not (destination (op_in p n) == 0)
  pub was_free : (x : ℕ) → taken ≡ Some x → p.free x ≡ true
  pub absent : is_in_flight (p.fate n) ≡ false
  pub fate : q.fate n ≡ Renamed
  pub phys : q.phys n ≡ taken
  pub completion : q.completion n ≡ None
  pub untouched : q.touched n ≡ false
  pub in_rename : p.in_rename h ≡ n ∷ q.in_rename h
  pub flight : q.flight h ≡ p.flight h ++ n ∷ []
  pub mapped :
      SameMap (q.mapped h) (λ r. renamed_map (destination (op_in p n)) taken r (p.mapped h r))
  pub queue : q.queue ≡ inserted n p.queue
  pub free : (x : ℕ) → q.free x ≡ (p.free x && not (is_register_taken taken x))
  pub emptied : (x : ℕ) → taken ≡ Some x → q.value x ≡ None
  pub values : (x : ℕ) → q.free x ≡ false → is_register_taken taken x ≡ false
      → q.value x ≡ p.value x
  pub readings :
      (s : ℕ) → is (p.fate s) Renamed ≡ true
      → ReadsTheSame p q first_source s × ReadsTheSame p q second_source s
  pub first : FindsSource p q h n first_source
  pub second : FindsSource p q h n second_source
  pub flights : KeepsFlights p q n
  pub stays : StaysBut (RenameLatch ∷ ActiveList ∷ Map ∷ []) (Queue ∷ FreeList ∷ Values ∷ []) p q h

-- ---- Issue of n, of hart h, by actor k
pub record IsIssue (p q : Picture) (h n k : ℕ) : Type 0 where
  pub of_hart : is_hart_of p h n ≡ true
  pub idle : p.job k ≡ None
  pub waited : p.fate n ≡ Renamed
  pub fate : q.fate n ≡ Issued
  pub phys : q.phys n ≡ p.phys n
  pub completion : q.completion n ≡ p.completion n
  pub icount : p.icount h ≡ q.icount h + 1
  pub queue : q.queue ≡ filter (λ s. not (s == n)) p.queue
  pub job : (j : ℕ) → q.job j ≡ (if j == k then Some n else p.job j)
  pub first_operand : q.operand first_source n ≡ p.reads first_source n
  pub second_operand : q.operand second_source n ≡ p.reads second_source n
  pub flights : KeepsFlights p q n
  pub stays : StaysBut (Counter ∷ []) (Queue ∷ Jobs ∷ []) p q h

-- ---- Completion of n, of hart h, by actor k, which goes on at `pc` where it is mispredicted; the
-- younger ones are still there.

-- What a waiting instruction reads once register x has got its number.
abbrev pub woken_reading : Option ℕ → Option ℕ → ℕ → Option ℕ → Option ℕ
woken_reading None filled seen before = before
woken_reading (Some x) None seen before = before
woken_reading (Some x) (Some v) seen None = if seen == x then Some v else None
woken_reading (Some x) (Some v) seen (Some w) = Some w

abbrev pub WakesReadings : Picture → Picture → Option ℕ → Option ℕ → (Op → ℕ) → ℕ → Type 0
WakesReadings p q register filled which s =
    (q.seen which s ≡ p.seen which s)
    × (q.reads which s ≡ woken_reading register filled (p.seen which s) (p.reads which s))

-- Both sources of every waiting instruction are woken so.
abbrev pub WakesAll : Picture → Picture → Option ℕ → Option ℕ → Type 0
WakesAll p q register filled = (s : ℕ) → is (p.fate s) Renamed ≡ true
    → WakesReadings p q register filled first_source s
    × WakesReadings p q register filled second_source s

-- What register x holds after register `register` was given the number `filled`, if any.
abbrev pub filled_value : Option ℕ → Option ℕ → ℕ → Option ℕ → Option ℕ
filled_value None filled x before = before
filled_value (Some register) filled x before = if x == register then filled else before

abbrev pub FillsValues : Picture → Picture → Option ℕ → Option ℕ → Type 0
FillsValues p q register filled = (x : ℕ) → q.free x ≡ false
    → q.value x ≡ filled_value register filled x (p.value x)

-- Actor k's job is done.
abbrev pub EndsJob : Picture → Picture → ℕ → Type 0
EndsJob p q k = (j : ℕ) → q.job j ≡ (if j == k then None else p.job j)

pub record HasCompleted (p q : Picture) (h n k : ℕ) (o : Outcome) (goes_on : ℕ) : Type 0 where
  pub of_hart : is_hart_of p h n ≡ true
  pub lent : p.job k ≡ Some n
  pub waited : p.fate n ≡ Issued
  pub fate : q.fate n ≡ Completed
  pub phys : q.phys n ≡ p.phys n
  pub completion : q.completion n ≡ Some o
  pub untouched : q.touched n ≡ false
  pub fetch_pc : q.fetch_pc h ≡ goes_on
  pub no_value : is_some (p.phys n) ≡ false → o.value ≡ None
  pub values : FillsValues p q (p.phys n) o.value
  pub readings : WakesAll p q (p.phys n) o.value
  pub job : EndsJob p q k
  pub flights : KeepsFlights p q n
  pub stays : StaysBut (FetchPc ∷ []) (Values ∷ Jobs ∷ []) p q h

-- ---- A drop of n by actor k
pub record IsDrop (p q : Picture) (n k : ℕ) : Type 0 where
  pub lent : p.job k ≡ Some n
  pub job : EndsJob p q k
  pub flights : KeepsAllFlights p q
  pub harts : (g : ℕ) → IsSameHart p q g
  pub shared : KeepsShared (Jobs ∷ []) p q

-- ---- A squash of hart h's instructions younger than n

-- Nobody has the register of a later one: what makes giving them back one by one sound.
abbrev pub has_register : Picture → ℕ → ℕ → Bool
has_register p x s = same_number (p.phys s) (Some x)

pub record IsOwn (p : Picture) (s : ℕ) (rest : List ℕ) (x : ℕ) : Type 0 where
  pub in_range : x < most_registers
  pub claimed : p.free x ≡ false
  pub alone : list_any (has_register p x) rest ≡ false

abbrev pub AreOwn : Picture → List ℕ → Type 0
AreOwn p [] = Unit {0}
AreOwn p (s ∷ rest) = ((x : ℕ) → p.phys s ≡ Some x → IsOwn p s rest x) × AreOwn p rest

-- The register of the last of some instructions that writes r, or else the one given.
abbrev pub youngest : Picture → ℕ → List ℕ → ℕ → ℕ
youngest p r [] otherwise = otherwise
youngest p r (s ∷ rest) otherwise =
    youngest p r rest (renamed_map (destination (op_in p s)) (p.phys s) r otherwise)

abbrev pub up_to : ℕ → List ℕ → List ℕ
up_to n xs = filter (λ s. nat_le s n) xs

abbrev pub beyond : ℕ → List ℕ → List ℕ
beyond n xs = filter (λ s. nat_lt n s) xs

pub record IsSquash (p q : Picture) (h n : ℕ) : Type 0 where
  pub own : AreOwn p (p.flight h)
  pub in_decode : q.in_decode h ≡ []
  pub in_rename : q.in_rename h ≡ []
  pub flight : q.flight h ≡ up_to n (p.flight h)
  pub icount : q.icount h ≡ how_many (λ s. is (p.fate s) Renamed) (up_to n (p.flight h))
  pub mapped : SameMap (q.mapped h) (λ r. youngest p r (up_to n (p.flight h)) (p.committed h r))
  pub queue : q.queue ≡ filter (λ s. not (is_hart_of p h s && nat_lt n s)) p.queue
  pub free :
      (x : ℕ) → q.free x ≡ (p.free x || list_any (has_register p x) (beyond n (p.flight h)))
  pub flights :
      (t : ℕ) → is_in_flight (p.fate t) ≡ true → (is_hart_of p h t ≡ true → t ≤ n)
      → IsSameInstruction p q t
  pub stays :
      StaysBut (DecodeLatch ∷ RenameLatch ∷ ActiveList ∷ Counter ∷ Map ∷ [])
      (Queue ∷ FreeList ∷ []) p q h

-- A misprediction: it completes and sends its hart to the new pc, then the younger ones
-- are squashed.
pub record IsMisprediction (p q : Picture) (h n k : ℕ) (o : Outcome) (goes_on : ℕ) : Type 0 where
  pub middle : Picture
  pub complete : HasCompleted p middle h n k o goes_on
  pub squash : IsSquash middle q h n

-- ---- Retirement of n, the first of hart h's flight, which goes on at `goes_on`

-- The register that hart h's committed map has for n's destination.
abbrev pub register_before : Picture → ℕ → ℕ → ℕ
register_before p h n = p.committed h (destination (op_in p n))

-- The record of it comes to the others.
abbrev pub AddsRecord : Picture → Picture → ℕ → Effect → Type 0
AddsRecord p q n x = (f : Fetched) → p.fetched n ≡ Some f
    → q.records ≡ record { hart = f.hart; pc = f.pc; word = f.word; effect = x } ∷ p.records

pub record IsRetire (p q : Picture) (h n : ℕ) (x : Effect) (goes_on : ℕ) : Type 0 where
  pub of_hart : is_hart_of p h n ≡ true
  pub fits : is_some (p.phys n) ≡ not (destination (op_in p n) == 0)
  pub flight : p.flight h ≡ n ∷ q.flight h
  pub committed :
      SameMap (q.committed h)
      (λ r. renamed_map (destination (op_in p n)) (p.phys n) r (p.committed h r))
  pub fetch_pc : q.fetch_pc h ≡ goes_on
  -- the register that was committed before becomes free, where there is a new one
  pub replaced :
      is_some (p.phys n) ≡ true
      → (register_before p h n < most_registers) × (p.free (register_before p h n) ≡ false)
  pub free :
      (y : ℕ) → q.free y ≡ (p.free y || (is_some (p.phys n) && (y == register_before p h n)))
  pub values : FillsValues p q (p.phys n) x.value
  pub readings : WakesAll p q (p.phys n) x.value
  pub records : AddsRecord p q n x
  pub output : q.output ≡ output_after x.out p.output
  pub byte : (addr : ℕ) → q.byte addr ≡ byte_after x.write addr (p.byte addr)
  pub reserved :
      (g : ℕ) → q.reserved g
      ≡ reservation_after (op_in p n) (address_of (p.completion n)) x (is_hart_of p g n)
      (p.reserved g)
  pub touched :
      (s : ℕ) → q.touched s
      ≡ (p.touched s || touches_access x.write (op_in p s) (accessed (p.completion s)))
  pub looks : q.looks ≡ looks_after (op_in p n) (p.touched n) x p.looks
  pub flights : KeepsFlights p q n
  pub stays :
      StaysBut (ActiveList ∷ CommittedMap ∷ FetchPc ∷ [])
      (FreeList ∷ Values ∷ Records ∷ Output ∷ Memory ∷ []) p q h

-- ---- The first of hart h's flight, n, leaves and commits nothing: its own register becomes free.
-- From then on the hart stands like this, and is fetched at `goes_on`. Nothing is said of its map,
-- which goes with the squash that follows.
pub record IsLeave (p q : Picture) (h n : ℕ) (standing : Status) (goes_on : ℕ) : Type 0 where
  pub of_hart : is_hart_of p h n ≡ true
  pub own : AreOwn p (p.flight h)
  pub flight : p.flight h ≡ n ∷ q.flight h
  pub status : q.status h ≡ standing
  pub fetch_pc : q.fetch_pc h ≡ goes_on
  pub free : (y : ℕ) → q.free y ≡ (p.free y || has_register p y n)
  pub flights : KeepsFlights p q n
  pub stays :
      StaysBut (ActiveList ∷ Map ∷ FetchPc ∷ Standing ∷ []) (FreeList ∷ Records ∷ []) p q h

-- A retirement that ends or stops its hart: it leaves a record, then all younger ones are squashed.
pub record IsEnd (p q : Picture) (h n : ℕ) (x : Effect) : Type 0 where
  pub middle : Picture
  pub leave : IsLeave p middle h n (status_after x.next (p.status h)) (p.fetch_pc h)
  pub records : AddsRecord p middle n x
  pub squash : IsSquash middle q h n

-- A refetch: it leaves no record, its hart goes back to its pc, then all younger ones are squashed.
pub record IsRefetch (p q : Picture) (h n : ℕ) (pc : ℕ) : Type 0 where
  pub middle : Picture
  pub leave : IsLeave p middle h n (p.status h) pc
  pub records : middle.records ≡ p.records
  pub squash : IsSquash middle q h n

-- A load that retires with another value: all younger ones are squashed first, then it retires.
pub record IsReplay (p q : Picture) (h n : ℕ) (x : Effect) (goes_on : ℕ) : Type 0 where
  pub middle : Picture
  pub squash : IsSquash p middle h n
  pub retire : IsRetire middle q h n x goes_on
