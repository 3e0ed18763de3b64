-- How the code keeps a program, a hart on its way and the numbers that are known.
use Rattle.std.specs.Prelude.{◌≡◌, ℕ, ◌-◌, ◌%◌, ◌+◌, ◌==◌, Bool, true, false, if◌then◌else◌, List, All, Contains, find}
use Rattle.std.specs.Prelude.{Some, is_some, slice_index}
use Rattle.std.specs.List.{AllZip, slice_get}
use Rattle.std.specs.Option.{option_map_or}
use Rattle.elf_image.specs.Image.{ProgramImage, byte_in, code_start, code_size, in_code, in_ram}
use Rattle.rv_instr.specs.Table.{OpInRange}
use Rattle.rv_execute.specs.Access.{reads_memory}
use Rattle.shared_memory.specs.Contents.{IsStart}
use Rattle.decoded_code.specs.Code.{IsCodeOf}
use Rattle.smt_model.specs.Words.{Op, Next, Effect}
use Rattle.smt_model.specs.Kinds.{Kind, Storing, Conditional, Atomic, kind_of, access_size}
use Rattle.smt_model.specs.Bytes.{read}
use Rattle.smt_model.specs.{Setup.Setup, Exec.Computed, Nexts.is_last}
use Rattle.smt_model.specs.Reservations.{holds_word, word_of_address, reservation_after}
use Rattle.smt_model.specs.{Kinds.destination, Nexts.pc_after, Plain.status_after}
use Rattle.sc_machine.specs.{Access.HasNoFault, Harts.HartAgrees, Harts.register_written, Here.op_here, Here.computed_here}
use Rattle.litmus_runs.specs.declared.{finding.Found.Found, runs.Run.Run, runs.HartRuns.HartRuns}
use Rattle.program_ways.specs.declared.{program.Program.Program, hart.Hart.Hart, hart.Sharing.Sharing, hart.End.End, hart.Reached.Reached}
use Rattle.program_ways.specs.declared.gathering.Gathered.{Gathered}
use Rattle.program_ways.specs.declared.following.Going.{Going}
use Rattle.program_ways.specs.declared.{own.OwnWord.OwnWord, known.Known.Known, known.Held.Held}
use Rattle.program_ways.specs.declared.hart.End.TheVariants as end
use Rattle.program_ways.specs.declared.hart.Reached.TheVariants as reached
use Rattle.program_ways.specs.Steps.{Way, setup_of, location_of, accesses_memory}
use Rattle.program_ways.specs.Ways.{IsOnWay, MayHave, IsTold, how_ended, IsRun, AreRunsOf, AreRuns}

abbrev pub setup_here : Program → Setup
setup_here p = setup_of p.memory.image p.harts

-- The parts of a program are those of its memory's image, as it stands at the start.
pub record IsProgram (p : Program) : Type 0 where
  pub memory : IsStart p.memory.image p.memory
  pub code : IsCodeOf p.memory.image (byte_in p.memory.image) p.code
  pub entry : p.entry ≡ p.memory.image.entry
  pub start : p.extent.0 ≡ code_start p.memory.image
  pub size : p.extent.1 ≡ code_size p.memory.image

-- A byte of a word that is a hart's own: that of its entry, else the image's.
abbrev pub own_byte : ProgramImage → List OwnWord → ℕ → ℕ
own_byte image own addr = option_map_or (λ held. slice_index held.bytes (addr % 4))
    (find (λ held. held.word == addr - addr % 4) own) (byte_in image addr)

-- A byte once a word has these.
abbrev pub byte_with : OwnWord → ℕ → ℕ → ℕ
byte_with new addr before = if new.word == addr - addr % 4 then slice_index new.bytes (addr % 4) else before

-- An address of RAM in no word that harts share.
pub record IsOwn (image : ProgramImage) (shared : List ℕ) (addr : ℕ) : Type 0 where
  pub inside : in_ram image addr 1 ≡ true
  pub unshared : is_some (location_of shared (word_of_address addr)) ≡ false

-- A hart is kept as it stands on a way.
pub record Keeps (p : Program) (shared : List ℕ) (w : Way) (hart : Hart) : Type 0 where
  pub state : HartAgrees w.state hart.index hart.state
  pub accesses : AllZip (IsTold shared p.places.items) w.made hart.accesses.items
  pub own : (addr : ℕ) → IsOwn p.memory.image shared addr
      → own_byte p.memory.image hart.own.items addr ≡ w.state.bytes addr
  pub reserved : hart.reserved ≡ w.state.reserved hart.index
  pub reserving : hart.reserving ≡ w.reserving
  pub code : (addr : ℕ) → in_code p.memory.image addr ≡ true → w.state.bytes addr ≡ byte_in p.memory.image addr

pub record HasWay (p : Program) (shared : List ℕ) (hart : Hart) : Type 0 where
  pub way : Way
  pub on : IsOnWay (setup_here p) shared hart.index way
  pub keeps : Keeps p shared way hart

-- The instruction at a hart's pc, and what it computes.
abbrev pub op_of : Program → Hart → Op
op_of p hart = op_here p.memory hart.state

abbrev pub computed_of : Program → Hart → Computed
computed_of p hart = computed_here p.memory hart.state (op_of p hart)

-- An instruction of this kind may write memory; what may isn't followed into the code.
abbrev pub may_write : Kind → Bool
may_write Storing = true
may_write Conditional = true
may_write Atomic = true
may_write _ = false

abbrev pub IsNoCode : Program → Op → ℕ → Type 0
IsNoCode p op addr = may_write (kind_of op) ≡ true → in_code p.memory.image (word_of_address addr) ≡ false

-- A hart goes on by what it has itself, and finds this number and whether its reservation holds.
pub record GoesAlone (p : Program) (shared : List ℕ) (hart : Hart) (op : Op) (c : Computed) (number : ℕ) (held : Bool)
    : Type 0 where
  pub op_is : op ≡ op_of p hart
  pub computed : c ≡ computed_of p hart
  pub in_range : OpInRange op
  pub no_fault : HasNoFault p.memory.image op c
  pub goes : is_last c.next ≡ false
  pub alone : accesses_memory (kind_of op) (holds_word hart.reserved c.addr) ≡ true
      → (is_some (location_of shared (word_of_address c.addr)) ≡ false) × IsNoCode p op c.addr
  pub held_is : kind_of op ≡ Conditional → held ≡ holds_word hart.reserved c.addr
  pub number_is : reads_memory (kind_of op) ≡ true
      → number ≡ read op (own_byte p.memory.image hart.own.items) c.addr

-- A hart stands at an access to a word that harts share.
pub record IsAt (p : Program) (shared : List ℕ) (hart : Hart) (sharing : Sharing) : Type 0 where
  pub op : sharing.op ≡ op_of p hart
  pub address : sharing.address ≡ (computed_of p hart).addr
  pub in_range : OpInRange sharing.op
  pub goes : is_last (computed_of p hart).next ≡ false
  pub accesses : accesses_memory (kind_of sharing.op) (holds_word hart.reserved sharing.address) ≡ true
  pub location : location_of shared (word_of_address sharing.address) ≡ Some sharing.location
  pub whole : access_size sharing.op ≡ 4
  pub code : IsNoCode p sharing.op sharing.address

-- A hart has ended so.
abbrev pub end_number : End → ℕ
end_number end.Number = 0
end_number (end.Stopped cause) = cause + 1

pub record IsStopping (next : Next) (it : End) : Type 0 where
  pub last : is_last next ≡ true
  pub how : end_number it ≡ how_ended next

pub record IsAtEnd (p : Program) (hart : Hart) (it : End) : Type 0 where
  pub stopping : IsStopping (computed_of p hart).next it
  pub in_range : OpInRange (op_of p hart)

-- Where a hart has come to.
abbrev pub IsReached : Program → List ℕ → Hart → Reached → Type 0
IsReached p shared hart (reached.End it) = IsAtEnd p hart it
IsReached p shared hart reached.Turning = Unit {0}
IsReached p shared hart (reached.Sharing sharing) = IsAt p shared hart sharing
IsReached p shared hart (reached.Bound bound) = Unit {0}

-- The address of a word.
abbrev pub IsWordAddress : ℕ → Type 0
IsWordAddress word = word % 4 ≡ 0

-- A number that a location may have.
abbrev pub MayHaveAt : Setup → List ℕ → ℕ → ℕ → Type 0
MayHaveAt setup shared location number =
    (word : ℕ) → location_of shared word ≡ Some location → MayHave setup shared word number

pub record AreKnown (p : Program) (shared : List ℕ) (known : Known) : Type 0 where
  pub each : All (λ held. MayHaveAt (setup_here p) shared held.location held.number) known.held.items

-- What an access may find where these are the numbers that locations may have.
pub record MayFind (known : List Held) (sharing : Sharing) (found : Found) : Type 0 where
  pub place : found.location ≡ Some sharing.location
  pub number : reads_memory (kind_of sharing.op) ≡ true
      → Contains known (record { location = sharing.location; number = found.number })

-- What a read of a location finds: one of its numbers.
pub record IsOneOf (known : List Held) (location : ℕ) (found : Found) : Type 0 where
  pub place : found.location ≡ Some location
  pub number : Contains known (record { location = location; number = found.number })

-- An access to a word that harts share can be made so.
pub record CanMake (p : Program) (shared : List ℕ) (hart : Hart) (sharing : Sharing) (found : Found) : Type 0 where
  pub way : HasWay p shared hart
  pub at : IsAt p shared hart sharing
  pub place : found.location ≡ Some sharing.location
  pub number : reads_memory (kind_of sharing.op) ≡ true
      → MayHaveAt (setup_here p) shared sharing.location found.number

-- What an instruction with this effect does to its hart alone.
pub record HasAdvanced (op : Op) (addr : ℕ) (x : Effect) (before after : Hart) : Type 0 where
  pub registers : (r : ℕ) → slice_index after.state.registers r
      ≡ register_written (destination op) x.value r (slice_index before.state.registers r)
  pub pc : after.state.pc ≡ pc_after x.next before.state.pc
  pub status : after.state.status ≡ status_after x.next before.state.status
  pub reserved : after.reserved ≡ reservation_after op addr x true before.reserved
  pub index : after.index ≡ before.index
  pub accesses : after.accesses ≡ before.accesses
  pub own : after.own ≡ before.own
  pub reserving : after.reserving ≡ before.reserving

-- Harts with this index that are on their ways.
pub record IsGoing (p : Program) (shared : List ℕ) (index : ℕ) (hart : Hart) : Type 0 where
  pub way : HasWay p shared hart
  pub same : hart.index ≡ index

abbrev pub AreGoing : Program → List ℕ → ℕ → List Going → Type 0
AreGoing p shared index going = All (λ one. IsGoing p shared index one.hart) going

-- What is listed of the hart with this index.
abbrev pub AreListed : Program → List ℕ → ℕ → List Run → Type 0
AreListed p shared index runs = All (IsRun (setup_here p) shared p.places.items index) runs

-- A copy of a hart.
pub record IsCopy (hart copy : Hart) : Type 0 where
  pub index : copy.index ≡ hart.index
  pub state : copy.state ≡ hart.state
  pub accesses : copy.accesses.items ≡ hart.accesses.items
  pub own : copy.own.items ≡ hart.own.items
  pub reserved : copy.reserved ≡ hart.reserved
  pub reserving : copy.reserving ≡ hart.reserving

-- What is listed of each of these harts, hart 0 first.
abbrev pub AreFollowed : Program → List ℕ → List HartRuns → Type 0
AreFollowed p shared harts = (h : ℕ) (hart : HartRuns) → slice_get harts h ≡ Some hart
    → AreRunsOf (setup_here p) shared p.places.items h hart

-- What is gathered by the numbers that are known.
pub record IsGathered (p : Program) (shared : List ℕ) (gathered : Gathered) : Type 0 where
  pub runs : AreRuns (setup_here p) shared p.places.items gathered.harts.items
  pub known : AreKnown p shared gathered.known
