-- The ways of a program's harts to their ends, and which numbers a word may have that they share: the one that is there at
-- the start, and those that a hart writes on its way, where each of its reads of such a word has found such a number.
use Rattle.std.specs.Prelude.{◌≡◌, ℕ, ◌<◌, ◌==◌, ◌+◌, Bool, true, if◌then◌else◌, List, All, Contains, Some, length, map}
use Rattle.std.specs.List.{AllZip, slice_get}
use Rattle.std.specs.Prelude.{slice_index}
use Rattle.elf_image.specs.Image.{ProgramImage, word_in}
use Rattle.events.specs.declared.effect.Next.TheVariants as next
use Rattle.rv_instr.specs.declared.op.Op.TheVariants.{Known}
use Rattle.rv_execute.specs.Access.{reads_memory}
use Rattle.smt_model.specs.Words.{Op, Next}
use Rattle.smt_model.specs.Kinds.{kind_of}
use Rattle.smt_model.specs.{Setup.Setup, Nexts.is_last, Plain.op_at_pc, Plain.computes, Plain.read_register}
use Rattle.smt_model.specs.Reservations.{word_of_address}
use Rattle.litmus_runs.specs.declared.{access.Access.Access, runs.Run.Run, runs.HartRuns.HartRuns}
use Rattle.program_ways.specs.declared.{places.Place.Place, gathering.ProgramWays.ProgramWays}
use Rattle.program_ways.specs.Steps.{Made, Way, first_way, setup_of, location_of, address_at, way_alone, way_sharing}
use Rattle.program_ways.specs.Steps.{IsAlone, IsSharing}

mutual
  -- Hart h is on a way: it is at its start, or has made a step, by what it has itself, or with a word that harts share.
  -- What it reads of that is a number that the word may have.
  pub data IsOnWay (setup : Setup) (shared : List ℕ) : ℕ → Way → Type 0 where
    at_start : (h : ℕ) → h < setup.harts → IsOnWay setup shared h (first_way setup)
    behind_own : (h : ℕ) (w : Way) → IsOnWay setup shared h w → IsAlone setup shared w.state h
        → IsOnWay setup shared h (way_alone setup w h)
    behind_shared : (h : ℕ) (w : Way) (number : ℕ) (held : Bool) → IsOnWay setup shared h w
        → IsSharing setup shared w.state h
        → (reads_memory (kind_of (op_at_pc setup w.state h)) ≡ true
        → MayHave setup shared (word_of_address (address_at setup w.state h)) number)
        → IsOnWay setup shared h (way_sharing setup w h number held)

  -- A word may have a number: the image has it there, or a hart has written it on its way.
  pub data MayHave (setup : Setup) (shared : List ℕ) : ℕ → ℕ → Type 0 where
    initially : (word : ℕ) → MayHave setup shared word (word_in setup.image word)
    written : (h : ℕ) (w : Way) (made : Made) (number : ℕ) → IsOnWay setup shared h w → Contains w.made made
        → made.writes ≡ Some number → MayHave setup shared made.word number

-- The step of an access is the place of its instruction among these.
pub record IsPlaceOf (places : List Place) (step pc : ℕ) (op : Op) : Type 0 where
  pub place : Place
  pub there : slice_get places step ≡ Some place
  pub pc_is : place.pc ≡ pc
  pub instr : Known place.instr ≡ op

-- What is listed of an access.
pub record IsTold (shared : List ℕ) (places : List Place) (made : Made) (access : Access) : Type 0 where
  pub step : IsPlaceOf places access.step made.pc made.op
  pub location : location_of shared made.word ≡ Some access.location
  pub reads : access.reads ≡ made.reads
  pub writes : access.writes ≡ made.writes
  pub reserved_by : access.reserved_by ≡ made.reserved_by

-- What x0 says of how a hart has ended: 0 with a number, one more than the cause for which it has stopped.
abbrev pub how_ended : Next → ℕ
how_ended (next.Pc _) = 0
how_ended (next.Ended _) = 0
how_ended (next.Stopped cause) = cause + 1

-- What is listed of hart h: a way of it that has come to its end, with its accesses to words that harts share, and what
-- its registers hold then.
pub record IsRun (setup : Setup) (shared : List ℕ) (places : List Place) (h : ℕ) (run : Run) : Type 0 where
  pub way : Way
  pub on : IsOnWay setup shared h way
  pub ended : is_last (computes setup way.state h).next ≡ true
  pub accesses : AllZip (IsTold shared places) way.made run.accesses.items
  pub registers : (r : ℕ) → r < 32 → slice_index run.registers r
      ≡ (if r == 0 then how_ended (computes setup way.state h).next else read_register way.state h r)

abbrev pub AreRunsOf : Setup → List ℕ → List Place → ℕ → HartRuns → Type 0
AreRunsOf setup shared places h hart = All (IsRun setup shared places h) hart.runs.items

-- So it is of each hart, hart 0 first.
pub record AreRuns (setup : Setup) (shared : List ℕ) (places : List Place) (harts : List HartRuns) : Type 0 where
  pub count : length harts ≡ setup.harts
  pub each : (h : ℕ) (hart : HartRuns) → slice_get harts h ≡ Some hart → AreRunsOf setup shared places h hart

-- What is listed are ways of the program on so many harts, which share these words; each has its first number there.
pub record AreWays (image : ProgramImage) (harts : ℕ) (ways : ProgramWays) : Type 0 where
  pub runs : AreRuns (setup_of image harts) ways.words.items ways.places.items ways.runs.harts.items
  pub first : ways.first.items ≡ map (word_in image) ways.words.items
