-- What a search for all outcomes finds, and what is claimed of it. [Lamport 1979: the ends are those of all
-- orders of whole instructions; Clarke, Grumberg and Peled 1999, "Model Checking": all of them, by a search
-- over the states]
use Rattle.std.specs.Prelude.{◌≡◌, ◌≢◌, ℕ, ◌<◌, Bool, true, false, List, Contains, AllPairs, Option, Some, None, map}
use Rattle.std.specs.Prelude.{unwrap_or, length, slice_get, slice_index_or}
use Rattle.elf_image.specs.Image.{ProgramImage}
use Rattle.events.specs.declared.event.Event.{Event}
use Rattle.smt_model.specs.{Setup.Setup, Plain.Plain, Plain.start, Plain.is_going_status, Rules.is_legal}
use Rattle.smt_model.specs.{Basics.below, Bytes.number_at, Registers.committed, Registers.value}
use Rattle.smt_model.specs.Memory.{byte_at, output, status}
use Rattle.searches.specs.declared.extent.Extent.{Extent}
use Rattle.outcome_laws.specs.{Paths.path, Paths.IsEnd, Search.CanEnd}
use Rattle.watched_outcomes.specs.declared.{watch.Watch.Watch, watch.WatchedRegister.WatchedRegister}
use Rattle.watched_outcomes.specs.{declared.watch.WatchedBytes.WatchedBytes, Watching.bytes_of}
use Rattle.watched_outcomes.specs.Endings.{Ending, ending_of, word_in}

-- An outcome, and an order of harts that leads to it, the first step first.
pub record Told : Type 0 where
  pub ending : Ending
  pub order : List ℕ

-- Whether the outcomes are all, the outcomes, how many states were found; and, of all, an order to a state that has no way
-- to an end, where there is one, and of each place in memory that is watched whether it is unwritten. Of a part the last
-- two say nothing.
pub record Found : Type 0 where
  pub extent : Extent
  pub listed : List Told
  pub states : ℕ
  pub stuck : Option (List ℕ)
  pub unwritten : List Bool

-- It is so of each setup with this image and so many harts.
abbrev pub InEachSetup : ProgramImage → ℕ → (Setup → Type 0) → Type 0
InEachSetup image harts P = (setup : Setup) → setup.image ≡ image → setup.harts ≡ harts → P setup

-- The order leads the plain machine from the start to where no hart goes, and it has ended so.
pub record EndsSo (setup : Setup) (watch : Watch) (order : List ℕ) (e : Ending) : Type 0 where
  pub last : Plain
  pub leads : path setup order (start setup) ≡ Some last
  pub is_end : IsEnd setup last
  pub is : e ≡ ending_of setup.harts watch last

-- Some outcome of the list is this one.
abbrev pub HasOutcome : Found → Ending → Type 0
HasOutcome found e = (t : Told) × Contains found.listed t × (t.ending ≡ e)

-- Complete: whatever order ends so, that outcome is listed.
abbrev pub ListsAll : Setup → Watch → Found → Type 0
ListsAll setup watch found = (order : List ℕ) (e : Ending) → EndsSo setup watch order e → HasOutcome found e

-- Sound: the order of each outcome that is listed ends so.
abbrev pub IsSound : Setup → Watch → Found → Type 0
IsSound setup watch found = (t : Told) → Contains found.listed t → EndsSo setup watch t.order t.ending

-- Each outcome is listed once.
abbrev pub IsOnce : Found → Type 0
IsOnce found = AllPairs (λ (a b : Told). a.ending ≢ b.ending) found.listed

-- Some order leads on to an end from wherever an order leads to; or this one leads to where none does.
abbrev pub IsStuckTold : Setup → Option (List ℕ) → Type 0
IsStuckTold setup None = (order : List ℕ) (s : Plain) → path setup order (start setup) ≡ Some s → CanEnd setup s
IsStuckTold setup (Some order) =
    (s : Plain) × (path setup order (start setup) ≡ Some s) × (CanEnd setup s → ⊥)

-- A place is unwritten: 0 is there in whatever state an order leads to, so at the start, and none writes another number.
-- Or it isn't: some order leads to a state with another one.
abbrev pub IsUnwrittenTold : Setup → WatchedBytes → Bool → Type 0
IsUnwrittenTold setup w true =
    (order : List ℕ) (s : Plain) → path setup order (start setup) ≡ Some s → word_in s w ≡ 0
IsUnwrittenTold setup w false =
    (order : List ℕ) × (s : Plain) × (path setup order (start setup) ≡ Some s) × (word_in s w ≢ 0)

-- So it is told of each that is watched.
pub record AreUnwrittenTold (setup : Setup) (watch : Watch) (unwritten : List Bool) : Type 0 where
  pub long : length unwritten ≡ length watch.words.items
  pub each : (k : ℕ) (w : WatchedBytes) → slice_get watch.words.items k ≡ Some w
      → IsUnwrittenTold setup w (slice_index_or unwritten k false)

-- All of it.
pub record IsExactList (setup : Setup) (watch : Watch) (found : Found) : Type 0 where
  pub complete : ListsAll setup watch found
  pub sound : IsSound setup watch found
  pub stuck : IsStuckTold setup found.stuck
  pub unwritten : AreUnwrittenTold setup watch found.unwritten

-- ---- A core

-- Each hart of a history has ended or stopped.
abbrev pub AllAreOver : Setup → List Event → Type 0
AllAreOver setup past = (h : ℕ) → h < setup.harts → is_going_status (status past h) ≡ false

-- How a core ends by its history: what the harts' statuses, the committed registers, memory and output are.
abbrev pub committed_in : Setup → List Event → WatchedRegister → ℕ
committed_in setup past w = unwrap_or (value setup past (committed past w.hart w.register)) 0

abbrev pub core_word : Setup → List Event → WatchedBytes → ℕ
core_word setup past w = number_at (byte_at setup past) w.address (bytes_of w.width)

abbrev pub core_ending : Setup → Watch → List Event → Ending
core_ending setup watch past = record {
  statuses = map (status past) (below setup.harts);
  registers = map (committed_in setup past) watch.registers.items;
  words = map (core_word setup past) watch.words.items;
  output = output past;
}

-- Every core that runs the program to where all its harts are over ends as the list says, whatever its
-- schedule, its predictions, its actors and its free registers.
abbrev pub CoversCores : Setup → Watch → Found → Type 0
CoversCores setup watch found = (past : List Event) → is_legal setup past → AllAreOver setup past
    → HasOutcome found (core_ending setup watch past)
