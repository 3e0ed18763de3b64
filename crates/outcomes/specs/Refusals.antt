-- When outcomes aren't found.
use Rattle.std.specs.Prelude.{◌≡◌, ℕ, ◌<◌, true, false, List, Bool, None, Some, slice_get, slice_index_or}
use Rattle.elf_image.specs.Image.{ProgramImage}
use Rattle.smt_model.specs.Faults.{read_fault}
use Rattle.sc_machine.specs.Steps.{are_harts}
use Rattle.watched_outcomes.specs.declared.{watch.Watch.Watch, watch.WatchedRegister.WatchedRegister}
use Rattle.outcomes.specs.declared.refused.OutcomesRefused.{OutcomesRefused}
use Rattle.outcomes.specs.declared.refused.OutcomesRefused.TheVariants.{Harts, Register, Word, Memory}
use Rattle.watched_outcomes.specs.declared.watch.WatchedBytes.{WatchedBytes}
use Rattle.watched_outcomes.specs.Watching.{IsAbsentRegister, bytes_of}
use Rattle.outcomes.specs.{Found.InEachSetup, Reached.ReachesMany}

-- These bytes can be loaded; and so can all that are watched.
abbrev pub CanLoad : ProgramImage → WatchedBytes → Type 0
CanLoad image w = read_fault image w.address (bytes_of w.width) ≡ None

abbrev pub AreWords : ProgramImage → Watch → Type 0
AreWords image watch = (k : ℕ) (w : WatchedBytes) → slice_get watch.words.items k ≡ Some w → CanLoad image w

-- The number of each watched register is marked.
abbrev pub AreWatched : List Bool → Watch → Type 0
AreWatched watched watch = (k : ℕ) (w : WatchedRegister) → slice_get watch.registers.items k ≡ Some w
    → w.register < 32 → slice_index_or watched w.register false ≡ true

-- The bytes can't be loaded that are watched at an index.
abbrev pub IsAbsentWord : ProgramImage → Watch → ℕ → Type 0
IsAbsentWord image watch index =
    (w : WatchedBytes) × (slice_get watch.words.items index ≡ Some w) × (CanLoad image w → ⊥)

-- Orders of harts lead the plain machine to more states than the budget.
abbrev pub IsBeyond : ProgramImage → ℕ → ℕ → Type 0
IsBeyond image harts budget =
    InEachSetup image harts (λ setup. (n : ℕ) × (budget < n) × ReachesMany setup n)

-- When each refusal comes. Of memory nothing is said.
abbrev pub IsRefusedFor : ProgramImage → ℕ → Watch → OutcomesRefused → Type 0
IsRefusedFor image harts watch Harts = are_harts harts ≡ false
IsRefusedFor image harts watch (Register index) = IsAbsentRegister harts watch index
IsRefusedFor image harts watch (Word index) = IsAbsentWord image watch index
IsRefusedFor image harts watch Memory = Unit {0}
