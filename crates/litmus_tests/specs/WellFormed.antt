-- When a litmus test makes sense: what it names is there.
use Rattle.std.specs.Prelude.{◌≡◌, ℕ, ◌+◌, ◌*◌, ◌≤◌, ◌<◌, Bool, true, false, List, length, sum_by, All, Contains}
use Rattle.numbers.specs.Sizes.{most_harts}
use Rattle.litmus_tests.specs.Limits.{most_steps, most_words, most_locations, most_observed}
use Rattle.rv_instr.specs.{declared.instr.Instr.Instr, Table.IsInstructionInRange}
use Rattle.rv_instr.specs.declared.instr.Instr.TheVariants as instr
use Rattle.litmus_tests.specs.declared.value.Value.{Value}
use Rattle.litmus_tests.specs.declared.value.Value.TheVariants.{Number, Address}
use Rattle.litmus_tests.specs.declared.step.LitmusStep.{LitmusStep}
use Rattle.litmus_tests.specs.declared.step.LitmusStep.TheVariants.{Straight, Constant, Branch, Fence}
use Rattle.litmus_tests.specs.declared.condition.{Observed.Observed, Term.Term}
use Rattle.litmus_tests.specs.declared.condition.Observed.TheVariants as observed
use Rattle.litmus_tests.specs.declared.condition.Condition.{Condition, Always, Holds, Not', Both', Either', Implies', Equivalent'}
use Rattle.litmus_tests.specs.declared.test.{LitmusTest.LitmusTest, RegisterStart.RegisterStart, Thread.Thread}
use Rattle.litmus_tests.specs.{declared.location.Location.Location, Locations.type_of}
use Rattle.watched_outcomes.specs.Watching.{bytes_of}

-- Behind the instruction the hart goes on with the next one, whatever its registers hold, and nothing that it
-- computes depends on where it stands.
abbrev pub is_straight : Instr → Bool
is_straight (instr.Auipc rd imm) = false
is_straight (instr.Jal rd offset) = false
is_straight (instr.Jalr rd rs1 offset) = false
is_straight (instr.Branch op rs1 rs2 offset) = false
is_straight instr.Ecall = false
is_straight instr.Ebreak = false
is_straight instruction = true

-- The byte that a value names is there; of the bytes of so many words.
abbrev pub IsValue : ℕ → Value → Type 0
IsValue words (Number number) = Unit {0}
IsValue words (Address byte) = byte < 4 * words

-- So are the bytes of a location.
abbrev pub IsLocation : ℕ → Location → Type 0
IsLocation words location = location.byte + bytes_of location.number_type.width ≤ 4 * words

-- What is looked at is there.
abbrev pub IsObserved : ℕ → ℕ → Observed → Type 0
IsObserved threads locations (observed.Register hart register) = (hart < threads) × (0 < register) × (register < 32)
IsObserved threads locations (observed.Location index) = index < locations

-- So is what a step names, of so many steps.
abbrev pub IsStep : ℕ → LitmusStep → Type 0
IsStep steps (Straight instruction) = IsInstructionInRange instruction × (is_straight instruction ≡ true)
IsStep steps (Constant register value) = register < 32
IsStep steps (Branch op left right target) = (left < 32) × (right < 32) × (target ≤ steps)
IsStep steps (Fence fence) = Unit {0}

abbrev pub IsStart : ℕ → RegisterStart → Type 0
IsStart words start = (0 < start.register) × (start.register < 32) × IsValue words start.value

pub record IsThread (words : ℕ) (thread : Thread) : Type 0 where
  pub starts : All (IsStart words) thread.starts.items
  pub few : length thread.starts.items ≤ 31
  pub steps : All (IsStep (length thread.steps.items)) thread.steps.items
  pub short : length thread.steps.items ≤ most_steps

-- How many words of code a step comes to.
abbrev pub step_length : LitmusStep → ℕ
step_length (Straight instruction) = 1
step_length (Constant register value) = 2
step_length (Branch op left right target) = 1
step_length (Fence fence) = 1

-- How many words of code a hart has: one before its starts, two for each of them, its steps, and one at its end.
abbrev pub thread_length : Thread → ℕ
thread_length thread = 2 + 2 * length thread.starts.items + sum_by step_length thread.steps.items

-- Each term of a condition is about something that tells final states apart, and as wide as that.
abbrev pub IsTerm : ℕ → List Location → List Observed → Term → Type 0
IsTerm words locations observed term = Contains observed term.observed × IsValue words term.value
    × (term.width ≡ (type_of locations term.observed).width)

abbrev pub IsCondition : ℕ → List Location → List Observed → Condition → Type 0
IsCondition words locations observed Always = Unit {0}
IsCondition words locations observed (Holds term) = IsTerm words locations observed term
IsCondition words locations observed (Not' p condition) = IsCondition words locations observed condition
IsCondition words locations observed (Both' p first q second) =
    IsCondition words locations observed first × IsCondition words locations observed second
IsCondition words locations observed (Either' p first q second) =
    IsCondition words locations observed first × IsCondition words locations observed second
IsCondition words locations observed (Implies' p first q second) =
    IsCondition words locations observed first × IsCondition words locations observed second
IsCondition words locations observed (Equivalent' p first q second) =
    IsCondition words locations observed first × IsCondition words locations observed second

pub record IsWellFormed (test : LitmusTest) : Type 0 where
  pub harts : (1 ≤ length test.threads.items) × (length test.threads.items ≤ most_harts)
  pub words : length test.words.items ≤ most_locations
  pub initials : All (IsValue (length test.words.items)) test.words.items
  pub locations : All (IsLocation (length test.words.items)) test.locations.items
  pub threads : All (IsThread (length test.words.items)) test.threads.items
  pub short : sum_by thread_length test.threads.items ≤ most_words
  pub condition : IsCondition (length test.words.items) test.locations.items test.observed.items test.condition
  pub filter : IsCondition (length test.words.items) test.locations.items test.observed.items test.filter
  pub observed : All (IsObserved (length test.threads.items) (length test.locations.items)) test.observed.items
  pub few : length test.observed.items ≤ most_observed
