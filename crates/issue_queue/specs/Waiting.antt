-- Which source waits for which register, as lists that are linked both ways.
use Rattle.std.specs.Prelude.{◌≡◌, ◌≢◌, ℕ, ◌+◌, ◌*◌, ◌<◌, ◌==◌, if◌then◌else◌, List, [], ◌∷◌, Option, Some, None}
use Rattle.std.specs.Prelude.{slice_index}
use Rattle.std.specs.List.{AllByRecursion}
use Rattle.numbers.specs.Sizes.{most_queued, most_registers}
use Rattle.issue_queue.specs.Lists.{Stands}
use Rattle.issue_queue.specs.declared.waiting.WaitingLists.{WaitingLists}

-- a node for each source of each entry, then a place for each register
abbrev pub nodes : ℕ
nodes = 2 * most_queued

abbrev pub places : ℕ
places = nodes + most_registers

-- where a register's list begins
abbrev pub place_of : ℕ → ℕ
place_of register = nodes + register

-- From a place on these nodes follow: each is named by the one before it, and names that one; the
-- last names no place.
abbrev pub Follow : (ℕ → ℕ) → (ℕ → ℕ) → ℕ → List ℕ → Type 0
Follow next before at [] = next at ≡ places
Follow next before at (n ∷ ns) =
    (next at ≡ n) × (before n ≡ at) × (n < nodes) × Follow next before n ns

-- no node stands in a list twice
abbrev pub AreDistinct : List ℕ → Type 0
AreDistinct [] = Unit {0}
AreDistinct (n ∷ ns) = AllByRecursion (λ m. n ≢ m) ns × AreDistinct ns

-- A register's list is exactly the nodes that wait for it, given for what each node waits.
pub record IsList (next before : ℕ → ℕ) (waits : ℕ → Option ℕ) (register : ℕ) : Type 0 where
  pub members : List ℕ
  pub follow : Follow next before (place_of register) members
  pub distinct : AreDistinct members
  pub only : AllByRecursion (λ n. waits n ≡ Some register) members
  pub each : (n : ℕ) → n < nodes → waits n ≡ Some register → Stands n members

abbrev pub AreLists : (ℕ → ℕ) → (ℕ → ℕ) → (ℕ → Option ℕ) → Type 0
AreLists next before waits =
    (register : ℕ) → register < most_registers → IsList next before waits register

-- Each register's list is exactly the nodes that wait for it.
abbrev pub IsLinked : WaitingLists → (ℕ → Option ℕ) → Type 0
IsLinked lists waits = AreLists (slice_index lists.next) (slice_index lists.before) waits

-- what each node waits for, once one of them waits for this
abbrev pub with_register : (ℕ → Option ℕ) → ℕ → Option ℕ → ℕ → Option ℕ
with_register waits node register n = if n == node then register else waits n

-- a node that waits for the register, if any does
abbrev pub IsFirst : (ℕ → Option ℕ) → ℕ → Option ℕ → Type 0
IsFirst waits register None = (n : ℕ) → n < nodes → waits n ≢ Some register
IsFirst waits register (Some n) = (n < nodes) × (waits n ≡ Some register)

-- the node waits for a register that has a list
pub record WaitsThere (lists : WaitingLists) (node : ℕ) : Type 0 where
  pub waits : ℕ → Option ℕ
  pub linked : IsLinked lists waits
  pub register : ℕ
  pub inside : register < most_registers
  pub there : waits node ≡ Some register
