-- Tests that say the same: each part of the one is the same part of the other.
use Rattle.std.specs.Prelude.{◌≡◌, Result, Ok, Err}
use Rattle.std.specs.List.{AllZip}
use Rattle.litmus_tests.specs.declared.location.Location.{Location}
use Rattle.litmus_tests.specs.declared.test.{LitmusTest.LitmusTest, Thread.Thread}
use Rattle.litmus_words.specs.declared.refused.ReadingRefused.{ReadingRefused}
use Rattle.litmus_words.specs.declared.refused.ReadingRefused.TheVariants.{Memory, At}
use Rattle.litmus_reading.specs.Grammar.{IsSame}

-- Locations with the same name, in the same place.
pub record IsSameLocation (one other : Location) : Type 0 where
  pub name : one.name.items ≡ other.name.items
  pub element : one.element ≡ other.element
  pub byte : one.byte ≡ other.byte
  pub begin : one.begin ≡ other.begin
  pub number_type : one.number_type ≡ other.number_type

-- Harts that start with the same registers, and do the same.
pub record IsSameThread (one other : Thread) : Type 0 where
  pub starts : one.starts.items ≡ other.starts.items
  pub steps : one.steps.items ≡ other.steps.items

-- Tests with the same name, memory, locations, harts and question, which look at the same. Where their conditions stand
-- in memory is no part of it.
pub record IsSameTest (one other : LitmusTest) : Type 0 where
  pub name : one.name.items ≡ other.name.items
  pub words : one.words.items ≡ other.words.items
  pub locations : AllZip IsSameLocation one.locations.items other.locations.items
  pub threads : AllZip IsSameThread one.threads.items other.threads.items
  pub quantifier : one.quantifier ≡ other.quantifier
  pub condition : IsSame one.condition other.condition
  pub filter : IsSame one.filter other.filter
  pub observed : one.observed.items ≡ other.observed.items

-- A text that is this one's is read as it, unless there was no memory.
abbrev pub IsReadAsTest : LitmusTest → Result LitmusTest ReadingRefused → Type 0
IsReadAsTest test (Ok found) = IsSameTest test found
IsReadAsTest test (Err Memory) = Unit {0}
IsReadAsTest test (Err (At place fault word)) = ⊥
