-- The rounds in which the numbers are gathered that reads may find: each of them knows what harts write on their ways
-- by the numbers of the one before it.
use Rattle.std.specs.Prelude.{◌≡◌, Bool, true, ◌&&◌, List, [], ◌∷◌, All, Contains}
use Rattle.std.specs.List.{AllZip, list_all}
use Rattle.litmus_tests.specs.declared.{test.LitmusTest.LitmusTest, test.Thread.Thread}
use Rattle.litmus_runs.specs.declared.{known.Held.Held, known.Known.Known, runs.HartRuns.HartRuns}
use Rattle.litmus_runs.specs.Turns.{has_conditionals}
use Rattle.litmus_runs.specs.AllWays.{AreAllListed, AreAllLearnt, HasInitial}

-- A table has what another one has, and what is written on each way by its numbers.
pub record IsNext (test : LitmusTest) (known table : List Held) : Type 0 where
  pub kept : (held : Held) → Contains known held → Contains table held
  pub written : All (λ thread. AreAllLearnt (has_conditionals test) thread known table) test.threads.items

-- The tables of some rounds, the newest first: the first table of all has the numbers of the start.
abbrev pub AreRounds : LitmusTest → List Held → List (List Held) → Type 0
AreRounds test table [] = HasInitial test table
AreRounds test table (known ∷ earlier) = IsNext test known table × AreRounds test known earlier

-- Of each hart all ways by these numbers are listed.
abbrev pub AreListedBy : LitmusTest → List Held → List HartRuns → Type 0
AreListedBy test known harts =
    AllZip (λ thread hart. AreAllListed (has_conditionals test) thread known hart.runs.items) test.threads.items harts

-- What is listed are all ways by the numbers of a round.
pub record AreAll (test : LitmusTest) (harts : List HartRuns) : Type 0 where
  pub known : List Held
  pub earlier : List (List Held)
  pub rounds : AreRounds test known earlier
  pub listed : AreListedBy test known harts

-- A table is closed: it has the numbers of the start, and each that is written on a way by its numbers. What is listed
-- are all ways by such a table.
pub record AreAllClosed (test : LitmusTest) (harts : List HartRuns) : Type 0 where
  pub known : List Held
  pub initial : HasInitial test known
  pub closed : IsNext test known known
  pub listed : AreListedBy test known harts

-- A hart's ways by these numbers, where they are told to be whole: all are listed, and what they write is in the table
-- where that is told to be whole.
pub record IsTold (test : LitmusTest) (known : List Held) (table : Known) (thread : Thread) (hart : HartRuns) : Type 0 where
  pub listed : hart.is_whole ≡ true → AreAllListed (has_conditionals test) thread known hart.runs.items
  pub learnt : hart.is_whole ≡ true → table.is_whole ≡ true
      → AreAllLearnt (has_conditionals test) thread known table.held.items

-- There were rounds before this one.
pub record HasRounds (test : LitmusTest) (known : Known) : Type 0 where
  pub earlier : List (List Held)
  pub rounds : AreRounds test known.held.items earlier

-- Nothing was left out: neither a number nor a way.
abbrev pub are_whole : Known → List HartRuns → Bool
are_whole known harts = known.is_whole && list_all (λ hart. hart.is_whole) harts
