-- What is owed of the names of a line of litmus tests: each comes to a test at least, or to why it is none. (This
-- project's own choice.)
use Rattle.std.specs.Prelude.{◌≡◌, ℕ, ◌+◌, ◌-◌, ◌≤◌, if◌then◌else◌, List, length, count_by, Option, None, Some}
use Rattle.litmus_suites.specs.Sources.{GivenTest}
use Rattle.command_parts.specs.declared.refused.Refused.{Refused}
use Rattle.program_io.specs.declared.test_folder.TestFolder.{TestFolder}
use Rattle.program_io.specs.declared.test_list.TestList.{TestList}
use Rattle.program_io.specs.declared.test_names.TestNames.{TestNames}

-- A folder that is open, and lists, of which nothing has come yet.
abbrev pub owed_of_folder : Option TestFolder → ℕ
owed_of_folder None = 0
owed_of_folder (Some folder) = if folder.is_empty then 1 else 0

abbrev pub owed_of_lists : List TestList → ℕ
owed_of_lists lists = count_by (λ list. list.is_empty) lists

-- How many of the names haven't come to anything yet: those that aren't taken, and those that are open.
abbrev pub owed_of_names : {S : Type 0} → TestNames S → ℕ
owed_of_names names = (length names.words.now - names.taken) + owed_of_lists names.lists.items

abbrev pub owed : {S : Type 0} → TestNames S → ℕ
owed names = owed_of_names names + owed_of_folder names.folder

-- A source of which so many names haven't come to anything: one comes to something at most with each that is given, and
-- behind the last that is given each has.
abbrev pub IsGiven : ℕ → Option GivenTest → ℕ → Type 0
IsGiven names None left = names ≡ 0
IsGiven names (Some given) left = names ≤ left + 1

-- A refusal that is told to it leaves them so.
abbrev pub IsHeard : ℕ → Refused → ℕ → Type 0
IsHeard names refused left = left ≡ names
