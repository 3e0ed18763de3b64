-- What a line says that is typed at the prompt, and how lines are read. (This project's own choice.)
use Rattle.std.specs.Prelude.{◌≡◌, ℕ, ◌<◌, List, length, codes, Option, Some, None, IfSome}
use Rattle.std.specs.{Str.IsTrimAscii, Io.StopsAt}
use Rattle.std.specs.Io.{KnownBytes.Consumes, BufRead.take_through}
use Rattle.scripts.specs.Comments.{uncommented}
use Rattle.prompts.specs.declared.command.Command.{Command}
use Rattle.prompts.specs.declared.command.Command.TheVariants as command

-- The word of each command.
abbrev pub command_text : Command → List ℕ
command_text command.Show = codes "show"
command_text command.Why = codes "why"
command_text command.Chart = codes "chart"
command_text command.Undo = codes "undo"
command_text command.Help = codes "help"
command_text command.Quit = codes "quit"

-- The word is this command's; or it is none's.
abbrev pub Names : List ℕ → Option Command → Type 0
Names word (Some said) = word ≡ command_text said
Names word None = (said : Command) → word ≡ command_text said → ⊥

-- The command that a line says, whatever spaces stand about it.
abbrev pub IsRead : List ℕ → Option Command → Type 0
IsRead line said = (word : List ℕ) × IsTrimAscii line word × Names word said

-- A line, with its newline, is what comes next of an input, of which this is left behind it. Only the
-- last line of an input may have no newline.
pub record IsTypedLine (old : Option (List ℕ)) (line : List ℕ) (new : Option (List ℕ)) : Type 0 where
  pub some : 0 < length line
  pub ends : StopsAt line 10
  pub next : IfSome old (λ bytes. line ≡ take_through 10 bytes)
  pub consumed : Consumes old new line

-- It is read without its comments.
pub record IsNextLine (old : Option (List ℕ)) (line : List ℕ) (new : Option (List ℕ)) : Type 0 where
  pub typed : List ℕ
  pub comes : IsTypedLine old typed new
  pub read : line ≡ uncommented typed
