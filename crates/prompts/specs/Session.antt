-- What a session keeps, and what one line makes of it. (This project's own choice.)
use Rattle.std.specs.Prelude.{◌≡◌, ℕ, Bool, List, ◌++◌, codes, Option, Some, None}
use Rattle.std.specs.Io.KnownBytes.{IsAtEnd}
use Rattle.smt_model.specs.Setup.{Setup}
use Rattle.prompts.specs.declared.command.Command.TheVariants.{Quit}
use Rattle.prompts.specs.declared.session.Complaint.{Complaint}
use Rattle.prompts.specs.declared.session.Session.{Session}
use Rattle.prompts.specs.declared.prompting.Ended.{Ended}
use Rattle.prompts.specs.declared.prompting.Ended.TheVariants as ended
use Rattle.prompts.specs.{Typed.IsRead, Typed.IsNextLine, Printed.sign, Printed.complaint_text}
use Rattle.prompts.specs.Kept.{kept_in, AreInRange, IsAskedAll, Standing}
use Rattle.prompts.specs.{Answers.IsAnswered, Prompted.IsUnread}

-- The core of a session has been asked the words of all lines that it keeps.
pub record IsSession {P : Type 0} (predicts : P → ℕ → ℕ → ℕ → ℕ → P → Type 0) (before : P)
    (setup : Setup) (limit : ℕ) (session : Session) : Type 0 where
  pub in_range : AreInRange (kept_in session.lines.items)
  pub asked : IsAskedAll predicts before setup limit (kept_in session.lines.items) session.asked.core
      session.asked.idle session.asked.text.items

-- Where the prompt stands that has this session.
abbrev pub standing_of : Session → Standing
standing_of session = record {
  kept = kept_in session.lines.items;
  core = session.asked.core;
  idle = session.asked.idle;
  lines = session.asked.text.items;
}

-- The next line was read and answered, or the lines came to their end; and just this was printed.
abbrev pub IsTurn : Bool → Option (List ℕ) → Option (List ℕ) → Standing → Standing → Option Ended → List ℕ → Type 0
IsTurn explains old new before now None text =
    (line : List ℕ) × (complaint : Option Complaint) × (answer : List ℕ) × IsNextLine old line new
    × IsAnswered explains line complaint before now answer × (text ≡ sign ++ answer)
IsTurn explains old new before now (Some ended.Quit) text =
    (line : List ℕ) × IsNextLine old line new × IsRead line (Some Quit) × (now ≡ before) × (text ≡ sign)
IsTurn explains old new before now (Some ended.Input) text =
    IsAtEnd old × (now ≡ before) × (text ≡ sign ++ codes "\n")
IsTurn explains old new before now (Some ended.Unread) text =
    (why : Complaint) × IsUnread why × (now ≡ before) × (text ≡ sign ++ complaint_text why)
