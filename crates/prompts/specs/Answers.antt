-- What a line is answered that is typed at the prompt, and what it leaves. (This project's own choice.)
use Rattle.std.specs.Prelude.{◌≡◌, ℕ, ◌-◌, ◌<◌, Bool, List, [], ◌∷◌, ◌++◌, length, take, Vec}
use Rattle.std.specs.Prelude.{Option, Some, None, Result, Ok, Err}
use Rattle.scripts.specs.{declared.actions.ScriptWord.ScriptWord, Script.IsScript, Script.IsFirstMisspelled}
use Rattle.reports.specs.Tables.{AreTablesOf}
use Rattle.prompts.specs.declared.command.Command.{Command}
use Rattle.prompts.specs.declared.command.Command.TheVariants as command
use Rattle.prompts.specs.declared.session.Complaint.{Complaint}
use Rattle.prompts.specs.declared.session.Complaint.TheVariants as complaint
use Rattle.prompts.specs.{declared.session.TheConstants.MOST_BYTES, Typed.IsRead, Kept.Standing}
use Rattle.prompts.specs.Printed.{complaint_text, help_text, IsChartOf, AreLinesOfAsks}

-- When a line is complained of. Of memory nothing is said.
abbrev pub IsComplaint : List ℕ → Complaint → Type 0
IsComplaint line (complaint.Word n) = IsRead line None × IsFirstMisspelled line n
IsComplaint line complaint.TooLong = MOST_BYTES < length line
IsComplaint line complaint.Memory = Unit {0}
IsComplaint line complaint.Unread = ⊥

-- What a command comes to, from where the prompt stood to where it stands then: only `undo` changes anything, and takes
-- the last line back. How `why` explains the last line is not said here.
abbrev pub Follows : Command → Standing → Standing → List ℕ → Type 0
Follows command.Undo old now text = (now.kept ≡ take (length old.kept - 1) old.kept) × (text ≡ [])
Follows command.Show old now text = (now ≡ old) × AreTablesOf old.core text
Follows command.Why old now text = (now ≡ old) × (old.kept ≡ [] → text ≡ [])
Follows command.Chart old now text = (now ≡ old) × IsChartOf old.core text
Follows command.Help old now text = (now ≡ old) × (text ≡ help_text)
Follows command.Quit old now text = (now ≡ old) × (text ≡ [])

-- What a line of words comes to: it is kept behind the others, and the lines of its asks are printed. One without words
-- does nothing.
abbrev pub AsksWords : Bool → List ScriptWord → Standing → Standing → List ℕ → Type 0
AsksWords explains [] old now text = (now ≡ old) × (text ≡ [])
AsksWords explains (word ∷ others) old now text =
    (now.kept ≡ old.kept ++ (word ∷ others) ∷ []) × AreLinesOfAsks explains old.lines now.lines text

-- What a line comes to that says this command, or none and so is words of a script.
abbrev pub ComesOf : Bool → Option Command → List ℕ → Standing → Standing → List ℕ → Type 0
ComesOf explains (Some said) line old now text = Follows said old now text
ComesOf explains None line old now text =
    (words : List ScriptWord) × IsScript line words × AsksWords explains words old now text

-- What a line is answered: it is complained of and leaves all as it is, or it does what it says.
abbrev pub IsAnswered : Bool → List ℕ → Option Complaint → Standing → Standing → List ℕ → Type 0
IsAnswered explains line (Some why) old now text = IsComplaint line why × (now ≡ old) × (text ≡ complaint_text why)
IsAnswered explains line None old now text =
    (said : Option Command) × IsRead line said × ComesOf explains said line old now text

-- What was complained of in place of an answer; and what is printed of both.
abbrev pub complaint_in : {A : Type 0} → Result A Complaint → Option Complaint
complaint_in (Ok answer) = None
complaint_in (Err why) = Some why

abbrev pub answer_text : {A : Type 0} → Result (Vec ℕ A) Complaint → List ℕ
answer_text (Ok text) = text.items
answer_text (Err why) = complaint_text why
