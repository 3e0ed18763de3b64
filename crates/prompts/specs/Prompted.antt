-- What comes of the lines that are typed at the prompt. (This project's own choice.)
use Rattle.std.specs.Prelude.{◌≡◌, ℕ, Bool, List, [], ◌∷◌, ◌++◌, codes, Option, Some}
use Rattle.std.specs.{Io.KnownBytes.Keeps, Io.KnownBytes.IsAtEnd}
use Rattle.smt_model.specs.Setup.{Setup}
use Rattle.core_state.specs.View.{CoreView}
use Rattle.prompts.specs.declared.command.Command.TheVariants.{Quit}
use Rattle.prompts.specs.declared.session.Complaint.{Complaint}
use Rattle.prompts.specs.declared.session.Complaint.TheVariants as complaint
use Rattle.prompts.specs.declared.prompting.Ended.{Ended}
use Rattle.prompts.specs.declared.prompting.Ended.TheVariants as ended
use Rattle.prompts.specs.{Typed.IsRead, Typed.IsNextLine, Kept.Kept, Kept.IsAskedAll, Kept.Standing, Kept.Stands}
use Rattle.prompts.specs.{Printed.sign, Printed.complaint_text, Answers.IsAnswered}

-- A line that was typed, without its comments, the complaint that it was answered, if any, and what was printed of it.
pub record Typed : Type 0 where
  pub line : List ℕ
  pub complaint : Option Complaint
  pub answer : List ℕ

-- These lines, the newest first, were read of an input, of which this is left; each was answered where the prompt
-- stood behind the line before it, at first with no line kept, and now it stands here. This holds of each place where it
-- has stood.
abbrev pub HaveCome : (Standing → Type 0) → Bool → Option (List ℕ) → List Typed → Option (List ℕ) → Standing
    → Type 0
HaveCome Holds explains input [] rest now = Keeps input rest × (now.kept ≡ []) × Holds now
HaveCome Holds explains input (typed ∷ before) rest now =
    (mid : Option (List ℕ)) × (old : Standing) × HaveCome Holds explains input before mid old
    × IsNextLine mid typed.line rest × IsAnswered explains typed.line typed.complaint old now typed.answer × Holds now

-- What was printed of these lines, the newest first: of each the sign, behind which it was typed, and its answer.
abbrev pub printed_of : List Typed → List ℕ
printed_of [] = []
printed_of (typed ∷ before) = printed_of before ++ (sign ++ typed.answer)

-- A line couldn't be read.
abbrev pub IsUnread : Complaint → Type 0
IsUnread (complaint.Word number) = ⊥
IsUnread complaint.TooLong = ⊥
IsUnread complaint.Memory = Unit {0}
IsUnread complaint.Unread = Unit {0}

-- How the lines came to their end, and what was printed then: the newest says so, nothing is left of the input, or a
-- read failed.
abbrev pub IsEnd : Ended → List Typed → Option (List ℕ) → List ℕ → Type 0
IsEnd ended.Quit [] rest text = ⊥
IsEnd ended.Quit (typed ∷ before) rest text = IsRead typed.line (Some Quit) × (text ≡ [])
IsEnd ended.Input typed rest text = IsAtEnd rest × (text ≡ sign ++ codes "\n")
IsEnd ended.Unread typed rest text = (why : Complaint) × IsUnread why × (text ≡ sign ++ complaint_text why)

-- Lines were read of an input and answered up to their end, and just this was printed; now the prompt stands here.
pub record HasTyped (Holds : Standing → Type 0) (explains : Bool) (input : Option (List ℕ)) (now : Standing)
    (end : Ended) (text : List ℕ) : Type 0 where
  pub typed : List Typed
  pub rest : Option (List ℕ)
  pub have_come : HaveCome Holds explains input typed rest now
  pub last : List ℕ
  pub is_end : IsEnd end typed rest last
  pub printed : text ≡ printed_of typed ++ last

-- What the prompt comes to: what it has printed, line by line, the core that has been asked the words of all lines
-- that were kept, and how many of each actor's asks it has answered idle. Where it stood before, the core was that of
-- the lines that were kept then.
pub record IsPrompted {P : Type 0} (predicts : P → ℕ → ℕ → ℕ → ℕ → P → Type 0) (before : P)
    (setup : Setup) (limit : ℕ) (explains : Bool) (input : Option (List ℕ)) (end : Ended) (core : CoreView)
    (idle : List ℕ) (text : List ℕ) : Type 0 where
  pub kept : Kept
  pub lines : List ℕ
  pub has_typed : HasTyped (Stands predicts before setup limit) explains input
      (record { kept = kept; core = core; idle = idle; lines = lines }) end text
  pub asked : IsAskedAll predicts before setup limit kept core idle lines
