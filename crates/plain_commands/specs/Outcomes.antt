-- The command `outcomes`: every end that a program has on the plain machine. (This project's own choice.)
use Rattle.std.specs.Prelude.{◌≡◌, ◌⊎◌, ℕ, ◌<◌, Bool, true, false, is_some, List, [], ◌++◌}
use Rattle.std.specs.Prelude.{Option, Some, None, Contains, length}
use Rattle.std.specs.Io.KnownBytes.{Appends}
use Rattle.elf_image.specs.Image.{ProgramImage}
use Rattle.core_state.specs.Setup.{setup_of}
use Rattle.watched_outcomes.specs.{declared.watch.Watch.Watch, declared.watch.WatchedRegister.WatchedRegister}
use Rattle.watched_outcomes.specs.declared.watch.WatchedBytes.{WatchedBytes}
use Rattle.watched_outcomes.specs.{Watching.is_register_there, Watching.AreThere}
use Rattle.searches.specs.declared.extent.Extent.{Extent}
use Rattle.searches.specs.declared.extent.Extent.TheVariants.{Whole}
use Rattle.outcomes.specs.{Found.Found, Found.IsOnce, Parts.IsListing, Parts.IsAskedFor}
use Rattle.outcomes.specs.{Refusals.AreWords, Refusals.CanLoad, Searched.IsSearchedFor}
use Rattle.smt_model.specs.Setup.{Setup}
use Rattle.event_text.specs.Sinking.{HasPut}
use Rattle.address_labels.specs.Labels.{Marks}
use Rattle.story_text.specs.Text.{Plan}
use Rattle.sc_machine.specs.Steps.{are_harts}
use Rattle.outcome_queries.specs.{declared.watched.Asked.Asked, declared.term.Term.Term}
use Rattle.outcome_queries.specs.declared.refused.{QueryRefused.QueryRefused, Expected.Expected}
use Rattle.outcome_queries.specs.declared.question.{Question.Question, Answer.Answer}
use Rattle.symbols.specs.Tables.{Table}
use Rattle.outcome_queries.specs.{Asking.Asks, Watched.IsUnnamed, Lists.IsSeparated}
use Rattle.outcome_queries.specs.Watches.{registers_in, words_in, asked_in, registers_asked, memory_asked}
use Rattle.outcome_queries.specs.Watches.{IsOnceBehind, IsWatchedFor, LacksRoom}
use Rattle.outcome_queries.specs.Harts.{absent_hart, IsHartThere}
use Rattle.outcome_queries.specs.Lists.{IsRefusedFor as IsMisspelledFor}
use Rattle.outcome_text.specs.{Listing.outcomes_text, Answers.answer_text, Answers.answer_of}
use Rattle.outcome_text.specs.{declared.how.How.How}
use Rattle.plain_commands.specs.How.{IsHowOf}
use Rattle.sim_inputs.specs.{declared.settings.Settings.Settings}
use Rattle.sim_inputs.specs.{declared.line.OutcomesCommand.OutcomesCommand}
use Rattle.command_parts.specs.{declared.refused.Refused.Refused}
use Rattle.command_parts.specs.declared.refused.Refused.TheVariants as reasons
use Rattle.plain_commands.specs.Questions.{IsQuestionOf, IsConditionRefused, settles, status_of_answer, status_of_extent}
use Rattle.plain_commands.specs.Questions.{terms_asked}
use Rattle.plain_commands.specs.WrittenOrders.{HasPutOrder, IsTextOf, IsTextRefusal, is_answer_wanted, line_wanted}
use Rattle.plain_commands.specs.WrittenOrders.{order_wanted, stuck_told}
use Rattle.std.specs.{Borrow.Bor, List.All}

-- The list of a command asks for these, where the program has these names.
abbrev pub IsListOf : Table → Option (Bor (List ℕ)) → List Asked → Type 0
IsListOf names None list = list ≡ []
IsListOf names (Some text) list = IsSeparated (Asks names) 44 text.now list

-- What is asked for: what the list names, in its order, and behind it what the terms of the question ask for, each
-- once.
pub record IsAsked (names : Table) (command : OutcomesCommand) (all : List Asked) (terms : List Term) : Type 0 where
  pub list : List Asked
  pub named : IsListOf names command.watch list
  pub once : IsOnceBehind [] (list ++ asked_in terms) all
  pub told : All (IsWatchedFor all) terms

-- That is watched.
pub record IsWatchOf (watch : Watch) (all : List Asked) : Type 0 where
  pub registers : watch.registers.items ≡ registers_in all
  pub words : watch.words.items ≡ words_in all

-- What was found: outcomes of the program, each once and with an order that leads to it; where the search was whole
-- all of them, and every core ends as one of them says. All that is watched is there. The states are those of a search
-- without the reductions that are left out. Where it has ended with the first outcome that settles the question, that
-- was wanted, and it is listed.
abbrev pub IsFirstWanted : OutcomesCommand → Watch → Option Question → Found → Type 0
IsFirstWanted command watch question found =
    IsAskedFor (λ ending. (command.first ≡ true) × (settles watch question ending ≡ true)) found

pub record IsFound (settings : Settings) (image : ProgramImage) (command : OutcomesCommand) (watch : Watch)
    (question : Option Question) (found : Found) : Type 0 where
  pub searched : IsSearchedFor image settings.config.harts command.without command.states found
  pub listing : IsListing image settings.config.harts watch command.states found
  pub once : IsOnce found
  pub first : IsFirstWanted command watch question found
  pub registers : AreThere settings.config.harts watch
  pub words : AreWords image watch

-- What a command asks, and what is watched for it. Each hart that its condition names is there.
pub record IsAsking (settings : Settings) (names : Table) (command : OutcomesCommand) (question : Option Question)
    (all : List Asked) (watch : Watch) : Type 0 where
  pub asks : IsQuestionOf names command.question question
  pub asked : IsAsked names command all (terms_asked question)
  pub watched : IsWatchOf watch all
  pub there : All (IsHartThere settings.config.harts) (terms_asked question)

-- The line of the answer, and the exit status.
abbrev pub is_whole : Extent → Bool
is_whole Whole = true
is_whole extent = false

abbrev pub answer_found : Watch → Question → Found → Answer
answer_found watch question found =
    answer_of watch question found.listed (is_whole found.extent) (is_some (stuck_told found))

abbrev pub question_text : Watch → Option Question → Found → List ℕ
question_text watch None found = []
question_text watch (Some question) found =
    answer_text watch question (answer_found watch question found) found.listed

abbrev pub status_found : Watch → Option Question → Found → ℕ
status_found watch None found = status_of_extent found.extent
status_found watch (Some question) found = status_of_answer (answer_found watch question found)

-- What is written into the file of an order: its text; or nothing, where there is no order.
abbrev pub IsTextIf : OutcomesCommand → Setup → ℕ → Plan → Option (List ℕ) → Option (List ℕ) → Option (List ℕ) → Type 0
IsTextIf command setup limit plan None line None = Unit {0}
IsTextIf command setup limit plan (Some order) line (Some text) =
    IsTextOf command setup limit plan order line text
IsTextIf command setup limit plan order line text = ⊥

-- The story that a command wants.
abbrev pub plan_for : Settings → Table → Marks → OutcomesCommand → Plan
plan_for settings names marks command = record {
  harts = settings.config.harts;
  all = command.all;
  names = names;
  marks = marks;
}

-- What is printed of what was found, with how many states searches have, where that is told, and the answer.
abbrev pub found_text : OutcomesCommand → List Asked → Watch → Option Question → Option How → Found → List ℕ
found_text command all watch question how found = outcomes_text (registers_asked all) (memory_asked all) found
    (is_some (stuck_told found)) command.states how (question_text watch question found)

-- Why a condition holds of none is told in lines, of which nothing is said but that there are none where it isn't
-- asked; and a picture is drawn of that where one is wanted alone.
abbrev pub IsWhyOf : OutcomesCommand → List ℕ → Type 0
IsWhyOf command why = command.why ≡ false → why ≡ []

abbrev pub IsDrawnFor : OutcomesCommand → Option (List ℕ) → Type 0
IsDrawnFor command picture = is_some command.svg ≡ false → picture ≡ None

-- What is put into the file: the picture, where there is one, else the order.
abbrev pub HasPutWanted : {S : Type 0} → (S → Option (List ℕ)) → (S → Bool) → S → S → Settings → ProgramImage
    → OutcomesCommand → Plan → Option (List ℕ) → Option (List ℕ) → Option (List ℕ) → Type 0
HasPutWanted written has_failed old new settings image command plan None order line =
    HasPutOrder written has_failed old new settings image command plan order line
HasPutWanted written has_failed old new settings image command plan (Some picture) order line =
    HasPut written has_failed old new picture

-- It is printed, with how many states other searches have and behind it why, where these are asked; and of the same an
-- order is written, where one is wanted and there is one, and no picture of why has its file. `Put` says what was
-- written.
pub record HasTold (settings : Settings) (image : ProgramImage) (command : OutcomesCommand) (plan : Plan)
    (all : List Asked) (watch : Watch) (question : Option Question) (found : Found) (Put : Option (List ℕ) → Type 0)
    (old new : Option (List ℕ)) (exit_status : ℕ) : Type 0 where
  pub text : Option (List ℕ)
  pub how : Option How
  pub is_how : IsHowOf image settings.config.harts watch command found how
  pub why : List ℕ
  pub is_why : IsWhyOf command why
  pub printed : Appends old new (found_text command all watch question how found ++ why)
  pub status : exit_status ≡ status_found watch question found
  pub is_text : is_some command.svg ≡ false → IsTextIf command (setup_of image settings.config) settings.limit plan
      (order_wanted command watch question found) (line_wanted command all watch question found) text
  pub put : Put text

-- A text is put into a file whole; or it is what it was.
abbrev pub HasPutText : {S : Type 0} → (S → Option (List ℕ)) → (S → Bool) → S → S → Option (List ℕ) → Type 0
HasPutText written has_failed old new None = new ≡ old
HasPutText written has_failed old new (Some text) = HasPut written has_failed old new text

-- So it is of something that the search has found.
pub record HasToldFound (settings : Settings) (image : ProgramImage) (command : OutcomesCommand) (plan : Plan)
    (all : List Asked) (watch : Watch) (question : Option Question) (Put : Option (List ℕ) → Type 0)
    (old new : Option (List ℕ)) (exit_status : ℕ) : Type 0 where
  pub found : Found
  pub is_found : IsFound settings image command watch question found
  pub told : HasTold settings image command plan all watch question found Put old new exit_status

-- What the command comes to.
pub record OutcomesComeTo (settings : Settings) (image : ProgramImage) (names : Table) (marks : Marks)
    (command : OutcomesCommand) (Put : Option (List ℕ) → Type 0) (old new : Option (List ℕ)) (exit_status : ℕ)
    : Type 0 where
  pub question : Option Question
  pub all : List Asked
  pub watch : Watch
  pub asking : IsAsking settings names command question all watch
  pub told : HasToldFound settings image command (plan_for settings names marks command) all watch question Put
      old new exit_status

-- ---- Refusals

-- The list is misspelled, or names what isn't there, at the column that is told.
abbrev pub IsMisspelled : Table → Option (Bor (List ℕ)) → QueryRefused → Type 0
IsMisspelled names None why = ⊥
IsMisspelled names (Some text) why = IsMisspelledFor (Asks names) (IsUnnamed names) 44 text.now why

-- The list and the terms name more than can be watched.
pub record NamesMany (names : Table) (command : OutcomesCommand) (terms : List Term) : Type 0 where
  pub list : List Asked
  pub named : IsListOf names command.watch list
  pub many : LacksRoom [] (list ++ asked_in terms)

-- The question names a hart that isn't there, this one first.
pub record NamesAbsent (settings : Settings) (names : Table) (command : OutcomesCommand) (hart : ℕ) : Type 0 where
  pub question : Option Question
  pub is : IsQuestionOf names command.question question
  pub first : absent_hart settings.config.harts (terms_asked question) ≡ Some hart

-- What is watched of a search that finds nothing: of a register of a hart that isn't there, or of a word.
pub record WatchesAbsent (settings : Settings) (names : Table) (command : OutcomesCommand) (hart : ℕ) : Type 0 where
  pub question : Option Question
  pub all : List Asked
  pub watch : Watch
  pub asking : IsAsking settings names command question all watch
  pub watched : WatchedRegister
  pub contained : Contains watch.registers.items watched
  pub is : hart ≡ watched.hart
  pub absent : is_register_there settings.config.harts watched ≡ false

-- A hart is named that isn't there.
abbrev pub LacksHart : Settings → Table → OutcomesCommand → ℕ → Type 0
LacksHart settings names command hart =
    NamesAbsent settings names command hart ⊎ WatchesAbsent settings names command hart

pub record LacksWord (settings : Settings) (image : ProgramImage) (names : Table) (command : OutcomesCommand)
    (bytes : WatchedBytes) : Type 0 where
  pub question : Option Question
  pub all : List Asked
  pub watch : Watch
  pub asking : IsAsking settings names command question all watch
  pub contained : Contains watch.words.items bytes
  pub fault : CanLoad image bytes → ⊥

-- Of what was found this holds.
pub record OfFound (settings : Settings) (image : ProgramImage) (names : Table) (command : OutcomesCommand)
    (Holds : Watch → Option Question → Found → Type 0) : Type 0 where
  pub question : Option Question
  pub all : List Asked
  pub watch : Watch
  pub found : Found
  pub asking : IsAsking settings names command question all watch
  pub is_found : IsFound settings image command watch question found
  pub holds : Holds watch question found

-- The outcome that is wanted isn't there; or no state is stuck, of all; or nothing settles the question whose order is
-- wanted.
abbrev pub LacksOutcome : OutcomesCommand → ℕ → Found → Type 0
LacksOutcome command number found =
    (command.outcome ≡ Some number) × ((number ≡ 0) ⊎ (length found.listed < number))

abbrev pub IsNotStuck : OutcomesCommand → Found → Type 0
IsNotStuck command found = (command.stuck ≡ true) × (found.extent ≡ Whole) × (found.stuck ≡ None)

abbrev pub LacksAnswer : OutcomesCommand → Watch → Option Question → Found → Type 0
LacksAnswer command watch question found =
    (is_answer_wanted command ≡ true) × (order_wanted command watch question found ≡ None)

-- What is refused of a search that has found nothing.
abbrev pub IsSearchRefusal : ProgramImage → ℕ → Watch → Refused → Type 0
IsSearchRefusal image harts watch reasons.Config = are_harts harts ≡ false
IsSearchRefusal image harts watch (reasons.NoHart hart) = (w : WatchedRegister)
    × Contains watch.registers.items w
    × (is_register_there harts w ≡ false) × (hart ≡ w.hart)
IsSearchRefusal image harts watch (reasons.NoWord bytes) =
    Contains watch.words.items bytes × (CanLoad image bytes → ⊥)
IsSearchRefusal image harts watch reasons.Memory = Unit {0}
IsSearchRefusal image harts watch _ = ⊥

-- What is refused of why: a picture is wanted, and there is nothing to draw.
abbrev pub IsWhyRefusal : OutcomesCommand → Refused → Type 0
IsWhyRefusal command reasons.NothingToDraw = is_some command.svg ≡ true
IsWhyRefusal command reasons.Memory = Unit {0}
IsWhyRefusal command _ = ⊥

-- What is refused of what was found, of why, or of its order as that is put into a file.
abbrev pub IsFoundRefusal : Settings → ProgramImage → OutcomesCommand → Watch → Option Question → Found → Refused → Type 0
IsFoundRefusal settings image command watch question found (reasons.NoOutcome number) =
    LacksOutcome command number found
IsFoundRefusal settings image command watch question found reasons.NotStuck = IsNotStuck command found
IsFoundRefusal settings image command watch question found reasons.NoAnswer =
    LacksAnswer command watch question found
IsFoundRefusal settings image command watch question found reasons.NothingToDraw = is_some command.svg ≡ true
IsFoundRefusal settings image command watch question found reason = IsTextRefusal settings image command reason

-- Of a search: it has found nothing, or what it found is refused.
abbrev pub IsAnyRefusal : Settings → ProgramImage → OutcomesCommand → Watch → Option Question → Refused → Type 0
IsAnyRefusal settings image command watch question why = IsSearchRefusal image settings.config.harts watch why
    ⊎ ((found : Found) × IsFound settings image command watch question found
    × IsFoundRefusal settings image command watch question found why)

-- There isn't enough memory, or the output takes no more.
abbrev pub IsWant : Refused → Type 0
IsWant reasons.Memory = Unit {0}
IsWant reasons.Output = Unit {0}
IsWant _ = ⊥

-- What is refused by what reads the list, by what watches for the terms too, and by what looks at their harts.
abbrev pub IsListRefusal : Table → OutcomesCommand → Refused → Type 0
IsListRefusal names command (reasons.Watch why) = IsMisspelled names command.watch why
IsListRefusal names command _ = ⊥

abbrev pub IsWatchRefusal : Table → OutcomesCommand → List Term → Refused → Type 0
IsWatchRefusal names command terms reasons.ManyWatched = NamesMany names command terms
IsWatchRefusal names command terms reason = IsListRefusal names command reason

abbrev pub IsHartRefusal : ℕ → List Term → Refused → Type 0
IsHartRefusal harts terms (reasons.NoHart hart) = absent_hart harts terms ≡ Some hart
IsHartRefusal harts terms _ = ⊥

-- When each refusal comes. Of memory nothing is said.
abbrev pub IsOutcomesRefusal : Settings → ProgramImage → Table → OutcomesCommand → Refused → Type 0
IsOutcomesRefusal settings image names command (reasons.Watch why) = IsMisspelled names command.watch why
IsOutcomesRefusal settings image names command (reasons.Condition why) =
    IsConditionRefused names command.question (reasons.Condition why)
IsOutcomesRefusal settings image names command reasons.ManyWatched =
    (question : Option Question) × IsQuestionOf names command.question question
    × NamesMany names command (terms_asked question)
IsOutcomesRefusal settings image names command (reasons.NoHart hart) = LacksHart settings names command hart
IsOutcomesRefusal settings image names command (reasons.NoWord bytes) =
    LacksWord settings image names command bytes
IsOutcomesRefusal settings image names command reasons.Memory = Unit {0}
IsOutcomesRefusal settings image names command reasons.Output = Unit {0}
IsOutcomesRefusal settings image names command reasons.Config = (are_harts settings.config.harts ≡ false)
    ⊎ OfFound settings image names command
    (λ watch question found. IsFoundRefusal settings image command watch question found reasons.Config)
IsOutcomesRefusal settings image names command reason = OfFound settings image names command
    (λ watch question found. IsFoundRefusal settings image command watch question found reason)
