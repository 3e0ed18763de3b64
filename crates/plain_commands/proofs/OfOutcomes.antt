-- What is refused of a search for outcomes is refused of the command, and so is what it found.
use Rattle.std.specs.Prelude.{◌≡◌, ◌⊎◌, ℕ, ◌+◌, ◌<◌, Bool, Option, Some, None, List, ◌++◌, length, take, get_or}
use Rattle.std.specs.Prelude.{[], false, is_some, if◌then◌else◌}
use Rattle.std.specs.Borrow.{Bor}
use Rattle.std.specs.Io.KnownBytes.{Appends}
use Rattle.std.proofs.Common.{inl, inr, sym, ap, subst, refl, ◌∙◌}
use Rattle.std.proofs.lemmas.Bool.{true≢false}
use Rattle.std.proofs.{lemmas.List.take_more, lemmas.List.flat_map_more}
use Rattle.text_fields.proofs.Appending.{appends_more}
use Rattle.stress_runs.specs.Kept.{order_line, order_text}
use Rattle.elf_image.specs.Image.{ProgramImage}
use Rattle.outcomes.specs.{Found.Found}
use Rattle.watched_outcomes.specs.{declared.watch.Watch.Watch}
use Rattle.sim_inputs.specs.{declared.settings.Settings.Settings}
use Rattle.sim_inputs.specs.{declared.line.OutcomesCommand.OutcomesCommand}
use Rattle.sim_inputs.specs.declared.line.QuestionText.{QuestionText}
use Rattle.sim_inputs.specs.declared.line.QuestionText.TheVariants as texts
use Rattle.command_parts.specs.declared.refused.Refused.{Refused}
use Rattle.command_parts.specs.declared.refused.Refused.TheVariants as reason
use Rattle.symbols.specs.Tables.{Table}
use Rattle.outcome_queries.specs.{declared.watched.Asked.Asked, Watches.registers_in, Watches.words_in}
use Rattle.outcome_queries.specs.declared.question.Question.{Question}
use Rattle.address_labels.specs.Labels.{Marks}
use Rattle.story_text.specs.Text.{Plan}
use Rattle.outcome_queries.specs.{declared.term.Term.Term, Harts.IsHartThere}
use Rattle.std.specs.List.{All}
use Rattle.outcome_text.specs.{declared.how.How.How}
use Rattle.plain_commands.specs.How.{IsHowOf}
use Rattle.plain_commands.specs.Questions.{IsConditionRefused, IsQuestionOf, IsTextRefused, terms_asked}
use Rattle.plain_commands.specs.WrittenOrders.{line_wanted, order_wanted, wants_order}
use Rattle.sim_inputs.specs.Files.{written_of_outcomes, written_order}
use Rattle.plain_commands.specs.Outcomes.{HasPutText, HasPutWanted, HasTold, HasToldFound, IsAsked, IsDrawnFor, IsWhyOf}
use Rattle.plain_commands.specs.Outcomes.{IsWhyRefusal, OutcomesComeTo, found_text}
use Rattle.plain_commands.specs.Outcomes.{plan_for, status_found}
use Rattle.plain_commands.specs.Outcomes.{IsAnyRefusal, IsAsking, IsFound, IsFoundRefusal, IsWatchOf, OfFound}
use Rattle.plain_commands.specs.Outcomes.{IsSearchRefusal, IsOutcomesRefusal}
use Rattle.plain_commands.proofs.OfWrittenOrders.{text_put}

-- What is watched for a list, as that is lent.
pub watch_of_lent : (watch : Watch) (lent all : List Asked) → lent ≡ all → watch.registers.items ≡ registers_in lent
    → watch.words.items ≡ words_in lent → IsWatchOf watch all
watch_of_lent watch lent all same registers words = record {
  registers = registers ∙ ap registers_in same;
  words = words ∙ ap words_in same;
}

-- No order is refused so, be it for its script or by the machine.
neither : {A : Type 0} → (order : List ℕ) × ((A × ⊥) ⊎ ⊥) → ⊥
neither is = elim is.1 [
  | inl script ↦ script.1
  | inr machine ↦ machine
]

module _ (settings : Settings) (image : ProgramImage) (names : Table) (command : OutcomesCommand)
    (question : Option Question) (all : List Asked) (watch : Watch)
    (asking : IsAsking settings names command question all watch) where
  search_refused : (why : Refused) → IsSearchRefusal image settings.config.harts watch why
      → IsOutcomesRefusal settings image names command why
  search_refused (reason.Image number) is = absurd is
  search_refused reason.Config is = inl is
  search_refused reason.Harts is = absurd is
  search_refused (reason.Script number) is = absurd is
  search_refused (reason.Order index) is = absurd is
  search_refused (reason.Step index stopped) is = absurd is
  search_refused (reason.Trace line rule) is = absurd is
  search_refused reason.Version is = absurd is
  search_refused (reason.Event index rule) is = absurd is
  search_refused (reason.Prediction index) is = absurd is
  search_refused (reason.Register index) is = absurd is
  search_refused (reason.NoUnit kind) is = absurd is
  search_refused (reason.Limit least) is = absurd is
  search_refused (reason.NoHart hart) is = inr (record {
    question = question;
    all = all;
    watch = watch;
    asking = asking;
    watched = is.0;
    contained = is.1;
    is = is.3;
    absent = is.2;
  })
  search_refused (reason.Lines number fault) is = absurd is
  search_refused (reason.NamesNothing option) is = absurd is
  search_refused (reason.NamesSeveral option) is = absurd is
  search_refused (reason.NeverFetched option) is = absurd is
  search_refused (reason.Turned from to) is = absurd is
  search_refused (reason.Picture last) is = absurd is
  search_refused (reason.Watch why) is = absurd is
  search_refused (reason.Condition why) is = absurd is
  search_refused reason.ManyWatched is = absurd is
  search_refused (reason.NoWord address) is = record {
    question = question;
    all = all;
    watch = watch;
    asking = asking;
    contained = is.0;
    fault = is.1;
  }
  search_refused (reason.NoOutcome number) is = absurd is
  search_refused reason.NotStuck is = absurd is
  search_refused reason.LongStory is = absurd is
  search_refused reason.NoAnswer is = absurd is
  search_refused (reason.Litmus place fault) is = absurd is
  search_refused reason.NothingToDraw is = absurd is
  search_refused reason.Memory is = tt
  search_refused reason.Thread is = absurd is
  search_refused reason.File is = absurd is
  search_refused reason.Output is = absurd is

  of_found : (Holds : Watch → Option Question → Found → Type 0) (found : Found)
      → IsFound settings image command watch question found → Holds watch question found
      → OfFound settings image names command Holds
  of_found Holds found is_found holds = record {
    question = question;
    all = all;
    watch = watch;
    found = found;
    asking = asking;
    is_found = is_found;
    holds = holds;
  }

  module _ (found : Found) (is_found : IsFound settings image command watch question found) where
    found_refused : (why : Refused) → IsFoundRefusal settings image command watch question found why
        → IsOutcomesRefusal settings image names command why
    found_refused (reason.Image number) is = of_found _ found is_found is
    found_refused reason.Config is = inr (of_found _ found is_found is)
    found_refused reason.Harts is = of_found _ found is_found is
    found_refused (reason.Script number) is = of_found _ found is_found is
    found_refused (reason.Order index) is = of_found _ found is_found is
    found_refused (reason.Step index stopped) is = of_found _ found is_found is
    found_refused (reason.Trace line rule) is = of_found _ found is_found is
    found_refused reason.Version is = of_found _ found is_found is
    found_refused (reason.Event index rule) is = of_found _ found is_found is
    found_refused (reason.Prediction index) is = of_found _ found is_found is
    found_refused (reason.Register index) is = of_found _ found is_found is
    found_refused (reason.NoUnit kind) is = of_found _ found is_found is
    found_refused (reason.Limit least) is = of_found _ found is_found is
    found_refused (reason.NoHart hart) is = absurd (neither is)
    found_refused (reason.Lines number fault) is = of_found _ found is_found is
    found_refused (reason.NamesNothing option) is = of_found _ found is_found is
    found_refused (reason.NamesSeveral option) is = of_found _ found is_found is
    found_refused (reason.NeverFetched option) is = of_found _ found is_found is
    found_refused (reason.Turned from to) is = of_found _ found is_found is
    found_refused (reason.Picture last) is = of_found _ found is_found is
    found_refused (reason.Watch why) is = absurd (neither is)
    found_refused (reason.Condition why) is = absurd (neither is)
    found_refused reason.ManyWatched is = absurd (neither is)
    found_refused (reason.NoWord address) is = absurd (neither is)
    found_refused (reason.NoOutcome number) is = of_found _ found is_found is
    found_refused reason.NotStuck is = of_found _ found is_found is
    found_refused reason.LongStory is = of_found _ found is_found is
    found_refused reason.NoAnswer is = of_found _ found is_found is
    found_refused (reason.Litmus place fault) is = of_found _ found is_found is
    found_refused reason.NothingToDraw is = of_found _ found is_found is
    found_refused reason.Memory is = tt
    found_refused reason.Thread is = of_found _ found is_found is
    found_refused reason.File is = of_found _ found is_found is
    found_refused reason.Output is = tt

  pub any_refused : (why : Refused) → IsAnyRefusal settings image command watch question why
      → IsOutcomesRefusal settings image names command why
  any_refused why (inl is) = search_refused why is
  any_refused why (inr is) = found_refused is.0 is.1 why is.2

-- A line more of an order.
pub order_step : (old mid new : Option (List ℕ)) (order : List ℕ) (i d : ℕ) → i < length order
    → Appends old mid (order_text (take i order)) → Appends mid new (order_line (get_or order i d))
    → Appends old new (order_text (take (i + 1) order))
order_step old mid new order i d inside first next =
    let more : order_text (take (i + 1) order) ≡ order_text (take i order) ++ order_line (get_or order i d) =
    ap order_text (take_more order i d inside) ∙ sym (flat_map_more order_line [] (take i order) (get_or order i d)) in
    subst (λ t. Appends old new t) (sym more) (appends_more old mid new _ _ first next)

-- A condition is refused for what it says, or for want of memory.
abbrev IsOfCondition : Refused → Type 0
IsOfCondition (reason.Condition why) = Unit {0}
IsOfCondition reason.Memory = Unit {0}
IsOfCondition _ = ⊥

of_text : (names : Table) (text : List ℕ) (why : Refused) → IsTextRefused names text why → IsOfCondition why
of_text names text (reason.Condition why) is = tt
of_text names text reason.Memory is = tt
of_text names text _ is = absurd is

of_condition : (names : Table) (question : Option QuestionText) (why : Refused)
    → IsConditionRefused names question why → IsOfCondition why
of_condition names (Some (texts.Exists text)) why is = of_text names text.now why is
of_condition names (Some (texts.ForAll text)) why is = of_text names text.now why is
of_condition names (Some (texts.Never text)) why is = of_text names text.now why is
of_condition names (Some texts.NeverStuck) why is = absurd is
of_condition names None why is = absurd is

-- What is refused of a condition is refused of the command.
pub condition_refused : (settings : Settings) (image : ProgramImage) (names : Table) (command : OutcomesCommand)
    (why : Refused) → IsConditionRefused names command.question why → IsOutcomesRefusal settings image names command why
condition_refused settings image names command (reason.Condition why) is = is
condition_refused settings image names command reason.Memory is = tt
condition_refused settings image names command _ is = absurd (of_condition names command.question _ is)

-- What is asked, and what is watched for it.
pub asks_so : (settings : Settings) (names : Table) (command : OutcomesCommand) (question : Option Question)
    (all : List Asked) (watch : Watch) (terms : List Term) → terms ≡ terms_asked question
    → IsQuestionOf names command.question question → IsAsked names command all terms → IsWatchOf watch all
    → All (IsHartThere settings.config.harts) terms → IsAsking settings names command question all watch
asks_so settings names command question all watch terms same asks asked watched there = record {
  asks = asks;
  asked = rw (sym same) asked;
  watched = watched;
  there = rw (sym same) there;
}

-- What the command comes to, by what it tells of what was found.
pub comes_to : (settings : Settings) (image : ProgramImage) (names : Table) (marks : Marks) (command : OutcomesCommand)
    (question : Option Question) (all : List Asked) (watch : Watch)
    → IsAsking settings names command question all watch
    → (plan : Plan) (Put : Option (List ℕ) → Type 0) (old new : Option (List ℕ))
    → plan ≡ plan_for settings names marks command → (status : ℕ)
    → HasToldFound settings image command plan all watch question Put old new status
    → OutcomesComeTo settings image names marks command Put old new status
comes_to settings image names marks command question all watch asking plan Put old new is status told = record {
  question = question;
  all = all;
  watch = watch;
  asking = asking;
  told = rw (sym is) told;
}

-- Of two of which the first that is there is taken neither is there, where nothing is taken.
if_none : (a b : Option (Bor (List ℕ))) → is_some (if is_some a then a else b) ≡ false
    → (is_some a ≡ false) × (is_some b ≡ false)
if_none None b none = (refl, none)
if_none (Some a) b none = absurd (true≢false none)

-- No order is wanted where none is written.
pub unwanted_order : (command : OutcomesCommand) (watch : Watch) (question : Option Question) (found : Found)
    → wants_order command ≡ false → order_wanted command watch question found ≡ None
unwanted_order command watch question found unwanted = rw unwanted refl

module _ {S : Type 0} (written : S → Option (List ℕ)) (has_failed : S → Bool) (before after : S) (settings : Settings)
    (image : ProgramImage) (command : OutcomesCommand) (plan : Plan) (all : List Asked) (watch : Watch)
    (question : Option Question) (found : Found) where
  -- It has told what was found, and put the picture or its order.
  pub told_so : (order line picture : Option (List ℕ)) (how : Option How)
      (why : List ℕ) (old new : Option (List ℕ)) (status : ℕ)
      → order ≡ order_wanted command watch question found → line ≡ line_wanted command all watch question found
      → IsDrawnFor command picture → IsHowOf image settings.config.harts watch command found how → IsWhyOf command why
      → HasPutWanted written has_failed before after settings image command plan picture order line
      → Appends old new (found_text command all watch question how found ++ why)
      → status ≡ status_found watch question found
      → HasTold settings image command plan all watch question found (HasPutText written has_failed before after) old new
      status
  told_so order line None how why old new status wanted closed drawn is_how is_why put printed is =
      let text = text_put written has_failed before after settings image command plan order line put in
      record {
        text = text.0;
        how = how;
        is_how = is_how;
        why = why;
        is_why = is_why;
        printed = printed;
        status = is;
        is_text = λ undrawn. rw (sym wanted, sym closed) text.1;
        put = text.2;
      }
  told_so order line (Some picture) how why old new status wanted closed drawn is_how is_why put printed is =
      record {
        text = Some picture;
        how = how;
        is_how = is_how;
        why = why;
        is_why = is_why;
        printed = printed;
        status = is;
        is_text = λ undrawn. absurd (let none : Some picture ≡ None = drawn undrawn in cc);
        put = put;
      }

  -- What is refused of why, and as something is put into the file, is refused of what was found.
  pub why_refused : (why : Refused) → IsWhyRefusal command why
      → IsFoundRefusal settings image command watch question found why
  why_refused reason.NothingToDraw is = is
  why_refused reason.Memory is = tt
  why_refused _ is = absurd is

-- A file that no command names is left as it is.
unnamed : (command : OutcomesCommand) → is_some (written_of_outcomes command) ≡ false
    → (is_some command.svg ≡ false) × (wants_order command ≡ false)
unnamed command none = if_none command.svg (written_order command) none

pub stays : {S : Type 0} (before after : S) (command : OutcomesCommand) (watch : Watch) (question : Option Question)
    (found : Found) (picture order : Option (List ℕ)) → IsDrawnFor command picture
    → order ≡ order_wanted command watch question found → (picture ≡ None → order ≡ None → after ≡ before)
    → is_some (written_of_outcomes command) ≡ false → after ≡ before
stays before after command watch question found picture order drawn wanted kept none =
    let both = unnamed command none in
    kept (drawn both.0) (wanted ∙ unwanted_order command watch question found both.1)
