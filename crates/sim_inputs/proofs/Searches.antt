-- The options of a search go together or don't, whatever search they are said to ask for.
use Rattle.std.proofs.Common.{◌≡◌, ℕ, nat_le, not, ◌&&◌, ◌||◌, Bool, true, false, List, Option, None, Some, is_some, Bor}
use Rattle.std.proofs.Common.{option_map, codes, refl, sym, ◌∙◌, if◌then◌else◌}
use Rattle.std.proofs.lemmas.Option.{same_Some}
use Rattle.std.specs.Option.{option_map_or}
use Rattle.clap.specs.Words.{Row, Text, first_of}
use Rattle.sim_inputs.specs.CommandLine.{IsAskedBy, IsOutcomes, IsQuestion, has_condition, is_flag_set, number_or, number_in}
use Rattle.sim_inputs.specs.CommandLine.{usual_states, most_states}
use Rattle.sim_inputs.specs.CommandLine.{are_orders_together, can_be_searched, has_no_file, has_one_file}
use Rattle.sim_inputs.specs.declared.line.{OutcomesCommand.OutcomesCommand, QuestionText.QuestionText}
use Rattle.sim_inputs.specs.declared.line.QuestionText.TheVariants as question
use Rattle.sim_inputs.specs.declared.questions.AskedOfOutcomes.{AskedOfOutcomes}
use Rattle.sim_inputs.specs.Themes.{theme_in}
use Rattle.sim_inputs.proofs.Charts.{some_alike}

-- what the options ask for, whether they go together or not
pub record AsksOutcomes (rows : List Row) (outcomes : OutcomesCommand) : Type 0 where
  pub states : number_or usual_states most_states (first_of (codes "states") rows) ≡ Some outcomes.states
  pub question : IsAskedBy rows outcomes.question outcomes.why
  pub svg : first_of (codes "svg") rows ≡ option_map (λ f. f.now) outcomes.svg
  pub first : is_flag_set (codes "first") rows ≡ outcomes.first
  pub outcome : number_in most_states (first_of (codes "outcome") rows) ≡ Some outcomes.outcome
  pub stuck : is_flag_set (codes "stuck") rows ≡ outcomes.stuck
  pub witness : first_of (codes "witness") rows ≡ option_map (λ f. f.now) outcomes.witness
  pub script : first_of (codes "script") rows ≡ option_map (λ f. f.now) outcomes.script
  pub story : first_of (codes "story") rows ≡ option_map (λ f. f.now) outcomes.story
  pub story_svg : first_of (codes "story-svg") rows ≡ option_map (λ f. f.now) outcomes.story_svg
  pub theme : theme_in (first_of (codes "theme") rows) ≡ Some outcomes.theme
  pub all : is_flag_set (codes "all") rows ≡ outcomes.all
  pub lines : first_of (codes "lines") rows ≡ option_map (λ f. f.now) outcomes.lines
  pub how : is_flag_set (codes "how") rows ≡ outcomes.how

asked_so : (rows : List Row) (outcomes : OutcomesCommand) → IsOutcomes rows outcomes → AsksOutcomes rows outcomes
asked_so rows outcomes is = record {
  states = is.states;
  question = is.question;
  svg = is.svg;
  first = is.first;
  outcome = is.outcome;
  stuck = is.stuck;
  witness = is.witness;
  script = is.script;
  story = is.story;
  story_svg = is.story_svg;
  theme = is.theme;
  all = is.all;
  lines = is.lines;
  how = is.how;
}

-- a question is asked where one of its options is given, and has a condition where one of three is
abbrev asks : List Row → Bool
asks rows = is_some (first_of (codes "exists") rows) || is_some (first_of (codes "forall") rows)
    || is_some (first_of (codes "never") rows)

asks_condition : (rows : List Row) (q : Option QuestionText) → IsQuestion rows q → has_condition q ≡ asks rows
asks_condition rows None is = rw (is.has_exists, is.has_forall, is.has_never) refl
asks_condition rows (Some (question.Exists text)) is = rw (is.has_exists) refl
asks_condition rows (Some (question.ForAll text)) is = rw (is.has_exists, is.has_forall) refl
asks_condition rows (Some (question.Never text)) is = rw (is.has_exists, is.has_forall, is.has_never) refl
asks_condition rows (Some question.NeverStuck) is = rw (is.has_exists, is.has_forall, is.has_never) refl

asks_one : (rows : List Row) (q : Option QuestionText) → IsQuestion rows q
    → is_some q ≡ (asks rows || is_flag_set (codes "never-stuck") rows)
asks_one rows None is = rw (is.has_exists, is.has_forall, is.has_never, is.has_never_stuck) refl
asks_one rows (Some (question.Exists text)) is = rw (is.has_exists) refl
asks_one rows (Some (question.ForAll text)) is = rw (is.has_exists, is.has_forall) refl
asks_one rows (Some (question.Never text)) is = rw (is.has_exists, is.has_forall, is.has_never) refl
asks_one rows (Some question.NeverStuck) is =
    rw (is.has_exists, is.has_forall, is.has_never, is.has_never_stuck) refl

-- so it is where it may be asked why: that asks a condition, of none
abbrev asks_why : List Row → Bool
asks_why rows = is_some (first_of (codes "why") rows)

why_is : (rows : List Row) (q : Option QuestionText) (why : Bool) → IsAskedBy rows q why → why ≡ asks_why rows
why_is rows (Some (question.Never text)) true is = rw is.0 refl
why_is rows None true is = absurd is
why_is rows (Some (question.Exists text)) true is = absurd is
why_is rows (Some (question.ForAll text)) true is = absurd is
why_is rows (Some question.NeverStuck) true is = absurd is
why_is rows q false is = rw is.0 refl

asks_conditions : (rows : List Row) (q : Option QuestionText) (why : Bool) → IsAskedBy rows q why
    → has_condition q ≡ (asks_why rows || asks rows)
asks_conditions rows (Some (question.Never text)) true is = rw is.0 refl
asks_conditions rows None true is = absurd is
asks_conditions rows (Some (question.Exists text)) true is = absurd is
asks_conditions rows (Some (question.ForAll text)) true is = absurd is
asks_conditions rows (Some question.NeverStuck) true is = absurd is
asks_conditions rows q false is = rw is.0 (asks_condition rows q is.1)

asks_at_all : (rows : List Row) (q : Option QuestionText) (why : Bool) → IsAskedBy rows q why
    → is_some q ≡ (asks_why rows || (asks rows || is_flag_set (codes "never-stuck") rows))
asks_at_all rows (Some (question.Never text)) true is = rw is.0 refl
asks_at_all rows None true is = absurd is
asks_at_all rows (Some (question.Exists text)) true is = absurd is
asks_at_all rows (Some (question.ForAll text)) true is = absurd is
asks_at_all rows (Some question.NeverStuck) true is = absurd is
asks_at_all rows q false is = rw is.0 (asks_one rows q is.1)

-- where a question is asked beside why, or two are, nothing is asked of outcomes
pub not_asked : (rows : List Row) → ((q : Option QuestionText) → IsQuestion rows q → ⊥) → (q : Option QuestionText)
    (why : Bool) → IsAskedBy rows q why → ⊥
not_asked rows none (Some (question.Never text)) true is = none None is.1
not_asked rows none None true is = is
not_asked rows none (Some (question.Exists text)) true is = is
not_asked rows none (Some (question.ForAll text)) true is = is
not_asked rows none (Some question.NeverStuck) true is = is
not_asked rows none q false is = none q is.1

-- whatever search the options ask for, it can be made or it can't
searched_alike : (rows : List Row) (a b : OutcomesCommand) → AsksOutcomes rows a → AsksOutcomes rows b
    → can_be_searched a ≡ can_be_searched b
searched_alike rows a b one two =
    let states : a.states ≡ b.states = same_Some _ _ (sym one.states ∙ two.states) in
    let outcome : a.outcome ≡ b.outcome = same_Some _ _ (sym one.outcome ∙ two.outcome) in
    let stuck : a.stuck ≡ b.stuck = sym one.stuck ∙ two.stuck in
    let first : a.first ≡ b.first = sym one.first ∙ two.first in
    let every : a.all ≡ b.all = sym one.all ∙ two.all in
    let witness : is_some a.witness ≡ is_some b.witness =
    some_alike a.witness b.witness (sym one.witness ∙ two.witness) in
    let script : is_some a.script ≡ is_some b.script = some_alike a.script b.script (sym one.script ∙ two.script) in
    let story : is_some a.story ≡ is_some b.story = some_alike a.story b.story (sym one.story ∙ two.story) in
    let drawn : is_some a.story_svg ≡ is_some b.story_svg =
    some_alike a.story_svg b.story_svg (sym one.story_svg ∙ two.story_svg) in
    let theme : a.theme ≡ b.theme = same_Some _ _ (sym one.theme ∙ two.theme) in
    let lines : is_some a.lines ≡ is_some b.lines = some_alike a.lines b.lines (sym one.lines ∙ two.lines) in
    let asked : is_some a.question ≡ is_some b.question =
    asks_at_all rows a.question a.why one.question ∙ sym (asks_at_all rows b.question b.why two.question) in
    let condition : has_condition a.question ≡ has_condition b.question =
    asks_conditions rows a.question a.why one.question ∙ sym (asks_conditions rows b.question b.why two.question) in
    let why : a.why ≡ b.why =
    why_is rows a.question a.why one.question ∙ sym (why_is rows b.question b.why two.question) in
    let picture : is_some a.svg ≡ is_some b.svg = some_alike a.svg b.svg (sym one.svg ∙ two.svg) in
    let how : a.how ≡ b.how = sym one.how ∙ two.how in
    rw (states, outcome, stuck, first, every, witness, script, story, drawn, theme, lines, asked, condition, why, picture, how)
    refl

-- options that don't go together ask for no search
pub no_search : (rows : List Row) (a : OutcomesCommand) → AsksOutcomes rows a → can_be_searched a ≡ false
    → (b : OutcomesCommand) → IsOutcomes rows b → ⊥
no_search rows a asks apart b is =
    let off : false ≡ true = sym apart ∙ searched_alike rows a b asks (asked_so rows b is) ∙ is.together in cc

-- where nothing is asked of outcomes, they are no command
pub no_outcomes : (rows : List Row) → ((asked : AskedOfOutcomes) → IsAskedBy rows asked.question asked.why → ⊥)
    → (outcomes : OutcomesCommand) → IsOutcomes rows outcomes → ⊥
no_outcomes rows none outcomes is =
    let asked : AskedOfOutcomes = record {
      question = outcomes.question;
      why = outcomes.why;
    } in
    none asked is.question
