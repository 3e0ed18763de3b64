-- The options of a litmus test go together or don't, whatever command they are said to ask for.
use Rattle.std.proofs.Common.{◌≡◌, ℕ, nat_le, not, ◌&&◌, ◌||◌, Bool, true, false, List, Option, None, Some, is_some, Bor}
use Rattle.std.proofs.Common.{option_map, codes, refl, sym, ◌∙◌, if◌then◌else◌}
use Rattle.std.proofs.lemmas.Option.{same_Some}
use Rattle.std.specs.Option.{option_map_or}
use Rattle.clap.specs.Words.{Row, Text, first_of}
use Rattle.sim_inputs.specs.CommandLine.{IsLitmus, can_be_tested, is_flag_set, most_states, most_times, number_in}
use Rattle.sim_inputs.specs.CommandLine.{number_or, usual_states}
use Rattle.sim_inputs.specs.declared.line.{LitmusCommand.LitmusCommand}
use Rattle.sim_inputs.specs.SeveralTests.{are_several, tests_in}
use Rattle.sim_inputs.specs.Themes.{theme_in}
use Rattle.sim_inputs.proofs.Charts.{some_alike}

-- what the options ask for, whether they go together or not
pub record AsksTest (rows : List Row) (litmus : LitmusCommand) : Type 0 where
  pub states : number_or usual_states most_states (first_of (codes "states") rows) ≡ Some litmus.states
  pub why : is_flag_set (codes "why") rows ≡ litmus.why
  pub image : first_of (codes "image") rows ≡ option_map (λ f. f.now) litmus.image
  pub svg : first_of (codes "svg") rows ≡ option_map (λ f. f.now) litmus.svg
  pub outcome : number_in most_states (first_of (codes "outcome") rows) ≡ Some litmus.outcome
  pub witness : first_of (codes "witness") rows ≡ option_map (λ f. f.now) litmus.witness
  pub script : first_of (codes "script") rows ≡ option_map (λ f. f.now) litmus.script
  pub story : first_of (codes "story") rows ≡ option_map (λ f. f.now) litmus.story
  pub story_svg : first_of (codes "story-svg") rows ≡ option_map (λ f. f.now) litmus.story_svg
  pub theme : theme_in (first_of (codes "theme") rows) ≡ Some litmus.theme
  pub all : is_flag_set (codes "all") rows ≡ litmus.all
  pub run : number_in most_times (first_of (codes "run") rows) ≡ Some litmus.run
  pub summary : is_flag_set (codes "summary") rows ≡ litmus.summary
  pub expect : first_of (codes "expect") rows ≡ option_map (λ f. f.now) litmus.expect
  pub several : are_several (tests_in rows) ≡ litmus.several

asked_so : (rows : List Row) (litmus : LitmusCommand) → IsLitmus rows litmus → AsksTest rows litmus
asked_so rows litmus is = record {
  states = is.states;
  why = is.why;
  image = is.image;
  svg = is.svg;
  outcome = is.outcome;
  witness = is.witness;
  script = is.script;
  story = is.story;
  story_svg = is.story_svg;
  theme = is.theme;
  all = is.all;
  run = is.run;
  summary = is.summary;
  expect = is.expect;
  several = is.several;
}

-- whatever command the options ask for, they go together or they don't
tested_alike : (rows : List Row) (a b : LitmusCommand) → AsksTest rows a → AsksTest rows b
    → can_be_tested a ≡ can_be_tested b
tested_alike rows a b one two =
    let states : a.states ≡ b.states = same_Some _ _ (sym one.states ∙ two.states) in
    let why : a.why ≡ b.why = sym one.why ∙ two.why in
    let image : is_some a.image ≡ is_some b.image = some_alike a.image b.image (sym one.image ∙ two.image) in
    let svg : is_some a.svg ≡ is_some b.svg = some_alike a.svg b.svg (sym one.svg ∙ two.svg) in
    let outcome : a.outcome ≡ b.outcome = same_Some _ _ (sym one.outcome ∙ two.outcome) in
    let witness : is_some a.witness ≡ is_some b.witness =
    some_alike a.witness b.witness (sym one.witness ∙ two.witness) in
    let script : is_some a.script ≡ is_some b.script = some_alike a.script b.script (sym one.script ∙ two.script) in
    let story : is_some a.story ≡ is_some b.story = some_alike a.story b.story (sym one.story ∙ two.story) in
    let drawn : is_some a.story_svg ≡ is_some b.story_svg =
    some_alike a.story_svg b.story_svg (sym one.story_svg ∙ two.story_svg) in
    let theme : a.theme ≡ b.theme = same_Some _ _ (sym one.theme ∙ two.theme) in
    let every : a.all ≡ b.all = sym one.all ∙ two.all in
    let run : a.run ≡ b.run = same_Some _ _ (sym one.run ∙ two.run) in
    let summary : a.summary ≡ b.summary = sym one.summary ∙ two.summary in
    let expect : is_some a.expect ≡ is_some b.expect = some_alike a.expect b.expect (sym one.expect ∙ two.expect) in
    let several : a.several ≡ b.several = sym one.several ∙ two.several in
    rw (states, why, image, svg, outcome, witness, script, story, drawn, theme, every, run, summary, expect, several) refl

-- options that don't go together ask for no test
pub no_test : (rows : List Row) (a : LitmusCommand) → AsksTest rows a → can_be_tested a ≡ false
    → (b : LitmusCommand) → IsLitmus rows b → ⊥
no_test rows a asks apart b is =
    let off : false ≡ true = sym apart ∙ tested_alike rows a b asks (asked_so rows b is) ∙ is.together in cc
