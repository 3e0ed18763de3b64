-- What a litmus test's command asks of the order that leads to a final state. (This project's own choice.)
use Rattle.std.specs.Prelude.{false, None}
use Rattle.sim_inputs.specs.declared.line.{LitmusCommand.LitmusCommand, OutcomesCommand.OutcomesCommand}

-- It is what `outcomes` asks of the order of an outcome, with no question, no list and no source lines.
abbrev pub order_asked : LitmusCommand → OutcomesCommand
order_asked litmus = record {
  image = litmus.test;
  states = litmus.states;
  watch = None;
  question = None;
  why = false;
  svg = None;
  first = false;
  outcome = litmus.outcome;
  stuck = false;
  witness = litmus.witness;
  script = litmus.script;
  story = litmus.story;
  story_svg = litmus.story_svg;
  theme = litmus.theme;
  all = litmus.all;
  lines = None;
  without = record {
    conditional = false;
    jumps = false;
  };
  how = false;
}
