use Rattle.std.proofs.Common.{rules, sym, ap, ◌∙◌}
use Rattle.sim_inputs.specs.HintsWanted.{hints_in}
use Rattle.sim_inputs.specs.declared.line.{Line.Line}
use Rattle.sim_inputs.proofs.{Subcommand.found_in, Inputs.no_line_twice, Written.no_dashed_line}
use Rattle.sim_inputs.proofs.words.line_in.Goals as goal

pub returns : goal.returns
returns c =
    found_in c.args.matches.now c.in_ok-name.name.now _ _ (sym c.in_ok-name.ensures.name) (sym c.in_ok-name.ensures.rows)
    record {
      config = sym c.value_of-config.ensures;
      command = c.in_ok-command.ensures;
      harts = c.in_ok-harts.ensures;
      hints = ap hints_in (sym c.value_of.ensures) ∙ sym c.of.ensures ∙ c.in_ok-hints.was;
      once = cc;
      undashed = cc;
    }

pub returns-then-not-writes_no_dash : goal.returns-then-not-writes_no_dash
returns-then-not-writes_no_dash c =
    let line : Line = record {
      config = c.value_of-config.result;
      harts = c.in_ok-harts.harts;
      hints = c.in_ok-hints.hints;
      command = c.in_ok-command.command;
    } in
    no_dashed_line c.args.matches.now c.in_ok-name.name.now _ line (sym c.in_ok-name.ensures.name)
    (sym c.in_ok-name.ensures.rows) c.in_ok-command.ensures (search rules)

pub returns-then-not-reads_input_once : goal.returns-then-not-reads_input_once
returns-then-not-reads_input_once c =
    let line : Line = record {
      config = c.value_of-config.result;
      harts = c.in_ok-harts.harts;
      hints = c.in_ok-hints.hints;
      command = c.in_ok-command.command;
    } in
    no_line_twice c.args.matches.now c.in_ok-name.name.now _ line (sym c.in_ok-name.ensures.name)
    (sym c.in_ok-name.ensures.rows) (sym c.value_of-config.ensures) c.in_ok-command.ensures (search rules)
