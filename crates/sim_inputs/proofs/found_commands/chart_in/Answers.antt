use Rattle.std.proofs.Common.{rules}
use Rattle.clap.specs.Words.{found_of, rows_of}
use Rattle.sim_inputs.specs.declared.line.ChartCommand.{ChartCommand}
use Rattle.sim_inputs.proofs.Charts.{no_chart}
use Rattle.sim_inputs.proofs.found_commands.chart_in.Goals as goal

pub returns-then-not-can_be_drawn : goal.returns-then-not-can_be_drawn
returns-then-not-can_be_drawn c =
    let made : ChartCommand = record {
      image = c.in_ok-value_of.field-0;
      trace = c.in_ok-value_of-2.field-0;
      from = c.in_ok-chart_end.field-0;
      to = c.in_ok-chart_end-2.field-0;
      hart = c.in_ok-number.field-0;
      names = c.is_set.result;
      width = c.in_ok-number_or.field-0;
      columns = c.in_ok-columns_in.field-0;
      registers = c.is_set-2.result;
      counters = c.is_set-3.result;
      svg = c.value_of-3.result;
      kanata = c.value_of-4.result;
      title = c.value_of-5.result;
      theme = c.in_ok-shade_in.field-0;
    } in
    no_chart (rows_of (found_of c.args.found.now)) made (search rules) (search rules)
