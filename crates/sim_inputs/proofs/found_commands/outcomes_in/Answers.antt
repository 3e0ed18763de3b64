use Rattle.std.proofs.Common.{rules}
use Rattle.clap.specs.Words.{found_of, rows_of}
use Rattle.sim_inputs.specs.declared.line.OutcomesCommand.{OutcomesCommand}
use Rattle.sim_inputs.proofs.Searches.{no_outcomes, no_search}
use Rattle.sim_inputs.proofs.found_commands.outcomes_in.Goals as goal

pub returns-in_err-asked : goal.returns-in_err-asked
returns-in_err-asked c = rw c.from_residual.ensures (no_outcomes _ c.in_err-asked.ensures)

pub returns-then-not-can_be_searched : goal.returns-then-not-can_be_searched
returns-then-not-can_be_searched c =
    let made : OutcomesCommand = record {
      image = c.in_ok-value_of.field-0;
      states = c.in_ok-number_or.field-0;
      watch = c.value_of-2.result;
      question = c.in_ok-asked.asked.question;
      why = c.in_ok-asked.asked.why;
      svg = c.value_of-3.result;
      first = c.is_set.result;
      outcome = c.in_ok-number.field-0;
      stuck = c.is_set-2.result;
      witness = c.value_of-4.result;
      script = c.value_of-5.result;
      story = c.value_of-6.result;
      story_svg = c.value_of-7.result;
      theme = c.in_ok-theme_in.field-0;
      all = c.is_set-3.result;
      lines = c.value_of-8.result;
      without = c.in_ok-without_in.field-0;
      how = c.is_set-4.result;
    } in
    no_search (rows_of (found_of c.args.found.now)) made (search rules) (search rules)
