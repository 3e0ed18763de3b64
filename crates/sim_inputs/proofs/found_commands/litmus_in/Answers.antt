use Rattle.std.proofs.Common.{rules}
use Rattle.clap.specs.Words.{found_of, rows_of}
use Rattle.sim_inputs.specs.declared.line.LitmusCommand.{LitmusCommand}
use Rattle.sim_inputs.proofs.Tests.{no_test}
use Rattle.sim_inputs.proofs.found_commands.litmus_in.Goals as goal

pub returns-then-not-can_be_tested : goal.returns-then-not-can_be_tested
returns-then-not-can_be_tested c =
    let made : LitmusCommand = record {
      test = c.in_ok-value_of.field-0;
      states = c.in_ok-number_or.field-0;
      why = c.is_set.result;
      image = c.value_of-2.result;
      svg = c.value_of-3.result;
      outcome = c.in_ok-number.field-0;
      witness = c.value_of-4.result;
      script = c.value_of-5.result;
      story = c.value_of-6.result;
      story_svg = c.value_of-7.result;
      theme = c.in_ok-theme_in.field-0;
      all = c.is_set-2.result;
      run = c.in_ok-number-2.field-0;
      summary = c.is_set-3.result;
      expect = c.value_of-8.result;
      several = c.are_several.result;
    } in
    no_test (rows_of (found_of c.args.found.now)) made (search rules) (search rules)
