-- Behind lines and asks that are refused, and before and behind the flush.
use Rattle.std.specs.Prelude.{[], Ok}
use Rattle.symbols.specs.Tables.{table_of}
use Rattle.command_parts.specs.Inputs.{as_read}
use Rattle.sim_inputs.specs.declared.line.ProgramCommand.TheVariants.{Step}
use Rattle.command_parts.specs.declared.refused.Refused.TheVariants.{Output}
use Rattle.core_commands.specs.Wanted.{step_wants}
use Rattle.commands.specs.Commands.{origins_in}
use Rattle.commands.proofs.OfLine.{accepted_with, command_refusal, lines_refusal}
use Rattle.core_commands.proofs.OfPrompt.{empty_asks}
use Rattle.commands.proofs.OfTyped.{typed_flushed}
use Rattle.commands.proofs.typed.read_and_prompt.Goals as goal

pub returns-in-Err-clause-refused : goal.returns-in-Err-clause-refused
returns-in-Err-clause-refused g c =
    rw (c.in_ok-config.was, c.in_ok-file.was)
    (lines_refusal c.args.harts.now (Step c.args.step.now) _ _ _ _ (Ok [])
    (as_read c.args.inputs.now.lines) c.in_ok-own.ensures.settings c.in_ok-image.ensures.passed
    c.in_ok-image.ensures.image c.in-Err.refused (rw c.is_some-wants_lines.ensures at c.in-Err.ensures.refused))

pub returns-in-Err-prompt_beside-clause-refused : goal.returns-in-Err-prompt_beside-clause-refused
returns-in-Err-prompt_beside-clause-refused g c =
    let own = c.in_ok-own.ensures.settings in
    let with = c.settings_with-settings.ensures in
    let named = rw c.step_wants_names-wants_names.ensures at c.in_ok-names.ensures.names in
    let in_range = rw with.value at with.in_range own.sets.in_range in
    rw (c.in_ok-config.was, c.in_ok-file.was)
    (command_refusal c.args.harts.now (Step c.args.step.now) _ _ _ _ (table_of c.in_ok-names.names) (Ok [])
    (as_read c.args.inputs.now.lines) (origins_in c.in-Ok.lines) own in_range c.in_ok-image.ensures.passed
    c.in_ok-image.ensures.image named
    (rw c.is_some-wants_lines.ensures at c.in-Ok.ensures.lines) c.in-Err-prompt_beside.refused
    (rw with.value at c.in-Err-prompt_beside.ensures.refused))

pub returns-clause-refused : goal.returns-clause-refused
returns-clause-refused g c =
    let own = c.in_ok-own.ensures.settings in
    let with = c.settings_with-settings.ensures in
    let named = rw c.step_wants_names-wants_names.ensures at c.in_ok-names.ensures.names in
    let in_range = rw with.value at with.in_range own.sets.in_range in
    rw (c.in_ok-config.was, c.in_ok-file.was)
    (command_refusal c.args.harts.now (Step c.args.step.now) _ _ _ _ (table_of c.in_ok-names.names) (Ok [])
    (as_read c.args.inputs.now.lines) (origins_in c.in-Ok.lines) own in_range c.in_ok-image.ensures.passed
    c.in_ok-image.ensures.image named
    (rw c.is_some-wants_lines.ensures at c.in-Ok.ensures.lines) Output (accepted_with _ in_range, empty_asks))

pub returns-in-Ok-flush-clause-ended : goal.returns-in-Ok-flush-clause-ended
returns-in-Ok-flush-clause-ended g c =
    let ended = rw c.settings_with-settings.ensures.value at c.in-Ok-prompt_beside.ensures.ended in
    let named = rw c.step_wants_names-wants_names.ensures at c.in_ok-names.ensures.names in
    rw (c.in_ok-config.was, c.in_ok-file.was)
    (typed_flushed g.P.Predict.predicts c.args.context.now.predict c.args.harts.now c.args.step.now c.in_ok-own.own
    (g.B.Read.remaining c.args.reader.now) (step_wants c.args.step.now) _ _ _ _ (table_of c.in_ok-names.names)
    (as_read c.args.inputs.now.lines) (origins_in c.in-Ok.lines) _ _ _ _
    c.in_ok-own.ensures.settings c.in_ok-image.ensures.passed c.in_ok-image.ensures.image named
    (rw c.is_some-wants_lines.ensures at c.in-Ok.ensures.lines) ended c.flush.ensures.bytes)
