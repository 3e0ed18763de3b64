-- The status is the one that the line was answered with, or that of its refusal.
use Rattle.std.specs.Prelude.{is_some}
use Rattle.std.proofs.Common.{sym, ◌∙◌}
use Rattle.std.proofs.lemmas.Bool.{true≢false}
use mathlib.Core.Logic.{inl}
use Rattle.core_commands.specs.{Account.IsTraceWritten, Wanted.step_wants}
use Rattle.command_parts.specs.{Inputs.as_read}
use Rattle.commands.proofs.OfLine.{known_refusal, unset_refusal, refused_harts, was_read}
use Rattle.commands.proofs.OfTyped.{typed_says}
use Rattle.commands.proofs.typed.perform_typed.Goals as goal

pub returns-in-Ok : goal.returns-in-Ok
returns-in-Ok g c =
    let has = c.in-Ok.ensures in
    let inputs = c.args.inputs.now in
    let says = typed_says g.P.Predict.predicts c.args.context.now.predict c.args.harts c.args.step.now
    (as_read inputs.config)
    (as_read inputs.program) (as_read inputs.lines) _ (step_wants c.args.step.now) _ _ _ _ has.ended in
    record {
      kept = λ none. absurd (true≢false (sym says ∙ none));
      known = inl says;
      unset = was_read inputs.config _ _ _ has.unset;
      refused = λ none. absurd (true≢false (sym says ∙ none));
      ended = λ harts. has.ended;
      finished = λ harts. has.finished;
      unwanted = has.unwanted;
    }

pub returns-in-Err : goal.returns-in-Err
returns-in-Err g c =
    let has = c.in-Err.ensures in
    let told = c.refuse_line.ensures in
    record {
      kept = λ none. rw told.kept (sym told.status);
      known = known_refusal c.in-Err.refused _ told.status;
      unset = unset_refusal c.args.inputs.now.config _ c.in-Err.refused _ told.status has.unset;
      refused = λ none. (c.in-Err.refused, sym told.status, has.refused);
      ended = λ harts. absurd (refused_harts c.in-Err.refused _ told.status harts);
      finished = λ harts. absurd (refused_harts c.in-Err.refused _ told.status harts);
      unwanted = rw told.kept has.unwanted;
    }
