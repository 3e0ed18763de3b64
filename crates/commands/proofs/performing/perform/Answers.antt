-- The status is the one that the line was answered with, or that of its refusal.
use Rattle.std.proofs.Common.{sym, ◌∙◌}
use Rattle.std.proofs.lemmas.Bool.{true≢false}
use mathlib.Core.Logic.{inl}
use Rattle.command_parts.specs.{Inputs.as_read}
use Rattle.commands.specs.{Written.IsWritten}
use Rattle.commands.proofs.OfLine.{known_refusal, unset_refusal, refused_harts, was_read, status_says}
use Rattle.commands.proofs.performing.perform.Goals as goal

pub returns-in-Ok : goal.returns-in-Ok
returns-in-Ok g c =
    let has = c.in-Ok.ensures in
    let inputs = c.args.inputs.now in
    let says = status_says c.args.line.now.harts c.args.line.now.command (as_read inputs.config)
    (as_read inputs.program)
    (as_read inputs.second) (as_read inputs.lines)
    (IsWritten g.S.EndFiles.begins g.S.Sink.written g.S.Sink.has_failed c.args.context.now.files
    c.perform_line.new.context.files)
    _ _ _ has.ended in
    record {
      kept = λ none. absurd (true≢false (sym says ∙ none));
      known = inl says;
      unset = was_read inputs.config _ _ _ has.unset;
      refused = λ none. absurd (true≢false (sym says ∙ none));
      ended = λ harts. has.ended;
      left = λ none. absurd (true≢false (sym says ∙ none));
      finished = λ harts. has.finished;
      unwanted = has.unwanted;
      unreported = has.unreported;
    }

pub returns-in-Err : goal.returns-in-Err
returns-in-Err g c =
    let has = c.in-Err.ensures in
    let told = c.refuse_line.ensures in
    record {
      kept = λ none. rw told.kept (sym told.status);
      known = known_refusal c.in-Err.refused _ told.status;
      unset = unset_refusal c.args.inputs.now.config _ c.in-Err.refused _ told.status has.unset;
      refused = λ none. (c.in-Err.refused, sym told.status, has.refused);
      ended = λ harts. absurd (refused_harts c.in-Err.refused _ told.status harts);
      left = λ none. (c.in-Err.refused, sym told.status, has.refused, rw told.kept has.left);
      finished = λ harts. absurd (refused_harts c.in-Err.refused _ told.status harts);
      unwanted = rw told.kept has.unwanted;
      unreported = rw told.kept has.unreported;
    }
