use Rattle.std.proofs.Common.{sym, subst, ap}
use Rattle.sim_inputs.specs.{declared.files.Files.Files, Files.files_of}
use Rattle.command_parts.specs.Inputs.{Read}
use Rattle.program_io.specs.Performed.{read_of, IsReadAs}
use Rattle.program_io.proofs.OfTyped.{read_performed}
use Rattle.program_io.proofs.performing.Program.read_and_perform.Goals as goal

pub returns-clause-performed : goal.returns-clause-performed
returns-clause-performed g c =
    let files = files_of c.args.line.now in
    let read = c.blank_comments.new.self in
    read_performed _ g.P.Predict.predicts c.args.self.now c.args.line.now c.typed_step.result _ _ _ _ (read_of read.config)
    (read_of read.program) (read_of c.of-read.result.second) (read_of read.lines)
    (read_of read.second) c.typed_step.ensures c.in_default.is
    (subst (λ (r : Read). IsReadAs files.config r) (sym (ap read_of c.blank_comments.ensures.config))
    (subst (λ (f : Files). IsReadAs f.config (read_of c.of-read.result.config)) c.files-files.ensures
    c.of-read.ensures.config))
    (subst (λ (r : Read). IsReadAs files.program r) (sym (ap read_of c.blank_comments.ensures.program))
    (subst (λ (f : Files). IsReadAs f.program (read_of c.of-read.result.program)) c.files-files.ensures
    c.of-read.ensures.program))
    (subst (λ (f : Files). IsReadAs f.second (read_of c.of-read.result.second)) c.files-files.ensures
    c.of-read.ensures.second)
    (subst (λ (r : Read). IsReadAs files.lines r) (sym (ap read_of c.blank_comments.ensures.lines))
    (subst (λ (f : Files). IsReadAs f.lines (read_of c.of-read.result.lines)) c.files-files.ensures
    c.of-read.ensures.lines))
    c.blank_comments.ensures.second c.perform_and_hint-status.ensures.refused c.perform_and_hint-status.ensures.comes
