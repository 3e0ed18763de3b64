use Rattle.std.proofs.Common.{subst}
use Rattle.sim_inputs.specs.{declared.files.Files.Files}
use Rattle.program_io.specs.Performed.{read_of, IsReadAs}
use Rattle.program_io.proofs.OfTyped.{typed_performed}
use Rattle.program_io.proofs.performing.Program.read_and_prompt.Goals as goal

pub returns-clause-performed : goal.returns-clause-performed
returns-clause-performed g c =
    let read = c.of-read.result in
    typed_performed _ g.P.Predict.predicts c.args.self.now c.args.line.now c.args.step.now _ _ _ _ (read_of read.config)
    (read_of read.program) (read_of read.lines) c.requires
    (subst (λ (f : Files). IsReadAs f.config (read_of read.config)) c.files-files.ensures c.of-read.ensures.config)
    (subst (λ (f : Files). IsReadAs f.program (read_of read.program)) c.files-files.ensures c.of-read.ensures.program)
    (subst (λ (f : Files). IsReadAs f.lines (read_of read.lines)) c.files-files.ensures c.of-read.ensures.lines)
    c.prompt_and_hint-status.ensures.refused c.prompt_and_hint-status.ensures.comes
