use Rattle.std.proofs.Common.{subst, ap, length, ◌∙◌}
use Rattle.sim_inputs.specs.{declared.files.Files.Files}
use Rattle.program_io.specs.Performed.{read_of, IsReadAs}
use Rattle.program_io.proofs.OfSuites.{nameless, tested}
use Rattle.program_io.proofs.performing.Program.read_and_test.Goals as goal

pub returns : goal.returns
returns g c =
    let read = c.of-read.result in
    tested _ c.args.line.now c.args.litmus _ _ _ _ (read_of read.config) (read_of read.second) c.requires.is
    c.requires.several (c.new-source.ensures ∙ ap length c.as_slice.ensures.value ∙ c.in-Ok.ensures)
    (subst (λ (f : Files). IsReadAs f.config (read_of read.config)) c.files-files.ensures c.of-read.ensures.config)
    (subst (λ (f : Files). IsReadAs f.second (read_of read.second)) c.files-files.ensures c.of-read.ensures.second)
    c.test_and_hint-status.ensures.known c.test_and_hint-status.ensures.ended

pub returns-in-Err : goal.returns-in-Err
returns-in-Err g c =
    nameless _ c.args.line.now c.args.litmus _ _ _ c.requires.is c.requires.several c.refuse-status.ensures
