use Rattle.std.proofs.Common.{sym, ap, subst, ◌∙◌}
use Rattle.std.proofs.lemmas.Result.{IfErr-weaker, IfOk-weaker}
use Rattle.core_state.specs.Setup.{setup_of}
use Rattle.elf_image.specs.Loaded.{IsImageOf}
use Rattle.command_parts.proofs.OfImage.{refusal_behind}
use Rattle.core_commands.specs.Run.{IsRunRefusal}
use Rattle.core_commands.proofs.OfRun.{never_image}
use Rattle.core_commands.proofs.run.run_bytes.Goals as goal

pub returns-clause-refused : goal.returns-clause-refused
returns-clause-refused g c =
    IfErr-weaker c.run_image.result _ _
    (λ reason is. refusal_behind c.args.image.now c.args.settings.now.ram (IsRunRefusal c.args.settings.now) reason
    (never_image c.args.settings.now) c.in_ok-image.ensures.passed is)
    c.run_image.ensures.refused

pub returns-clause-image : goal.returns-clause-image
returns-clause-image g c =
    IfOk-weaker c.run_image.result _ _
    (λ finished setup. subst (IsImageOf c.args.image.now c.args.settings.now.ram) (sym (ap (λ s. s.image) setup))
    c.in_ok-image.ensures.image)
    c.run_image.ensures.setup

pub returns-clause-setup : goal.returns-clause-setup
returns-clause-setup g c =
    IfOk-weaker c.run_image.result _ _
    (λ finished setup. setup ∙ ap (λ i. setup_of i c.args.settings.now.config) (sym (ap (λ s. s.image) setup)))
    c.run_image.ensures.setup
