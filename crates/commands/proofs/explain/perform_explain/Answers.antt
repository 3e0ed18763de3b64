-- What was printed, and what it says.
use Rattle.std.proofs.Common.{refl, rules}
use Rattle.commands.proofs.OfExplain.{prints_both, prints_check, prints_fault, accepted_line, refused_config}
use Rattle.commands.proofs.OfExplain.{refused_image, accepted_image_line, configured}
use Rattle.command_parts.specs.Inputs.{as_read}
use Rattle.commands.proofs.explain.perform_explain.Goals as goal

pub returns-in_default-clause-explained : goal.returns-in_default-clause-explained
returns-in_default-clause-explained g c =
    prints_fault (g.W.Write.contents c.args.out.now) (g.W.Write.contents c.tell_config.new.out)
    (g.W.Write.contents c.tell_without_config.new.out) c.args.config.now (as_read c.args.image)
    (refused_config c.args.harts.now c.args.config.now c.in_ok-settings.field-0 (g.W.Write.contents c.args.out.now)
    (g.W.Write.contents c.tell_config.new.out) (search rules) c.in_ok-settings.ensures.printed)
    c.in_ok-tell_without_config.ensures.printed

pub returns-in-None-clause-ended : goal.returns-in-None-clause-ended
returns-in-None-clause-ended g c =
    rw c.in_ok-file.was
    (record {
      printed = (
        c.in-Some.settings,
        configured c.in_ok-settings.field-0 c.in-Some.settings c.args.config.now c.in-Some.is
            c.in_ok-settings.ensures.accepted,
        prints_both (g.W.Write.contents c.args.out.now) (g.W.Write.contents c.tell_config.new.out)
            (g.W.Write.contents c.tell_image.new.out) c.args.harts.now c.args.config.now c.in-Some.settings
            c.in_ok-file.file.now
            (accepted_line c.args.harts.now c.args.config.now c.in_ok-settings.field-0 c.in-Some.settings
            (g.W.Write.contents c.args.out.now) (g.W.Write.contents c.tell_config.new.out) c.in-Some.is
            c.in_ok-settings.ensures.printed)
            (accepted_image_line c.in_ok-file.file.now c.in-Some.settings.ram c.in_ok-tell_image.field-0
            (g.W.Write.contents c.tell_config.new.out) (g.W.Write.contents c.tell_image.new.out) c.in-None.is
            c.in_ok-tell_image.ensures.printed),
      );
      zero = refl;
    })

pub returns-in-Some-2-clause-explained : goal.returns-in-Some-2-clause-explained
returns-in-Some-2-clause-explained g c =
    rw c.in_ok-file.was (
      c.in-Some.settings,
      configured c.in_ok-settings.field-0 c.in-Some.settings c.args.config.now c.in-Some.is
          c.in_ok-settings.ensures.accepted,
      prints_check (g.W.Write.contents c.args.out.now) (g.W.Write.contents c.tell_config.new.out)
          (g.W.Write.contents c.tell_image.new.out) c.args.harts.now c.args.config.now c.in-Some.settings
          c.in_ok-file.file.now c.number.result c.in-Some-2.check c.number.ensures
          (accepted_line c.args.harts.now c.args.config.now c.in_ok-settings.field-0 c.in-Some.settings
          (g.W.Write.contents c.args.out.now) (g.W.Write.contents c.tell_config.new.out) c.in-Some.is
          c.in_ok-settings.ensures.printed)
          (refused_image c.in_ok-file.file.now c.in-Some.settings.ram c.in_ok-tell_image.field-0 c.in-Some-2.check
          (g.W.Write.contents c.tell_config.new.out) (g.W.Write.contents c.tell_image.new.out) c.in-Some-2.is
          c.in_ok-tell_image.ensures.printed),
    )
