use Rattle.plain_commands.proofs.OfPlain.{story_written, story_refusal}
use Rattle.plain_commands.proofs.plain.tell_image.Goals as goal

pub returns-in-Ok-tell_order-clause-told : goal.returns-in-Ok-tell_order-clause-told
returns-in-Ok-tell_order-clause-told g c setup of_image of_harts =
    let has = c.in-Ok-tell_order.ensures.told setup (c.in-Ok.ensures.ok.agrees setup of_image of_harts) in
    story_written c.args.story.now c.in-Some.form setup _ _ _ c.in-Some.is has.written

pub returns-clause-refused : goal.returns-clause-refused
returns-clause-refused g c =
    rw c.refused_for.ensures
    (story_refusal c.args.image.now c.args.harts c.args.order.now c.in-Ok.machine c.in-Err.why c.in-Ok.ensures.ok
    c.in-Err.ensures.untold)
