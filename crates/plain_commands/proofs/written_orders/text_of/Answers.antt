use Rattle.std.proofs.Common.{rules}
use Rattle.std.proofs.lemmas.Result.{IfErr-weaker}
use Rattle.plain_commands.proofs.OfWrittenOrders.{picture_refused, script_refused}
use Rattle.plain_commands.proofs.written_orders.text_of.Goals as goal

pub returns-then-is_some-clause-refused : goal.returns-then-is_some-clause-refused
returns-then-is_some-clause-refused c =
    IfErr-weaker c.script_text.result _ _
    (script_refused c.args.settings.now c.args.image.now c.args.command.now c.args.order.now (search rules))
    c.script_text.ensures.refused

pub returns-then-is_some-3-clause-refused : goal.returns-then-is_some-3-clause-refused
returns-then-is_some-3-clause-refused c =
    IfErr-weaker c.found_picture.result _ _
    (picture_refused c.args.settings.now c.args.image.now c.args.command.now c.args.order.now (search rules))
    c.found_picture.ensures.refused
