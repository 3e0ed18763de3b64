use Rattle.address_labels.specs.Labels.{marks_of}
use Rattle.core_commands.proofs.OfNamedAsks.{one_more, last_written}
use Rattle.core_commands.proofs.named_asks.write_named.Goals as goal

pub loop-line-preserved : goal.loop-line-preserved
loop-line-preserved g c =
    one_more (marks_of c.args.labels.now) _ _ _ c.args.text.now c.loop-line.left.now c.in-Some.line.now
    c.in-Some.others.now c.loop-line.invariant c.in-Some.ensures.cut c.in-Some.ensures.line
    c.in_ok-write_named_line.ensures

pub returns : goal.returns
returns g c =
    last_written (marks_of c.args.labels.now) _ _ _ c.args.text.now c.write_last.result c.loop-line.left.now
    c.loop-line.invariant c.in_default.ensures.none c.write_last.ensures
