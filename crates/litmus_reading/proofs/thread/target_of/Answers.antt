use Rattle.std.proofs.Common.{sym, ◌∙◌}
use Rattle.litmus_reading.proofs.Columns.{no_target, target_here, target_later}
use Rattle.litmus_reading.proofs.thread.target_of.Goals as goal

pub loop-label-preserved : goal.loop-label-preserved
loop-label-preserved c =
    c.loop-label.invariant ∙ target_later c.args.text.now c.args.labels.now c.args.word c.loop-label.label-index _
    c.loop-label-test.true (sym c.same_bytes.ensures ∙ c.if-same_bytes.false)

pub returns : goal.returns
returns c =
    sym (c.loop-label.invariant ∙ no_target c.args.text.now c.args.labels.now c.args.word c.loop-label.label-index
    c.loop-label-test.false)

pub returns-then-same_bytes : goal.returns-then-same_bytes
returns-then-same_bytes c =
    sym (c.loop-label.invariant ∙ target_here c.args.text.now c.args.labels.now c.args.word c.loop-label.label-index _
    c.loop-label-test.true (sym c.same_bytes.ensures ∙ c.if-same_bytes.true))
