use Rattle.std.proofs.Common.{sym, ◌∙◌}
use Rattle.litmus_reading.proofs.Naming.{named_here, named_later, not_named}
use Rattle.litmus_reading.proofs.locations.declared_of.Goals as goal

pub loop-name-preserved : goal.loop-name-preserved
loop-name-preserved c =
    c.loop-name.invariant ∙ named_later c.args.text.now c.args.names.now c.args.word c.loop-name.name-index _
    c.loop-name-test.true (sym c.same_bytes.ensures ∙ c.if-same_bytes.false)

pub returns : goal.returns
returns c =
    sym (c.loop-name.invariant ∙ not_named c.args.text.now c.args.names.now c.args.word c.loop-name.name-index
    c.loop-name-test.false)

pub returns-then-same_bytes : goal.returns-then-same_bytes
returns-then-same_bytes c =
    sym (c.loop-name.invariant ∙ named_here c.args.text.now c.args.names.now c.args.word c.loop-name.name-index _
    c.loop-name-test.true (sym c.same_bytes.ensures ∙ c.if-same_bytes.true))
