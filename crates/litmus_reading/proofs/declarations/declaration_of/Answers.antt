use Rattle.std.proofs.Common.{sym, ◌∙◌, arith, tests}
use Rattle.litmus_reading.proofs.Declaring.{declares, declares_none, declares_nothing}
use Rattle.litmus_reading.proofs.declarations.declaration_of.Goals as goal

pub loop-rest-preserved : goal.loop-rest-preserved
loop-rest-preserved c =
    c.loop-rest.invariant ∙ declares_none c.args.text.now c.loop-rest.rest.now _ _ c.args.name
    (grind (arith, tests, c.loop-rest-test.true, c.is_empty.ensures)) c.cut.ensures.cut c.cut.ensures.first
    c.in-None.ensures

pub returns : goal.returns
returns c =
    sym (c.loop-rest.invariant ∙ declares_nothing c.args.text.now c.loop-rest.rest.now c.args.name
    (grind (arith, tests, c.loop-rest-test.false, c.is_empty.ensures)))

pub returns-in-Some : goal.returns-in-Some
returns-in-Some c =
    sym (c.loop-rest.invariant ∙ declares c.args.text.now c.loop-rest.rest.now _ _ c.args.name _
    (grind (arith, tests, c.loop-rest-test.true, c.is_empty.ensures)) c.cut.ensures.cut c.cut.ensures.first
    c.in-Some.ensures)
