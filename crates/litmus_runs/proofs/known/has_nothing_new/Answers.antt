use Rattle.std.proofs.Common.{List, All, Contains, subst}
use Rattle.std.proofs.lemmas.List.{take_all}
use Rattle.std.proofs.lemmas.List.Elements.{All-more}
use Rattle.litmus_runs.specs.declared.known.Held.{Held}
use Rattle.litmus_runs.proofs.known.has_nothing_new.Goals as goal

pub loop-held-preserved : goal.loop-held-preserved
loop-held-preserved c = All-more (Contains c.args.known.now) c.args.written.now c.loop-held.held-index _
    c.loop-held-test.true c.loop-held.invariant (c.holds.ensures c.if-not-holds.false)

pub returns : goal.returns
returns c = λ _. subst (λ (xs : List Held). All (Contains c.args.known.now) xs)
    (take_all c.loop-held.held-index c.args.written.now c.loop-held-test.false) c.loop-held.invariant
