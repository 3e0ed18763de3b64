use Rattle.std.proofs.Common.{sym, ◌∙◌}
use Rattle.std.proofs.lemmas.Result.{on_ok_weaker}
use Rattle.litmus_cycles.proofs.Wholes.{may_be_wanted, not_wanted}
use Rattle.litmus_cycles.proofs.searching.take.Goals as goal

pub returns-then-may_end-clause-all : goal.returns-then-may_end-clause-all
returns-then-may_end-clause-all c =
    on_ok_weaker c.take.result (may_be_wanted c.args.asked.now.test.now c.args.asked.now.runs.now
    c.args.asked.now.chosen.now c.args.asked.now.demand c.args.events.now c.args.findings.now c.take.new.self
    (sym c.may_end.ensures ∙ c.if-may_end.true)) c.take.ensures.searches

pub returns-clause-all : goal.returns-clause-all
returns-clause-all c =
    not_wanted c.args.asked.now.test.now c.args.asked.now.runs.now c.args.asked.now.chosen.now
    c.args.asked.now.demand c.args.events.now c.args.findings.now (sym c.may_end.ensures ∙ c.if-may_end.false)
