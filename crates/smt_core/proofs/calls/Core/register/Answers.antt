use Rattle.std.proofs.Common.{◌∙◌}
use Rattle.smt_core.proofs.Headline.{register_answered, register_in}
use Rattle.smt_core.proofs.calls.Core.register.Goals as goal

pub returns-clause-value : goal.returns-clause-value
returns-clause-value c = register_in c.deref.result.now c.args.self.now c.args.hart c.args.register c.register.result
    (c.deref.ensures ∙ c.self.view_is) c.register.ensures

pub returns-clause-sequential : goal.returns-clause-sequential
returns-clause-sequential c =
    register_answered c.args.self.now c.args.hart c.args.register c.register.result
    c.refines_the_plain_machine.ensures.sequential
    c.history-events.ensures.legal
    (register_in c.deref.result.now c.args.self.now c.args.hart c.args.register c.register.result
    (c.deref.ensures ∙ c.self.view_is) c.register.ensures)
