use Rattle.std.proofs.Common.{sym, ◌∙◌}
use Rattle.smt_core.proofs.calls.Core.parts.Goals as goal

pub returns-clause-agrees : goal.returns-clause-agrees
returns-clause-agrees c = rw (sym (c.deref.ensures ∙ c.self.view_is)) c.parts.ensures.agrees
