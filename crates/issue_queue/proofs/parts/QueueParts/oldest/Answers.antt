use Rattle.std.proofs.Common.{◌∙◌, ℕ, Option, Some, None, sym, subst}
use Rattle.std.specs.Prelude.{IfNone}
use Rattle.issue_queue.specs.{Parts.IsOldestAt, Ready.order_of}
use Rattle.issue_queue.proofs.Ordered.{first-some, first-none}
use Rattle.issue_queue.proofs.parts.QueueParts.oldest.Goals as goal

if_none : (o : Option ℕ) (P : Type 0) → P → IfNone o P
if_none None P holds = holds
if_none (Some n) P holds = tt

pub returns-in_err-ready-clause-none : goal.returns-in_err-ready-clause-none
returns-in_err-ready-clause-none c =
    let x = c.args.self.now in
    if_none c.from_residual.result _
    (first-none c.args.kind x.entries (order_of c.args.kind x.ready) (c.requires.ready c.args.kind)
    (sym c.oldest.ensures ∙ c.in_err-ready.was))

pub returns-clause-some : goal.returns-clause-some
returns-clause-some c =
    let x = c.args.self.now in
    subst (IsOldestAt c.args.kind x.entries) (sym c.from.ensures)
    (first-some c.args.kind x.entries (order_of c.args.kind x.ready) (c.requires.ready c.args.kind) c.in_ok-ready.ready
    (sym c.oldest.ensures ∙ c.in_ok-ready.was))
