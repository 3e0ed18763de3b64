use Rattle.std.proofs.Common.{rules, not, ◌==◌, ◌∙◌, ap}
use Rattle.std.proofs.lemmas.Fn.{filter_same}
use Rattle.issue_queue.specs.declared.order.Ready.{Ready}
use Rattle.issue_queue.specs.Order.{without}
use Rattle.issue_queue.proofs.order.Order.remove.Goals as goal

pub returns : goal.returns
returns c =
    filter_same _ (λ (x : Ready). not (x.seq == c.args.seq)) _ (λ x b f called. search rules) _ _
    c.retain.ensures.filtered
    ∙ ap (without c.args.seq) c.self.view_is
