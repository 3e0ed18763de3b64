use Rattle.std.proofs.lemmas.Result.{IfOk-weaker}
use Rattle.history_check.proofs.Repeating.{in_order}
use Rattle.history_check.proofs.rerun.retirement_order.Goals as goal

pub returns : goal.returns
returns c =
    let account = c.account-account in
    IfOk-weaker c.harts_of.result _ _
    (λ order is. in_order c.args.core.now account.result.records.now account.result.output.now
    account.result.statuses.items order.items account.ensures.sequential is account.ensures.records)
    c.harts_of.ensures
