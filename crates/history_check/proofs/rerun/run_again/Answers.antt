use Rattle.std.proofs.Common.{◌∙◌, sym, subst}
use Rattle.plain_run.specs.Orders.{IsStoppedFor}
use Rattle.history_check.proofs.{Repeating.same_account, Repeating.not_stopped}
use Rattle.history_check.proofs.rerun.run_again.Goals as goal

pub returns-in-Ok : goal.returns-in-Ok
returns-in-Ok c =
    let core = c.args.core.now in
    let account = c.account-account.result in
    let order = c.deref.result.now in
    let harts = c.deref.ensures.value ∙ c.in_ok-order.ensures in
    let image = c.image.ensures ∙ c.memory.ensures.image in
    same_account core account.records.now account.output.now account.statuses.items order c.account-account.ensures.sequential
    harts c.in-Ok.run' (c.in-Ok.ensures.ran core.setup (sym image) (sym c.harts.ensures.harts))
    c.account-account.ensures.records c.account-account.ensures.output c.account-account.ensures.statuses

pub unreachable-requires-in-Err-Step : goal.unreachable-requires-in-Err-Step
unreachable-requires-in-Err-Step c =
    let core = c.args.core.now in
    let account = c.account-account.result in
    let order = c.deref.result.now in
    let harts = c.deref.ensures.value ∙ c.in_ok-order.ensures in
    let image = c.image.ensures ∙ c.memory.ensures.image in
    not_stopped core account.records.now account.output.now account.statuses.items order c.account-account.ensures.sequential
    harts c.image.result.now c.harts.result c.in-Err-Step.field-0-0 c.in-Err-Step.field-0-1 (sym image)
    (sym c.harts.ensures.harts)
    (subst (IsStoppedFor c.image.result.now c.harts.result order) c.in-Err-Step.field-0-is
    c.in-Err-Step.ensures.stopped)
