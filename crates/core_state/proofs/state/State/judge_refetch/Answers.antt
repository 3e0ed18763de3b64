-- The tests of the parts are the rules of a refetch.
use Rattle.std.specs.Result.{result_err}
use Rattle.std.proofs.Common.{◌≡◌, ◌∙◌, Some, not, true, false, ap, rules, sym}
use Rattle.core_state.proofs.Following.Retire.{refetch_broken, refetch_tells}
use Rattle.core_state.proofs.state.State.judge_refetch.Goals as goal

pub returns-in_err-hart-clause-rule : goal.returns-in_err-hart-clause-rule
returns-in_err-hart-clause-rule c =
    let rule = c.in_err-hart.field-0.0 in
    let handed_on : result_err c.from_residual.result ≡ Some rule = search rules in
    handed_on
    ∙ sym (refetch_broken c.args.self.now.setup c.args.self.now.past c.args.actor c.args.seq rule
    (sym c.in_err-hart.ensures.rule))

pub returns-then-is_fresh-clause-rule : goal.returns-then-is_fresh-clause-rule
returns-then-is_fresh-clause-rule c =
    sym (refetch_tells c.args.self.now.setup c.args.self.now.past c.args.actor c.args.seq c.in_ok-hart.hart
    c.in_ok-hart.active c.in_ok-hart.ensures.there (sym c.in_ok-hart.ensures.rule) true
    (sym c.if-is_fresh.true ∙ c.is_fresh.ensures))

pub returns-clause-rule : goal.returns-clause-rule
returns-clause-rule c =
    sym (refetch_tells c.args.self.now.setup c.args.self.now.past c.args.actor c.args.seq c.in_ok-hart.hart
    c.in_ok-hart.active c.in_ok-hart.ensures.there (sym c.in_ok-hart.ensures.rule) false
    (sym c.if-is_fresh.false ∙ c.is_fresh.ensures))
