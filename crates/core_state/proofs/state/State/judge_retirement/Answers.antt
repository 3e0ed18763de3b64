-- The tests of the parts are the rules of a retirement.
use Rattle.std.specs.Result.{result_err}
use Rattle.std.proofs.Common.{◌≡◌, ◌∙◌, Some, true, false, refl, rules, sym}
use Rattle.smt_model.specs.Rules.{effect_now}
use Rattle.core_state.proofs.Steps.Retire.Look.{fetched_of}
use Rattle.core_state.proofs.Following.Retire.{retire_broken, retire_tells, effect_view}
use Rattle.core_state.proofs.Steps.Retire.State.{place_in, range_in}
use Rattle.core_state.proofs.Following.Place.{hart_inside}
use Rattle.core_state.proofs.state.State.judge_retirement.Goals as goal
use Rattle.core_state.proofs.state.State.judge_retirement.Goals.{After-effect-now}

pub returns-in_err-hart-clause-rule : goal.returns-in_err-hart-clause-rule
returns-in_err-hart-clause-rule c =
    let rule = c.in_err-hart.field-0.0 in
    let handed_on : result_err c.from_residual.result ≡ Some rule = search rules in
    handed_on
    ∙ sym (retire_broken c.args.self.now.setup c.args.self.now.past c.args.actor c.args.seq c.args.said rule
    (sym c.in_err-hart.ensures.rule))

pub effect-now-requires : goal.effect-now-requires
effect-now-requires c =
    let inside = hart_inside c.self.inside c.self.invariant c.args.self.now c.self.view_is c.in_ok-hart.hart
    c.in_ok-hart.ensures.there.inside in
    record {
      place = place_in c.self.inside c.in_ok-hart.hart c.self.invariant inside;
      range = range_in c.self.inside c.in_ok-hart.hart c.self.invariant inside;
    }

-- The effect is the one that the rules want.
effect_is : (c : After-effect-now)
    → c.effect-now.result
    ≡ effect_now c.args.self.now.setup c.args.self.now.past c.in_ok-hart.active.seq
    (fetched_of c.in_ok-hart.hart c.in_ok-hart.active)
effect_is c =
    effect_view c.self.inside c.self.invariant c.args.self.now c.self.view_is c.in_ok-hart.hart c.in_ok-hart.active
    c.in_ok-hart.outcome c.args.seq c.effect-now.result
    (hart_inside c.self.inside c.self.invariant c.args.self.now c.self.view_is c.in_ok-hart.hart
    c.in_ok-hart.ensures.there.inside)
    c.in_ok-hart.ensures.there.number c.in_ok-hart.ensures.can
    (record { first = c.effect-now.ensures.first; now = c.effect-now.ensures.now })

pub returns-then-not-is_same_effect-clause-rule : goal.returns-then-not-is_same_effect-clause-rule
returns-then-not-is_same_effect-clause-rule c =
    sym (retire_tells c.args.self.now.setup c.args.self.now.past c.args.actor c.args.seq c.in_ok-hart.hart
    c.in_ok-hart.active c.in_ok-hart.ensures.there (sym c.in_ok-hart.ensures.rule) _ refl c.args.said
    c.effect-now.result false (effect_is c.before.before)
    (sym c.if-not-is_same_effect.true ∙ c.is_same_effect.ensures))

pub returns-then-not-is_fresh-clause-rule : goal.returns-then-not-is_fresh-clause-rule
returns-then-not-is_fresh-clause-rule c =
    sym (retire_tells c.args.self.now.setup c.args.self.now.past c.args.actor c.args.seq c.in_ok-hart.hart
    c.in_ok-hart.active c.in_ok-hart.ensures.there (sym c.in_ok-hart.ensures.rule) false
    (sym c.if-not-is_fresh.true ∙ c.is_fresh.ensures) c.args.said c.effect-now.result true
    (effect_is c.before.before.before.before.before) (sym c.if-not-is_same_effect.false ∙ c.is_same_effect.ensures))

pub returns-clause-rule : goal.returns-clause-rule
returns-clause-rule c =
    sym (retire_tells c.args.self.now.setup c.args.self.now.past c.args.actor c.args.seq c.in_ok-hart.hart
    c.in_ok-hart.active c.in_ok-hart.ensures.there (sym c.in_ok-hart.ensures.rule) true
    (sym c.if-not-is_fresh.false ∙ c.is_fresh.ensures) c.args.said c.effect-now.result true
    (effect_is c.before.before.before.before.before) (sym c.if-not-is_same_effect.false ∙ c.is_same_effect.ensures))
