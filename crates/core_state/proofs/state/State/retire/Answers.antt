use Rattle.std.specs.Prelude.{◌≡◌, ℕ, ◌==◌, ◌&&◌, Bool, true}
use Rattle.std.proofs.Common.{◌∙◌, sym, subst, arith}
use Rattle.smt_model.specs.Picture.{picture}
use Rattle.core_parts.specs.{Agree.IsActive}
use Rattle.core_state.specs.{State.past_of, State.setup_in, View.CoreView}
use Rattle.std.proofs.lemmas.Bool.Decides.{nat_tests}
use Rattle.core_state.proofs.Steps.Retire.Rules.{no_actor_retires}
use Rattle.core_state.proofs.Steps.Retire.State.{Finds, finds_in, allowed_in, its_own_in, none_in}
use Rattle.core_state.proofs.Steps.Retire.State.{if_none, place_in, range_in, write_in_core}
use Rattle.core_state.proofs.Steps.Refetch.State.{refetch_in}
use Rattle.core_state.proofs.state.State.retire.Goals as goal
use Rattle.core_state.proofs.state.State.retire.Goals.{After-effect-effect}

both_true : (actor : ℕ) (own : Bool) → own ≡ true → ((actor == actor) && own) ≡ true
both_true actor own is = grind (arith, nat_tests)

pub returns-then-not-has_actor-clause-idle : goal.returns-then-not-has_actor-clause-idle
returns-then-not-has_actor-clause-idle c =
    no_actor_retires c.args.self.now.setup c.args.self.now.past c.args.actor c.args.hart
    (sym c.has_actor.ensures ∙ c.if-not-has_actor.true)

pub returns-in_err-active-clause-idle : goal.returns-in_err-active-clause-idle
returns-in_err-active-clause-idle c =
    if_none c.from_residual.result _
    (none_in c.self.inside c.args.self.now c.args.actor c.args.hart c.self.view_is c.self.invariant
    c.in_err-active.ensures.none)

-- What the code has found: the oldest, completed, and memory has its word still.
found : (c : After-effect-effect)
    → Finds c.self.inside c.args.actor c.args.hart c.in_ok-active.active c.in_ok-active.outcome c.effect-effect.result
found c =
    finds_in c.self.inside c.args.self.now c.args.actor c.args.hart c.in_ok-active.active c.in_ok-active.outcome
    c.effect-effect.result c.has_actor.result c.self.view_is c.has_actor.ensures c.if-not-has_actor.false
    c.in_ok-active.ensures.inside c.in_ok-active.ensures.some c.self.invariant
    (sym c.is_fresh.ensures ∙ c.if-not-is_fresh.false)
    (record { first = c.effect-effect.ensures.first; now = c.effect-effect.ensures.now })

pub effect-effect-requires : goal.effect-effect-requires
effect-effect-requires c = record {
  place = place_in c.self.inside c.args.hart c.self.invariant c.in_ok-active.ensures.inside;
  range = range_in c.self.inside c.args.hart c.self.invariant c.in_ok-active.ensures.inside;
}

pub write_refetch-requires-clause-allowed : goal.write_refetch-requires-clause-allowed
write_refetch-requires-clause-allowed c =
    refetch_in c.self.inside c.args.self.now c.args.actor c.args.hart c.in_ok-active.active c.in_ok-active.outcome
    c.has_actor.result c.self.view_is c.self.invariant c.has_actor.ensures c.if-not-has_actor.false
    c.in_ok-active.ensures.some (sym c.is_fresh.ensures ∙ c.if-not-is_fresh.true)

pub write_refetch-requires-clause-active : goal.write_refetch-requires-clause-active
write_refetch-requires-clause-active c =
    let i = c.self.inside in
    subst (λ (v : CoreView). IsActive (picture v.setup v.past) c.args.hart c.in_ok-active.active) c.self.view_is
    (c.in_ok-active.ensures.some (picture (setup_in i) (past_of i)) c.self.invariant.agrees).is_active

pub write_retire-requires-clause-allowed : goal.write_retire-requires-clause-allowed
write_retire-requires-clause-allowed c =
    allowed_in c.self.inside c.args.self.now c.args.actor c.args.hart c.in_ok-active.active c.in_ok-active.outcome
    c.effect-effect.result c.self.view_is c.self.invariant (found c.before.before)

pub write_retire-requires-clause-active : goal.write_retire-requires-clause-active
write_retire-requires-clause-active c =
    let i = c.self.inside in
    subst (λ (v : CoreView). IsActive (picture v.setup v.past) c.args.hart c.in_ok-active.active) c.self.view_is
    (c.in_ok-active.ensures.some (picture (setup_in i) (past_of i)) c.self.invariant.agrees).is_active

pub returns-clause-allowed : goal.returns-clause-allowed
returns-clause-allowed c =
    rw c.write_retire.ensures.event
    (allowed_in c.self.inside c.args.self.now c.args.actor c.args.hart c.in_ok-active.active c.in_ok-active.outcome
    c.effect-effect.result c.self.view_is c.self.invariant (found c.before.before.before))

pub returns-clause-answer : goal.returns-clause-answer
returns-clause-answer c =
    rw c.write_retire.ensures.event
    (both_true c.args.actor _
    (its_own_in c.self.inside c.args.self.now c.args.hart c.in_ok-active.active c.in_ok-active.outcome
    c.self.view_is c.self.invariant c.in_ok-active.ensures.some))

pub returns-then-not-is_fresh-clause-allowed : goal.returns-then-not-is_fresh-clause-allowed
returns-then-not-is_fresh-clause-allowed c =
    rw c.write_refetch.ensures.event
    (refetch_in c.self.inside c.args.self.now c.args.actor c.args.hart c.in_ok-active.active c.in_ok-active.outcome
    c.has_actor.result c.self.view_is c.self.invariant c.has_actor.ensures c.if-not-has_actor.false
    c.in_ok-active.ensures.some (sym c.is_fresh.ensures ∙ c.if-not-is_fresh.true))

pub returns-then-not-is_fresh-clause-answer : goal.returns-then-not-is_fresh-clause-answer
returns-then-not-is_fresh-clause-answer c =
    rw c.write_refetch.ensures.event
    (both_true c.args.actor _
    (its_own_in c.self.inside c.args.self.now c.args.hart c.in_ok-active.active c.in_ok-active.outcome
    c.self.view_is c.self.invariant c.in_ok-active.ensures.some))
