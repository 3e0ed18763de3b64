-- The hart that the parts choose is the one that the history allows to be fetched.
use Rattle.std.proofs.Common.{◌∙◌, sym, subst, ap, arith}
use Rattle.smt_model.specs.Asks.{AskFetch}
use Rattle.core_state.specs.{Answers.AllowsNone, State.past_of, State.setup_in, View.CoreView}
use Rattle.core_steps.specs.{Fetch.next_hart}
use Rattle.core_state.proofs.Steps.Fetch.State.{bytes_of}
use Rattle.core_state.proofs.{Steps.Fetch.Rules.fetch_idle, Steps.Fetch.State.found_can, Steps.Fetch.State.none_chosen}
use Rattle.core_state.proofs.state.State.next_to_fetch.Goals as goal

pub returns-then-not-has_actor-clause-idle : goal.returns-then-not-has_actor-clause-idle
returns-then-not-has_actor-clause-idle c =
    let tested = c.has_actor.ensures in
    let none = c.if-not-has_actor.true in
    fetch_idle c.args.self.now.setup c.args.self.now.past c.args.actor (λ is_one h named. absurd (grind arith))

pub returns-in_err-hart-clause-idle : goal.returns-in_err-hart-clause-idle
returns-in_err-hart-clause-idle c =
    let i = c.self.inside in
    let none =
    ap (λ hs. next_hart hs i.last) (sym c.deref.ensures.value) ∙ (sym c.choose.ensures.value ∙ c.in_err-hart.was) in
    rw c.from_residual.ensures
    (subst (λ (v : CoreView). AllowsNone v.setup (AskFetch c.args.actor) v.past) c.self.view_is
    (fetch_idle (setup_in i) (past_of i) c.args.actor (none_chosen i c.self.invariant c.args.actor none)))

pub returns-clause-allowed : goal.returns-clause-allowed
returns-clause-allowed c =
    let found = c.in_ok-hart.ensures in
    found_can c.self.inside c.self.invariant c.args.self.now c.self.view_is c.args.actor c.in_ok-hart.hart
    c.has_actor.result c.deref.result.now
    c.index.result.now c.word_at.result c.has_actor.ensures c.if-not-has_actor.false c.deref.ensures.value found.value
    found.inside c.index.ensures
    (c.word_at.ensures c.self.inside.image (bytes_of c.self.inside) c.self.invariant.code)
