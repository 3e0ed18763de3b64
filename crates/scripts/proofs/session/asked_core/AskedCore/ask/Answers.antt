use Rattle.std.proofs.Common.{◌<◌, length, get_or, sym, subst, ap, ◌∙◌, arith}
use Rattle.std.proofs.lemmas.Option.{slice_get-get_or}
use Rattle.core_lock.specs.Asks.{Replied, asked_of, event_in}
use Rattle.core_lock.specs.Passes.{idle_after}
use Rattle.core_lock.proofs.Replies.{IsBy, reply_by}
use Rattle.scripts.specs.Session.{HasGuessed, Counted}
use Rattle.scripts.proofs.Asking.{all_told, has_guessed}
use Rattle.scripts.proofs.session.asked_core.AskedCore.ask.Goals as goal

pub invariant_of-self : goal.invariant_of-self
invariant_of-self g c =
    let step = c.step.ensures.stepped in
    let inside : c.from.result < length c.self.inside.passes = omega (arith, c.self.ranges, c.from.ensures, c.requires) in
    let at =
    c.self.invariant c.from.result _
    (slice_get-get_or c.self.inside.passes c.from.result c.index-self-from.result inside) in
    all_told (λ p. p.actor) (λ p. p.count) (λ p. p.last) c.self.inside.held.core c.step.new.self.core
    c.self.inside.passes c.from.result c.step.new.pass (event_in c.step.result.said) c.self.invariant
    (subst (λ k. IsBy k (event_in c.step.result.said)) at.0
    (reply_by _ (asked_of c.args.ask) c.step.result.said step.own))
    step.grows (step.actor ∙ at.0) (step.told at.1)

pub returns-clause-replied : goal.returns-clause-replied
returns-clause-replied g c =
    let inside : c.from.result < length c.self.inside.passes = omega (arith, c.self.ranges, c.from.ensures, c.requires) in
    let at =
    c.self.invariant c.from.result _
    (slice_get-get_or c.self.inside.passes c.from.result c.index-self-from.result inside) in
    record {
      replied =
          subst (λ s. Replied c.args.actor c.args.ask c.args.self.now.core s c.step.new.self.core) (sym c.said.ensures.said)
          (subst (λ k. Replied k c.args.ask c.args.self.now.core c.step.result.said c.step.new.self.core)
          (at.0 ∙ c.from.ensures)
          (subst
          (λ (v : Counted). Replied (get_or c.self.inside.passes c.from.result c.index-self-from.result).actor c.args.ask
          v.core c.step.result.said c.step.new.self.core)
          c.self.view_is c.step.ensures.stepped.answer));
      counted =
          c.step.ensures.stepped.idle
          ∙ ap (λ k. idle_after k c.step.result.said c.self.inside.held.idle.each) (at.0 ∙ c.from.ensures)
          ∙ ap (λ s. idle_after c.args.actor s c.self.inside.held.idle.each) (sym c.said.ensures.said)
          ∙ ap (λ (v : Counted). idle_after c.args.actor c.said.result v.idle) c.self.view_is;
    }

pub returns-clause-guessed : goal.returns-clause-guessed
returns-clause-guessed g c =
    let step = c.step.ensures.stepped in
    subst
    (λ (v : Counted). HasGuessed g.P.Predict.predicts v.core.past c.step.new.self.core.past c.args.predict.now
    c.step.new.predict)
    c.self.view_is
    (has_guessed g.P.Predict.predicts _ (asked_of c.args.ask) c.step.result.said c.self.inside.held.core
    c.step.new.self.core c.args.predict.now c.step.new.predict step.own step.predicted step.grows)
