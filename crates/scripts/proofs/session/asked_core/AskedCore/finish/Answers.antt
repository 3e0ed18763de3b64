use Rattle.std.proofs.Common.{sym, subst, ap, ◌∙◌}
use Rattle.scripts.specs.Session.{Counted}
use Rattle.core_lock.proofs.Telling.{told_counts}
use Rattle.core_state.specs.View.{CoreView}
use Rattle.scripts.proofs.Asking.{AllTold}
use Rattle.scripts.proofs.session.asked_core.AskedCore.finish.Goals as goal

pub returns-clause-counts : goal.returns-clause-counts
returns-clause-counts g c =
    told_counts (λ p. p.actor) (λ p. p.count) (λ p. p.last) _ c.self.inside.passes _ c.finish-finished.ensures.counts
    (subst (λ (v : CoreView). AllTold (λ p. p.actor) (λ p. p.count) (λ p. p.last) v.past c.self.inside.passes)
    (sym c.finish-finished.ensures.core) c.self.invariant)

pub returns-clause-told : goal.returns-clause-told
returns-clause-told g c =
    c.finish-finished.ensures.told.1
    (subst (λ (v : CoreView). AllTold (λ p. p.actor) (λ p. p.count) (λ p. p.last) v.past c.self.inside.passes)
    (sym c.finish-finished.ensures.core) c.self.invariant)

pub returns-clause-core : goal.returns-clause-core
returns-clause-core g c = c.finish-finished.ensures.core ∙ ap (λ (v : Counted). v.core) c.self.view_is

pub returns-clause-idle : goal.returns-clause-idle
returns-clause-idle g c = c.finish-finished.result.counted ∙ c.finish-finished.ensures.idle ∙ ap (λ (v : Counted). v.idle) c.self.view_is
