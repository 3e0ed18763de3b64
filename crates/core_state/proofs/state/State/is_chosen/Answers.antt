-- The choice over the parts is the history's.
use Rattle.std.proofs.Common.{◌∙◌, ◌==◌, sym, ap}
use Rattle.core_steps.specs.Fetch.{next_hart}
use Rattle.core_state.proofs.Following.Fetch.{chosen_is, some_chosen, none_chosen}
use Rattle.core_state.proofs.state.State.is_chosen.Goals as goal

pub returns-in-Some : goal.returns-in-Some
returns-in-Some c =
    let i = c.self.inside in
    let is = chosen_is i c.self.invariant c.args.self.now c.self.view_is in
    let found =
    sym is ∙ (ap (λ hs. next_hart hs i.last) (sym c.deref.ensures.value) ∙ (sym c.choose.ensures.value ∙ c.in-Some.is)) in
    ap (λ n. c.in-Some.chosen == n) c.from.ensures ∙ some_chosen _ c.in-Some.chosen c.args.hart found

pub returns-in-None : goal.returns-in-None
returns-in-None c =
    let i = c.self.inside in
    let is = chosen_is i c.self.invariant c.args.self.now c.self.view_is in
    none_chosen _ c.args.hart
    (sym is ∙ (ap (λ hs. next_hart hs i.last) (sym c.deref.ensures.value) ∙ (sym c.choose.ensures.value ∙ c.in-None.is)))
