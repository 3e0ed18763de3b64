-- The fetch that is written is the one that was given: its number is the next.
use Rattle.std.proofs.Common.{◌≡◌, ◌∙◌, None, sym, ap, subst}
use Rattle.smt_model.specs.Rules.{refused}
use Rattle.core_state.specs.{View.grown}
use Rattle.core_state.proofs.Following.Fetch.{fetch_at}
use Rattle.core_state.proofs.state.State.follow_fetch.Goals as goal

pub fetch-requires-clause-allowed : goal.fetch-requires-clause-allowed
fetch-requires-clause-allowed c =
    let v = c.args.self.now in
    let ok = sym c.fetch_refusal.ensures ∙ c.in_default.is in
    subst (λ e. refused v.setup v.past e ≡ None)
    (fetch_at v.setup v.past c.args.actor c.args.seq c.args.predicted c.args.point ok) ok

pub returns-clause-made : goal.returns-clause-made
returns-clause-made c =
    let v = c.args.self.now in
    let ok = sym c.fetch_refusal.ensures ∙ c.in_default.is in
    let same = fetch_at v.setup v.past c.args.actor c.args.seq c.args.predicted c.args.point ok in
    c.fetch.ensures.made ∙ ap (λ e. grown e v) (c.fetch.ensures.event ∙ sym same)
