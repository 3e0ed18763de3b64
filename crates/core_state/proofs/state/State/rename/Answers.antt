use Rattle.std.specs.Prelude.{◌≡◌, true, false, None}
use Rattle.std.proofs.Common.{◌∙◌, sym, ap, subst}
use Rattle.events.specs.declared.event.Event.TheVariants.{Rename}
use Rattle.smt_model.specs.{Asks.AskRename, Fates.is_of, Rules.refused, Jobs.is_actor}
use Rattle.core_state.specs.{Answers.AllowsNone, Answers.IsLeastFree, State.setup_in, View.CoreView}
use Rattle.core_state.proofs.Steps.Rename.State.{rename_of, rename_allowed_now}
use Rattle.core_state.proofs.Steps.Rename.State.{rename_answers, least_now, no_actor, nothing_to_rename}
use Rattle.core_state.proofs.state.State.rename.Goals as goal

pub returns-then-not-has_actor-clause-idle : goal.returns-then-not-has_actor-clause-idle
returns-then-not-has_actor-clause-idle c =
    let i = c.self.inside in
    let none : is_actor (setup_in i) c.args.actor ≡ false =
    ap (λ (v : CoreView). is_actor v.setup c.args.actor) c.self.view_is
    ∙ (sym c.has_actor.ensures ∙ c.if-not-has_actor.true) in
    subst (λ (v : CoreView). AllowsNone v.setup (AskRename c.args.actor c.args.hart) v.past) c.self.view_is
    (no_actor i c.args.actor c.args.hart none)

pub returns-in_err-seq-clause-idle : goal.returns-in_err-seq-clause-idle
returns-in_err-seq-clause-idle c =
    rw c.from_residual.ensures
    (subst (λ (v : CoreView). AllowsNone v.setup (AskRename c.args.actor c.args.hart) v.past) c.self.view_is
    (nothing_to_rename c.self.inside c.args.actor c.args.hart c.self.invariant c.in_err-seq.ensures.none))

pub write_rename-requires-clause-allowed : goal.write_rename-requires-clause-allowed
write_rename-requires-clause-allowed c =
    let i = c.self.inside in
    let actor : is_actor (setup_in i) c.args.actor ≡ true =
    ap (λ (v : CoreView). is_actor v.setup c.args.actor) c.self.view_is
    ∙ (sym c.has_actor.ensures ∙ c.if-not-has_actor.false) in
    subst (λ (v : CoreView). refused v.setup v.past (Rename c.args.actor c.in_ok-seq.seq c.in_ok-seq.phys) ≡ None)
    c.self.view_is
    (rename_allowed_now i c.args.actor c.args.hart c.in_ok-seq.seq c.in_ok-seq.phys c.self.invariant actor
    c.in_ok-seq.ensures.some)

pub write_rename-requires-clause-of_hart : goal.write_rename-requires-clause-of_hart
write_rename-requires-clause-of_hart c =
    subst (λ (v : CoreView). is_of v.past c.args.hart c.in_ok-seq.seq ≡ true) c.self.view_is
    (rename_of c.self.inside c.args.hart c.in_ok-seq.seq c.in_ok-seq.phys c.self.invariant c.in_ok-seq.ensures.some)

pub returns-clause-allowed : goal.returns-clause-allowed
returns-clause-allowed c =
    let i = c.self.inside in
    let actor : is_actor (setup_in i) c.args.actor ≡ true =
    ap (λ (v : CoreView). is_actor v.setup c.args.actor) c.self.view_is
    ∙ (sym c.has_actor.ensures ∙ c.if-not-has_actor.false) in
    rw c.write_rename.ensures.event
    (subst (λ (v : CoreView). refused v.setup v.past (Rename c.args.actor c.in_ok-seq.seq c.in_ok-seq.phys) ≡ None)
    c.self.view_is
    (rename_allowed_now i c.args.actor c.args.hart c.in_ok-seq.seq c.in_ok-seq.phys c.self.invariant actor
    c.in_ok-seq.ensures.some))

pub returns-clause-answer : goal.returns-clause-answer
returns-clause-answer c =
    rw c.write_rename.ensures.event
    (rename_answers c.args.self.now.past c.args.actor c.args.hart c.in_ok-seq.seq
    (subst (λ (v : CoreView). is_of v.past c.args.hart c.in_ok-seq.seq ≡ true) c.self.view_is
    (rename_of c.self.inside c.args.hart c.in_ok-seq.seq c.in_ok-seq.phys c.self.invariant c.in_ok-seq.ensures.some)))

pub returns-clause-least : goal.returns-clause-least
returns-clause-least c =
    rw c.write_rename.ensures.event
    (subst (λ (v : CoreView). IsLeastFree v.setup v.past c.in_ok-seq.phys) c.self.view_is
    (least_now c.self.inside c.in_ok-seq.phys c.self.invariant c.in_ok-seq.ensures.least))
