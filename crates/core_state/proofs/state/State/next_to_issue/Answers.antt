-- What the parts find is what the rules allow.
use Rattle.std.specs.Prelude.{◌≤◌, length, List}
use Rattle.std.proofs.Common.{◌∙◌, subst}
use Rattle.events.specs.declared.role.Role.{Role}
use Rattle.smt_model.specs.{Asks.AskIssue}
use Rattle.core_state.specs.{Answers.AllowsNone, State.setup_in, View.CoreView}
use Rattle.core_state.proofs.Steps.Issue.State.{no_role, unit_now, no_unit, next_allowed, next_entry, next_none}
use Rattle.core_state.proofs.Following.{Issue.alone, Place.is_legal_view}
use Rattle.core_state.proofs.state.State.next_to_issue.Goals as goal

pub returns-in_err-get-clause-idle : goal.returns-in_err-get-clause-idle
returns-in_err-get-clause-idle c =
    let i = c.self.inside in
    let past = subst (λ a. length c.self.inside.config.roles.items ≤ a) c.from.ensures
    (subst (λ (rs : List Role). length rs ≤ c.from.result) c.deref.ensures.0 c.in_err-get.ensures.lookup.3) in
    rw c.from_residual.ensures
    (subst (λ (v : CoreView). AllowsNone v.setup (AskIssue c.args.actor) v.past) c.self.view_is
    (no_unit i c.args.actor (no_role (setup_in i) c.args.actor past)))

pub returns-in_err-kind-clause-idle : goal.returns-in_err-kind-clause-idle
returns-in_err-kind-clause-idle c =
    let i = c.self.inside in
    let unit = unit_now i c.args.actor c.from.result c.deref.result.now c.in_ok-get.field-0.now c.unit.result
    c.deref.ensures.0 c.from.ensures
    c.in_ok-get.ensures.lookup.3.0 c.in_ok-get.ensures.lookup.1 c.unit.ensures in
    rw c.from_residual-in_err-kind.ensures
    (subst (λ (v : CoreView). AllowsNone v.setup (AskIssue c.args.actor) v.past) c.self.view_is
    (no_unit i c.args.actor (unit.1 ∙ c.in_err-kind.was)))

pub returns-clause-allowed : goal.returns-clause-allowed
returns-clause-allowed c =
    let i = c.self.inside in
    let unit = unit_now i c.args.actor c.from.result c.deref.result.now c.in_ok-get.field-0.now c.unit.result
    c.deref.ensures.0 c.from.ensures
    c.in_ok-get.ensures.lookup.3.0 c.in_ok-get.ensures.lookup.1 c.unit.ensures in
    next_allowed i c.self.invariant c.args.self.now c.self.view_is c.args.actor c.in_ok-kind.kind unit.0
    (unit.1 ∙ c.in_ok-kind.was) c.next_to_issue.result c.next_to_issue.ensures.some

pub returns-clause-entry : goal.returns-clause-entry
returns-clause-entry c =
    let i = c.self.inside in
    let unit = unit_now i c.args.actor c.from.result c.deref.result.now c.in_ok-get.field-0.now c.unit.result
    c.deref.ensures.0 c.from.ensures
    c.in_ok-get.ensures.lookup.3.0 c.in_ok-get.ensures.lookup.1 c.unit.ensures in
    next_entry i c.self.invariant c.args.self.now c.self.view_is c.args.actor c.in_ok-kind.kind unit.0
    (unit.1 ∙ c.in_ok-kind.was) c.next_to_issue.result c.next_to_issue.ensures.some

pub returns-clause-idle : goal.returns-clause-idle
returns-clause-idle c =
    let i = c.self.inside in
    let unit = unit_now i c.args.actor c.from.result c.deref.result.now c.in_ok-get.field-0.now c.unit.result
    c.deref.ensures.0 c.from.ensures
    c.in_ok-get.ensures.lookup.3.0 c.in_ok-get.ensures.lookup.1 c.unit.ensures in
    next_none i c.self.invariant c.args.self.now c.self.view_is c.args.actor c.in_ok-kind.kind unit.0
    (unit.1 ∙ c.in_ok-kind.was) c.next_to_issue.result c.next_to_issue.ensures.none

pub returns-clause-alone : goal.returns-clause-alone
returns-clause-alone c =
    let i = c.self.inside in
    let v = c.args.self.now in
    let unit = unit_now i c.args.actor c.from.result c.deref.result.now c.in_ok-get.field-0.now c.unit.result
    c.deref.ensures.0 c.from.ensures
    c.in_ok-get.ensures.lookup.3.0 c.in_ok-get.ensures.lookup.1 c.unit.ensures in
    alone v.setup v.past (is_legal_view i c.self.invariant v c.self.view_is) c.args.actor c.next_to_issue.result
    (next_allowed i c.self.invariant v c.self.view_is c.args.actor c.in_ok-kind.kind unit.0
    (unit.1 ∙ c.in_ok-kind.was) c.next_to_issue.result c.next_to_issue.ensures.some)
