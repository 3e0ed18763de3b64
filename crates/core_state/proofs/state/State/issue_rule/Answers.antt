-- A refused issue breaks a rule.
use Rattle.std.specs.Prelude.{◌≡◌, true, is_some}
use Rattle.std.proofs.{Common.◌∙◌, Common.sym, Common.subst, lemmas.Bool.false≢true}
use Rattle.core_state.proofs.state.State.issue_rule.Goals as goal

pub unreachable-requires : goal.unreachable-requires
unreachable-requires c =
    false≢true (subst (λ o. is_some o ≡ true) (sym c.issue_refusal.ensures ∙ c.in_default.is) c.requires)
