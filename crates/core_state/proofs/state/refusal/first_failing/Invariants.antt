use Rattle.std.proofs.Common.{◌≡◌}
use Rattle.std.specs.Prelude.{drop}
use Rattle.smt_model.specs.Rules.{first_failing}
use Rattle.core_state.proofs.state.refusal.first_failing.Given as goal

abbrev pub invariant-loop-rule : goal.invariant-loop-rule
invariant-loop-rule l = first_failing (drop l.rule-index l.rules) ≡ first_failing l.rules
