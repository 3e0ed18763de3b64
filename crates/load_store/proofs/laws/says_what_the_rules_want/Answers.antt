use Rattle.load_store.proofs.Forwarding.{sees_first_look}
use Rattle.load_store.proofs.Saying.{says_outcomes, says_effects}
use Rattle.load_store.proofs.laws.says_what_the_rules_want.Goals as goal

pub returns-clause-look : goal.returns-clause-look
returns-clause-look c = sees_first_look

pub returns-clause-outcome : goal.returns-clause-outcome
returns-clause-outcome c = says_outcomes

pub returns-clause-effect : goal.returns-clause-effect
returns-clause-effect c = says_effects
