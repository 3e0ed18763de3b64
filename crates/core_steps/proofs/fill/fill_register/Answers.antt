use Rattle.core_steps.proofs.Agreement.Fill.{is_filled_none, is_filled_empty}
use Rattle.core_steps.proofs.fill.fill_register.Goals as goal

pub returns-in_default : goal.returns-in_default
returns-in_default c = is_filled_none _ _ _ c.in_default.is

pub returns-in_default-value : goal.returns-in_default-value
returns-in_default-value c = is_filled_empty _ _ _ _ _ c.in-Some.is c.in_default-value.is c.set.ensures
