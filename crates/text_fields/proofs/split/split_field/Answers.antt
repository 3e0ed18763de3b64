use Rattle.std.proofs.Common.{rules, arith}
use Rattle.std.proofs.lemmas.Grind.{common_steps}
use Rattle.text_fields.specs.Splitting.{field}
use Rattle.text_fields.specs.Splitting.{rest}
use Rattle.text_fields.proofs.split.split_field.Goals as goal

pub returns-clause-first : goal.returns-clause-first
unfolding field rest
returns-clause-first c = search rules

pub returns-clause-length : goal.returns-clause-length
unfolding field rest
returns-clause-length c = search rules

pub returns-clause-others : goal.returns-clause-others
unfolding field rest
returns-clause-others c = first_of (search rules, grind (arith, common_steps))

pub returns-then-end-text-clause-first : goal.returns-then-end-text-clause-first
unfolding field rest
returns-then-end-text-clause-first c = first_of (search rules, grind (arith, common_steps))

pub returns-then-end-text-clause-length : goal.returns-then-end-text-clause-length
unfolding field rest
returns-then-end-text-clause-length c = search rules

pub returns-then-end-text-clause-others : goal.returns-then-end-text-clause-others
unfolding field rest
returns-then-end-text-clause-others c = first_of (search rules, grind (arith, common_steps))
