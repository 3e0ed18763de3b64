use Rattle.std.proofs.Common.{arith}
use Rattle.text_fields.proofs.SplittingLaws.{count-alone, count-cut, field-alone, field-cut, rest-alone, rest-cut}
use Rattle.text_fields.proofs.laws.split_law.Goals as goal

pub returns-clause-first : goal.returns-clause-first
returns-clause-first c = field-cut

pub returns-clause-others : goal.returns-clause-others
returns-clause-others c = rest-cut

pub returns-clause-count : goal.returns-clause-count
returns-clause-count c = λ separator first others lacks. omega (arith, count-cut separator first others lacks)

pub returns-clause-alone : goal.returns-clause-alone
returns-clause-alone c = λ separator first lacks.
    (field-alone separator first lacks, rest-alone separator first lacks, count-alone separator first lacks)
