use Rattle.std.proofs.Common.{arith}
use Rattle.text_fields.proofs.SplittingLaws.{parts_of}
use Rattle.text_fields.proofs.laws.join_law.Goals as goal

pub returns-clause-lacks : goal.returns-clause-lacks
returns-clause-lacks c = λ separator text. (parts_of separator text).lacks

pub returns-clause-alone : goal.returns-clause-alone
returns-clause-alone c = λ separator text. (parts_of separator text).alone

pub returns-clause-cut : goal.returns-clause-cut
returns-clause-cut c = λ separator text two. ((parts_of separator text).cut two).0

pub returns-clause-count : goal.returns-clause-count
returns-clause-count c = λ separator text two. omega (arith, ((parts_of separator text).cut two).1)
