use Rattle.std.proofs.Common.{rules}
use Rattle.core_steps.proofs.retire.next_to_retire.Goals as goal

pub returns-in-Completed-clause-inside : goal.returns-in-Completed-clause-inside
returns-in-Completed-clause-inside c = search rules

pub returns-in-Completed-clause-none : goal.returns-in-Completed-clause-none
returns-in-Completed-clause-none c = search rules

pub returns-in-Completed-clause-some : goal.returns-in-Completed-clause-some
returns-in-Completed-clause-some c = search rules

pub returns-in-Renamed : goal.returns-in-Renamed
returns-in-Renamed c = search rules

pub returns-in_err-active-clause-inside : goal.returns-in_err-active-clause-inside
returns-in_err-active-clause-inside c = search rules

pub returns-in_err-active-clause-none : goal.returns-in_err-active-clause-none
returns-in_err-active-clause-none c = search rules

pub returns-in_err-active-clause-some : goal.returns-in_err-active-clause-some
returns-in_err-active-clause-some c = search rules

pub returns-in_err-get-clause-inside : goal.returns-in_err-get-clause-inside
returns-in_err-get-clause-inside c = search rules

pub returns-in_err-get-clause-none : goal.returns-in_err-get-clause-none
returns-in_err-get-clause-none c = search rules

pub returns-in_err-get-clause-some : goal.returns-in_err-get-clause-some
returns-in_err-get-clause-some c = search rules
