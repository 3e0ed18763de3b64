use Rattle.std.proofs.Common.{rules}
use Rattle.program_io.proofs.words.refuse_words.Goals as goal

pub returns-clause-status : goal.returns-clause-status
returns-clause-status g c = search rules

pub returns-in-Refused-clause-status : goal.returns-in-Refused-clause-status
returns-in-Refused-clause-status g c = search rules

pub returns-in-Ok-clause-status : goal.returns-in-Ok-clause-status
returns-in-Ok-clause-status g c = search rules
