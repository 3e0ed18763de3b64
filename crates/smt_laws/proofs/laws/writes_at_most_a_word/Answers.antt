use Rattle.smt_laws.proofs.Writes.{writes_at_most_a_word}
use Rattle.smt_laws.proofs.laws.writes_at_most_a_word.Goals as goal

pub returns : goal.returns
returns c = record { short = writes_at_most_a_word }
