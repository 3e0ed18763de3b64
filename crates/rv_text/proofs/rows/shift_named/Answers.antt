use Rattle.rv_text.proofs.rows.shift_named.Goals as goal

pub returns-in-srai-clause-found : goal.returns-in-srai-clause-found
returns-in-srai-clause-found c = c.in-srai.is
