use Rattle.actors.proofs.turns.issue.Goals as goal

pub returns-clause-asked : goal.returns-clause-asked
returns-clause-asked g c = (
  c.ask-said.result.0,
  c.ask-said.result.1,
  c.ask-said.ensures.answered,
  c.ask-said.ensures.counted,
  c.job_of.ensures,
  c.of-outcome.ensures,
)
