use Rattle.prompts.proofs.simulation.Simulation.ask.Goals as goal

pub returns-in-Ok-clause-setup : goal.returns-in-Ok-clause-setup
returns-in-Ok-clause-setup g c = c.in-Ok.ensures.setup

pub returns-in-Ok-clause-limit : goal.returns-in-Ok-clause-limit
returns-in-Ok-clause-limit g c = c.in-Ok.ensures.limit

pub returns-in-Ok-clause-shown : goal.returns-in-Ok-clause-shown
returns-in-Ok-clause-shown g c = c.in-Ok.ensures.shown
