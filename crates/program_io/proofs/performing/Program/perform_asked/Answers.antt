use mathlib.Core.Logic.{inl, inr}
use Rattle.program_io.proofs.performing.Program.perform_asked.Goals as goal

pub returns-in-Some-clause-known : goal.returns-in-Some-clause-known
returns-in-Some-clause-known g c = c.read_and_test.ensures.known

pub returns-in-Some-clause-performed : goal.returns-in-Some-clause-performed
returns-in-Some-clause-performed g c = inr c.read_and_test.ensures

pub returns-in-None-clause-performed : goal.returns-in-None-clause-performed
returns-in-None-clause-performed g c = inl (c.suite_of.ensures.one c.in-None.is, c.read_and_perform.ensures.performed)
