use Rattle.smt_core.proofs.shown.show.Goals as goal

pub returns-clause-shown : goal.returns-clause-shown
returns-clause-shown c = record {
  legal = c.history.ensures.legal;
  agrees = (c.parts-registers.result.0.now, c.parts-registers.ensures.agrees);
  sequential = c.refines_the_plain_machine.ensures.sequential _ _ c.history.ensures.legal;
}
