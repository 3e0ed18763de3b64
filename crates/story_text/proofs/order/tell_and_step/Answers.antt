use Rattle.story_text.proofs.order.tell_and_step.Goals as goal

pub returns-in-Ok-step-clause-told : goal.returns-in-Ok-step-clause-told
returns-in-Ok-step-clause-told g c = λ setup before agrees.
    let is = c.in-Ok-step.ensures.done setup before agrees in
    record {
      made = is.made;
      agrees = is.agrees;
      told = c.in-Ok.ensures.told setup before.state agrees;
      written = λ past few has. c.in-Ok.ensures.written setup before.state agrees past has few;
    }
