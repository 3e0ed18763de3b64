use Rattle.std.proofs.Common.{◌≡◌, ◌+◌, ◌++◌, length, subst}
use Rattle.stories.specs.Story.{row_list, row_of}
use Rattle.stories.specs.declared.step.Step.{Step}
use Rattle.story_pictures.proofs.Ordering.{unpushed}
use Rattle.story_pictures.proofs.order.draw_and_step.Goals as goal

pub returns-in-Ok-step-clause-drawn : goal.returns-in-Ok-step-clause-drawn
returns-in-Ok-step-clause-drawn c = λ setup before agrees.
    let is = c.in-Ok-step.ensures.done setup before agrees in
    let old = c.args.rows.now.items in
    record {
      made = is.made;
      agrees = is.agrees;
      drawn = subst (λ (step : Step). c.push_row.new.rows.items ≡ old ++ row_list (row_of (length old + 1) step))
          (c.step_of-step.ensures.value setup before.state agrees) c.in-Ok.ensures.pushed;
    }

pub returns-in-Err-clause-unmade : goal.returns-in-Err-clause-unmade
returns-in-Err-clause-unmade c = λ setup s agrees.
    unpushed setup _ s c.args.rows.now.items c.args.hart c.step_of-step.result c.in-Err.why
    (c.step_of-step.ensures.value setup s agrees) c.in-Err.ensures.unpushed
