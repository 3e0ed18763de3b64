use Rattle.std.proofs.Common.{◌∙◌}
use Rattle.scripts.proofs.Sessions.{of_words, of_counted}
use Rattle.core_commands.proofs.step.step_image.Goals as goal

pub returns-clause-refused : goal.returns-clause-refused
returns-clause-refused g c = (c.in_ok-core.ensures.accepted, (_, c.in_ok-words.ensures.script))

pub returns-in-Ok-clause-asked : goal.returns-in-Ok-clause-asked
returns-in-Ok-clause-asked g c =
    let asked = c.in-Ok.ensures in
    let words = rw c.as_slice.ensures.value at asked.asked in
    of_words g.P.Predict.predicts c.args.script.now c.in_ok-words.words.items _ _ _ _ _ _
    c.in_ok-words.ensures.script c.in_ok-core.ensures.unasked asked.setup asked.limit words asked.guessed

pub returns-in-Ok-clause-idle : goal.returns-in-Ok-clause-idle
returns-in-Ok-clause-idle g c =
    let asked = c.in-Ok.ensures in
    let words = rw c.as_slice.ensures.value at asked.idle in
    of_counted c.args.script.now c.in_ok-words.words.items _ _ _ _ _
    c.in_ok-words.ensures.script c.in_ok-core.ensures.unasked asked.setup asked.limit words

pub returns-in-Ok-clause-own : goal.returns-in-Ok-clause-own
returns-in-Ok-clause-own g c = c.in-Ok.ensures.own.1 c.in_ok-core.ensures.setup

pub returns-in-Ok-clause-script : goal.returns-in-Ok-clause-script
returns-in-Ok-clause-script g c = (_, c.in_ok-words.ensures.script)

pub returns-in-Ok-clause-setup : goal.returns-in-Ok-clause-setup
returns-in-Ok-clause-setup g c = c.in-Ok.ensures.setup ∙ c.in_ok-core.ensures.setup

pub returns-in-Ok-clause-limit : goal.returns-in-Ok-clause-limit
returns-in-Ok-clause-limit g c = c.in-Ok.ensures.limit ∙ c.in_ok-core.ensures.limit

pub returns-in-Ok-clause-told : goal.returns-in-Ok-clause-told
returns-in-Ok-clause-told g c = c.in-Ok.ensures.told

pub returns-in-Ok-clause-counts : goal.returns-in-Ok-clause-counts
returns-in-Ok-clause-counts g c = c.in-Ok.ensures.counts

pub returns-in-Ok-clause-counted : goal.returns-in-Ok-clause-counted
returns-in-Ok-clause-counted g c = c.in-Ok.ensures.counted

pub returns-in-Ok-clause-shown : goal.returns-in-Ok-clause-shown
returns-in-Ok-clause-shown g c = c.in-Ok.ensures.shown
