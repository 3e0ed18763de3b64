use Rattle.std.proofs.Common.{◌∙◌}
use Rattle.issue_queue.proofs.{Moving.before_last, Moving.has_inserted}
use Rattle.issue_queue.proofs.plain.place.Goals as goal

pub sink_last-requires-clause-rising : goal.sink_last-requires-clause-rising
sink_last-requires-clause-rising c =
    rw (before_last c.args.entries.now.items c.as_mut_slice.result.now c.args.entry
    (c.as_mut_slice.ensures.value ∙ c.push.ensures.items)) c.requires.rising

pub returns : goal.returns
returns c =
    has_inserted c.push.new.self c.as_mut_slice.result.now c.sink_last.new.entries c.as_mut_slice.ensures.value
    c.sink_last.auto.entries c.args.entry c.args.entries.now.items c.push.ensures.items c.sink_last.ensures
