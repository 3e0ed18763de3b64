use Rattle.std.proofs.Common.{◌≡◌, true, ◌∙◌}
use Rattle.std.proofs.lemmas.Result.{on_ok_weaker}
use Rattle.litmus_cycles.proofs.{Wholes.related, Counting.related_counted, Ready.made_unsourced}
use Rattle.litmus_cycles.proofs.searching.relate.Goals as goal

pub returns-clause-all : goal.returns-clause-all
returns-clause-all c =
    let yes : c.in_ok-add_events.field-0 ≡ true = c.if-not-branch.false in
    on_ok_weaker c.relate_events.result (related c.args.test.now c.args.runs.now c.args.chosen.now c.args.demand
    c.new-events.result.items c.as_slice.result.now c.args.findings.now c.relate_events.new.findings c.new-events.ensures.items
    (c.as_slice.ensures.value ∙ c.in_ok-add_events.ensures yes)) c.relate_events.ensures.all

pub returns-clause-counts : goal.returns-clause-counts
returns-clause-counts c =
    let yes : c.in_ok-add_events.field-0 ≡ true = c.if-not-branch.false in
    on_ok_weaker c.relate_events.result (related_counted c.args.test.now c.args.runs.now c.args.chosen.now
    c.new-events.result.items c.as_slice.result.now c.args.findings.now c.relate_events.new.findings c.new-events.ensures.items
    (c.as_slice.ensures.value ∙ c.in_ok-add_events.ensures yes)) c.relate_events.ensures.counts

pub relate_events-requires-clause-unsourced : goal.relate_events-requires-clause-unsourced
relate_events-requires-clause-unsourced c =
    let yes : c.in_ok-add_events.field-0 ≡ true = c.if-not-branch.false in
    made_unsourced c.args.runs.now.harts.items c.new-events.result.items c.as_slice.result.now c.args.chosen.now
    c.new-events.ensures.items (c.as_slice.ensures.value ∙ c.in_ok-add_events.ensures yes)
