use Rattle.std.proofs.Common.{◌∙◌, refl, arith}
use Rattle.std.proofs.lemmas.Result.{on_ok_weaker}
use Rattle.litmus_cycles.proofs.{Wholes.opened, Wholes.stays_same, Wholes.none_begins, Counting.asked_counted, Ready.ready_all}
use Rattle.litmus_cycles.proofs.searching.relate_events.Goals as goal

pub returns-then-not-may_begin-clause-all : goal.returns-then-not-may_begin-clause-all
returns-then-not-may_begin-clause-all c =
    let asked = c.args.asked.now in
    none_begins asked.test.now asked.runs.now asked.chosen.now asked.demand c.args.events.now c.args.findings.now
    c.count.new.self c.count.ensures.stays (c.may_begin.ensures.none c.if-not-may_begin.true)

pub returns-then-not-may_begin-clause-counts : goal.returns-then-not-may_begin-clause-counts
returns-then-not-may_begin-clause-counts c =
    asked_counted c.args.asked.now.test.now c.args.asked.now.runs.now
    c.args.asked.now.chosen.now c.args.events.now c.len-locations.result c.count_asked.result
    c.args.findings.now c.count.new.self c.count.new.self c.count.new.self
    (c.len-locations.ensures ∙ c.args.asked.now.test.now.words.ok.0) c.count_asked.ensures c.count.ensures.counts
    refl refl

pub returns-clause-all : goal.returns-clause-all
returns-clause-all c =
    on_ok_weaker c.decide.result (opened c.args.asked.now.test.now c.args.asked.now.runs.now
    c.args.asked.now.chosen.now c.args.asked.now.demand c.as_slice.result.now c.args.events.now c.len-locations.result
    c.args.findings.now c.count.new.self c.count.new.self c.decide.new.findings
    (c.as_slice.ensures.value ∙ c.in_ok-left.ensures)
    (c.len-locations.ensures ∙ c.args.asked.now.test.now.words.ok.0) c.count.ensures.stays
    (stays_same c.count.new.self)) c.decide.ensures.all

pub returns-clause-counts : goal.returns-clause-counts
returns-clause-counts c =
    on_ok_weaker c.decide.result (asked_counted c.args.asked.now.test.now c.args.asked.now.runs.now
    c.args.asked.now.chosen.now c.args.events.now c.len-locations.result c.count_asked.result
    c.args.findings.now c.count.new.self c.count.new.self c.decide.new.findings
    (c.len-locations.ensures ∙ c.args.asked.now.test.now.words.ok.0) c.count_asked.ensures c.count.ensures.counts
    refl) c.decide.ensures.counts

pub decide-requires-clause-ready : goal.decide-requires-clause-ready
decide-requires-clause-ready c =
    ready_all c.args.events.now c.as_slice.result.now c.len-locations.result (omega arith) (omega arith)
    c.requires.unsourced (c.as_slice.ensures.value ∙ c.in_ok-left.ensures)
