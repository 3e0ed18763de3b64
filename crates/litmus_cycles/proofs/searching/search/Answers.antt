use Rattle.std.proofs.Common.{[], subst}
use Rattle.litmus_cycles.specs.{Searched.Searches, Searched.HasCounted, Searched.wanted_behind, Counts.count_behind}
use Rattle.litmus_cycles.proofs.Wholes.{searched}
use Rattle.litmus_cycles.proofs.searching.search.Goals as goal

pub returns-clause-all : goal.returns-clause-all
returns-clause-all g c =
    let new = c.new-findings.result in
    let e = c.new-findings.ensures in
    let after = c.choose_ways.new.findings in
    searched c.args.test.now c.args.runs.now c.args.demand new after e.fitting e.counts e.over
    (subst (λ left. Searches c.args.demand (wanted_behind c.args.test.now c.args.runs.now c.args.demand [] left) new after)
    c.as_slice.ensures.value c.in_ok-choose_ways.ensures.all)
    (subst (λ left. HasCounted (count_behind c.args.test.now c.args.runs.now [] left) new after)
    c.as_slice.ensures.value c.in_ok-choose_ways.ensures.counts)
