use Rattle.std.proofs.Common.{◌-◌, length, take, drop, sym, ◌∙◌, arith}
use Rattle.std.proofs.lemmas.{Result.on_ok_weaker, List.nil_from_length}
use Rattle.litmus_cycles.specs.Searched.{wanted_behind}
use Rattle.litmus_cycles.proofs.Wholes.{next_way, all_below, split_first, ruled_out_found}
use Rattle.litmus_cycles.proofs.Counting.{next_counted, all_counted, counted_here, ruled_out_counted}
use Rattle.litmus_cycles.proofs.searching.+choose_ways.Goals as goal

pub loop-index-preserved : goal.loop-index-preserved
loop-index-preserved t g c =
    let i = c.loop-index.invariant in
    let e = c.in_ok-choose_ways.ensures in
    let less = c.loop-index-test.true in
    let rest = take (length c.args.left.now - 1) (drop 1 c.args.left.now) in
    record {
      found = e.found;
      searches = next_way c.args.test.now c.args.runs.now c.args.chosen.now c.as_slice.result.now c.args.demand
          c.loop-index.index rest c.args.findings.now c.loop-index.findings c.choose_ways.new.findings
          (c.as_slice.ensures.value ∙ c.in_ok-next.ensures) i.searches e.all;
      counts = next_counted c.args.test.now c.args.runs.now c.args.chosen.now c.as_slice.result.now c.args.demand
          (wanted_behind c.args.test.now c.args.runs.now c.args.demand c.as_slice.result.now rest)
          c.loop-index.index rest c.args.findings.now c.loop-index.findings c.choose_ways.new.findings
          (c.as_slice.ensures.value ∙ c.in_ok-next.ensures) e.all i.counts e.counts;
      inside = omega (arith, less);
    }

pub returns-clause-all : goal.returns-clause-all
returns-clause-all t g c =
    let rest = take (length c.args.left.now - 1) (drop 1 c.args.left.now) in
    let over = c.loop-index-test.false in
    let inside = c.loop-index.invariant.inside in
    let counted = c.len-index-end.ensures ∙ c.hart-item.result.runs.ok.0 in
    all_below c.args.test.now c.args.runs.now c.args.chosen.now c.args.demand c.loop-index.index c.hart-item.result rest
    c.args.left.now c.args.findings.now c.loop-index.findings c.loop-index.invariant.searches
    (omega (arith, over, inside, counted))
    (split_first c.args.left.now c.hart-item.result c.in-len1-up.len_at_least c.hart-item.is)

pub returns-clause-counts : goal.returns-clause-counts
returns-clause-counts t g c =
    let rest = take (length c.args.left.now - 1) (drop 1 c.args.left.now) in
    let over = c.loop-index-test.false in
    let inside = c.loop-index.invariant.inside in
    let counted = c.len-index-end.ensures ∙ c.hart-item.result.runs.ok.0 in
    all_counted c.args.test.now c.args.runs.now c.args.chosen.now c.loop-index.index c.hart-item.result rest
    c.args.left.now c.args.findings.now c.loop-index.findings c.loop-index.invariant.counts
    (omega (arith, over, inside, counted))
    (split_first c.args.left.now c.hart-item.result c.in-len1-up.len_at_least c.hart-item.is)

pub returns-in_default-clause-counts : goal.returns-in_default-clause-counts
returns-in_default-clause-counts t g c =
    let few = c.in_default.len_below in
    on_ok_weaker c.relate.result (counted_here c.args.test.now c.args.runs.now c.args.chosen.now c.args.left.now
    c.args.findings.now c.relate.new.findings (nil_from_length c.args.left.now (omega (arith, few))))
    c.relate.ensures.counts

pub returns-then-is_ruled_out-clause-all : goal.returns-then-is_ruled_out-clause-all
returns-then-is_ruled_out-clause-all t g c =
    ruled_out_found c.args.test.now c.args.runs.now c.args.chosen.now c.args.demand c.args.left.now c.args.findings.now
    c.rule_out.new.self (sym c.is_ruled_out.ensures ∙ c.if-is_ruled_out.true) c.rule_out.ensures.stays

pub returns-then-is_ruled_out-clause-counts : goal.returns-then-is_ruled_out-clause-counts
returns-then-is_ruled_out-clause-counts t g c =
    ruled_out_counted c.args.test.now c.args.runs.now c.args.chosen.now c.args.left.now c.args.findings.now
    c.rule_out.new.self (sym c.is_ruled_out.ensures ∙ c.if-is_ruled_out.true) c.rule_out.ensures.counts
