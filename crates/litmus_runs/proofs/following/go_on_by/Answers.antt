use Rattle.std.proofs.Common.{arith, ◌∙◌}
use Rattle.std.proofs.lemmas.List.Elements.{All-pop}
use Rattle.litmus_runs.specs.Ways.{MayFind}
use Rattle.litmus_runs.proofs.Leads.{left_further, one_find_less, no_find_left, no_item}
use Rattle.litmus_runs.proofs.following.go_on_by.Goals as goal

pub loop-found-preserved : goal.loop-found-preserved
loop-found-preserved c = record {
  all = (All-pop (MayFind c.args.asked.now.known.now.held.items c.args.step c.args.from.now.hart)
      c.loop-found.all.items c.pop.new.self.items c.pop.result c.pop.ensures.items c.loop-found.invariant.all).0;
  going = c.in_ok-go_on_with.ensures.going;
  runs = c.go_on_with.ensures.runs ∙ c.loop-found.invariant.runs;
  whole = λ h. c.loop-found.invariant.whole (c.go_on_with.ensures.whole h);
  left = left_further c.args.from.now.hart c.args.going.now.items c.loop-found.going.items
      c.go_on_with.new.going.items c.loop-found.invariant.left c.in_ok-go_on_with.ensures.left;
  each = λ h. one_find_less c.args.asked.now.has_conditionals c.args.asked.now.thread.now
      c.args.asked.now.known.now.held.items c.args.from.now c.args.step c.args.all.items c.loop-found.all.items
      c.pop.new.self.items c.in-Some.found c.loop-found.going.items c.go_on_with.new.going.items
      c.in-Some.ensures.items c.in_ok-go_on_with.ensures.left.kept (c.in_ok-go_on_with.ensures.gone h)
      (c.loop-found.invariant.each (c.go_on_with.ensures.whole h));
}

pub returns-clause-each : goal.returns-clause-each
returns-clause-each c = λ whole. no_find_left c.args.asked.now.has_conditionals c.args.asked.now.thread.now
    c.args.asked.now.known.now.held.items c.args.from.now c.args.step c.args.all.items c.loop-found.all.items
    c.loop-found.going.items
    (no_item c.loop-found.all.items (omega (arith, c.in_default.ensures.cases.0, c.loop-found.all.ok.0)))
    (c.loop-found.invariant.each whole)
