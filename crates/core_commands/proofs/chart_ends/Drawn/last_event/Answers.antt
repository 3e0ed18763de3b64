use Rattle.std.proofs.Common.{arith, sym, ◌∙◌}
use Rattle.core_commands.proofs.OfEnds.{none_behind, none_at}
use Rattle.core_commands.proofs.chart_ends.Drawn.last_event.Goals as goal

pub loop-back-init : goal.loop-back-init
loop-back-init c = λ later past.
    none_behind c.args.self.now.hart c.args.symbol c.args.self.now.rows.now c.args.self.now.events.now later
    (omega arith)

pub loop-back-preserved : goal.loop-back-preserved
loop-back-preserved c = λ later past.
    none_at c.args.self.now.hart c.args.symbol c.args.self.now.rows.now c.args.self.now.events.now c.loop-back.back
    later
    (omega arith) (omega arith) (sym c.has_event_in.ensures ∙ c.if-has_event_in.false) c.loop-back.invariant

pub returns-then-has_event_in-clause-some : goal.returns-then-has_event_in-clause-some
returns-then-has_event_in-clause-some c = record {
  is = sym c.has_event_in.ensures ∙ c.if-has_event_in.true;
  last = λ later behind. c.loop-back.invariant later (omega arith);
}

pub returns-clause-none : goal.returns-clause-none
returns-clause-none c = λ place. c.loop-back.invariant place (omega arith)
