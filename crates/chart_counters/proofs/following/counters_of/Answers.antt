use Rattle.std.proofs.Common.{ap, subst, arith, length}
use Rattle.std.specs.Prelude.{◌<◌}
use Rattle.core_state.specs.View.{CoreView}
use Rattle.core_state.specs.Setup.{setup_of}
use Rattle.smt_model.specs.Setup.{Setup}
use Rattle.chart_counters.specs.Counters.{AreCountersBetween}
use Rattle.chart_counters.proofs.Followed.{allowed_in, all_there, followed, one_more, passed_over, read_in}
use Rattle.chart_counters.proofs.following.counters_of.Goals as goal
use Rattle.chart_counters.proofs.following.counters_of.Goals.{then-from-index+in_ok-push, else-from-index}

pub follow-requires-clause-allowed : goal.follow-requires-clause-allowed
follow-requires-clause-allowed c =
    allowed_in c.args.events.now c.loop-index.index _ c.loop-index.core c.in-Ok.core
    (setup_of c.args.image.now c.args.config)
    (ap (λ (v : CoreView). v.setup) c.in-Ok.ensures.made)
    c.requires.legal c.loop-index.invariant.core
    (let inside = c.loop-index-test.true in let end = c.min-end.ensures in omega (arith, inside, end))

pub loop-index-preserved : goal.loop-index-preserved
loop-index-preserved c =
    let events = c.args.events.now in
    let there : c.loop-index.index < length events =
    let inside = c.loop-index-test.true in let end = c.min-end.ensures in omega (arith, inside, end) in
    let now = followed events c.loop-index.index _ c.loop-index.core c.in-Ok.core _ c.loop-index.invariant.core there
    c.follow.ensures in
    record {
      core = now;
      counters = elim c.if-from-index.branch [
        | then-from-index+in_ok-push w ↦
            rw (w.counters-is, w.in_ok-push.ensures.items)
            (one_more c.in-Ok.core.setup events c.args.from c.loop-index.index c.loop-index.counters.items _ _ there
            w.if-from-index.true c.loop-index.invariant.counters
            (read_in events c.loop-index.index _ _ c.in-Ok.core _ now there w.counters_behind.ensures))
        | else-from-index w ↦
            rw w.counters-is (passed_over c.in-Ok.core.setup events c.args.from c.loop-index.index
            c.loop-index.counters.items
            (let before = w.if-from-index.false in omega (arith, before)) c.loop-index.invariant.counters)
      ];
    }

pub returns : goal.returns
returns c =
    subst (λ (s : Setup). AreCountersBetween s c.args.events.now c.args.from c.args.to c.loop-index.counters.items)
    (ap (λ (v : CoreView). v.setup) c.in-Ok.ensures.made)
    (all_there c.in-Ok.core.setup c.args.events.now c.args.from c.args.to c.loop-index.index c.loop-index.counters.items
    (let end = c.min-end.ensures in let over = c.loop-index-test.false in let within = c.loop-index.auto.index-end in
    omega (arith, end, over, within))
    c.loop-index.invariant.counters)
