use Rattle.std.specs.Prelude.{slice_index_or}
use Rattle.std.proofs.Common.{◌∙◌, sym, ap}
use Rattle.core_steps.proofs.Steps.Retire.Halt.{fetched_on, replays_on, ends_ended, ends_stopped}
use Rattle.core_steps.proofs.retire.retire_oldest.Goals as goal

pub replay-requires-clause-step : goal.replay-requires-clause-step
replay-requires-clause-step c =
    let from = c.requires.step in
    record {
      before = from.before;
      after = from.after;
      inside = from.inside;
      agrees = from.agrees;
      step = replays_on from.before from.after c.args.hart c.args.active.now c.args.effect c.in-Pc.pc c.in-Pc.is
          (sym c.is_replay.ensures ∙ c.if-is_replay.true) from.step;
    }

pub commit-requires-clause-step : goal.commit-requires-clause-step
commit-requires-clause-step c =
    let from = c.requires.step in
    let old = c.args.parts.now in
    let at = c.index.ensures ∙ ap (λ i. slice_index_or old.harts.items i c.index.result.now) c.from.ensures in
    record {
      before = from.before;
      after = from.after;
      inside = from.inside;
      agrees = from.agrees;
      step = fetched_on from.before from.after old c.args.hart c.args.active.now c.args.effect c.in-Pc.pc
          c.index.result.now from.inside at from.agrees c.in-Pc.is
          (sym c.is_replay.ensures ∙ c.if-is_replay.false) from.step;
    }

pub halt-requires : goal.halt-requires
halt-requires c =
    let from = c.requires.step in
    record {
      step = record {
        before = from.before;
        after = from.after;
        inside = from.inside;
        agrees = from.agrees;
        step = ends_ended from.before from.after c.args.hart c.args.active.now c.args.effect c.in-Ended.status
            c.in-Ended.is from.step;
      };
    }

pub halt-requires-in-Stopped : goal.halt-requires-in-Stopped
halt-requires-in-Stopped c =
    let from = c.requires.step in
    record {
      step = record {
        before = from.before;
        after = from.after;
        inside = from.inside;
        agrees = from.agrees;
        step = ends_stopped from.before from.after c.args.hart c.args.active.now c.args.effect c.in-Stopped.cause
            c.in-Stopped.is from.step;
      };
    }

pub returns-then-is_replay-clause-agrees : goal.returns-then-is_replay-clause-agrees
returns-then-is_replay-clause-agrees c p q agrees retires =
    c.replay.ensures.agrees p q agrees
    (replays_on p q c.args.hart c.args.active.now c.args.effect c.in-Pc.pc c.in-Pc.is
    (sym c.is_replay.ensures ∙ c.if-is_replay.true) retires)

pub returns-else-is_replay-clause-agrees : goal.returns-else-is_replay-clause-agrees
returns-else-is_replay-clause-agrees c p q agrees retires =
    let old = c.args.parts.now in
    let at = c.index.ensures ∙ ap (λ i. slice_index_or old.harts.items i c.index.result.now) c.from.ensures in
    c.commit.ensures.agrees p q agrees
    (fetched_on p q old c.args.hart c.args.active.now c.args.effect c.in-Pc.pc c.index.result.now
    c.requires.step.inside at agrees c.in-Pc.is (sym c.is_replay.ensures ∙ c.if-is_replay.false) retires)

pub returns-in-Ended-clause-agrees : goal.returns-in-Ended-clause-agrees
returns-in-Ended-clause-agrees c p q agrees retires =
    c.halt.ensures.agrees p q agrees
    (ends_ended p q c.args.hart c.args.active.now c.args.effect c.in-Ended.status c.in-Ended.is retires)

pub returns-in-Stopped-clause-agrees : goal.returns-in-Stopped-clause-agrees
returns-in-Stopped-clause-agrees c p q agrees retires =
    c.halt-in-Stopped.ensures.agrees p q agrees
    (ends_stopped p q c.args.hart c.args.active.now c.args.effect c.in-Stopped.cause c.in-Stopped.is retires)
