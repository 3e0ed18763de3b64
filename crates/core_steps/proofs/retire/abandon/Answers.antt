use Rattle.std.specs.Prelude.{◌<◌}
use Rattle.std.proofs.Common.{sym, subst}
use Rattle.core_steps.specs.Checkpoints.{with_map}
use Rattle.core_steps.proofs.Steps.{OtherMap.squash_with, OtherMap.squashes_anew, Retire.Abandon.leaves_with}
use Rattle.core_steps.proofs.retire.abandon.Goals as goal

pub leave-requires : goal.leave-requires
leave-requires c =
    let from = c.requires.step in
    record {
      step = record {
        before = from.before;
        after = with_map (from.before.mapped c.args.hart) from.step.middle c.args.hart;
        inside = from.inside;
        agrees = from.agrees;
        step = leaves_with from.before from.after c.args.hart c.args.active.now c.args.status c.args.pc from.step;
      };
    }

pub squash-requires : goal.squash-requires
squash-requires c =
    let from = c.requires.step in
    let map = from.before.mapped c.args.hart in
    let middle = with_map map from.step.middle c.args.hart in
    record {
      step = record {
        before = middle;
        after = from.after;
        inside = subst (λ n. c.args.hart < n) (sym c.leave.ensures.sizes.harts) from.inside;
        agrees =
            c.leave.ensures.agrees from.before middle from.agrees
            (leaves_with from.before from.after c.args.hart c.args.active.now c.args.status c.args.pc from.step);
        step = squashes_anew middle from.after c.args.hart c.args.active.now.seq
            (squash_with map from.step.middle from.after c.args.hart c.args.active.now.seq from.step.squash);
      };
    }

pub returns-clause-agrees : goal.returns-clause-agrees
returns-clause-agrees c p q agrees abandons =
    let middle = with_map (p.mapped c.args.hart) abandons.middle c.args.hart in
    c.squash.ensures.agrees middle q
    (c.leave.ensures.agrees p middle agrees (leaves_with p q c.args.hart c.args.active.now c.args.status c.args.pc abandons))
    (squashes_anew middle q c.args.hart c.args.active.now.seq
    (squash_with (p.mapped c.args.hart) abandons.middle q c.args.hart c.args.active.now.seq abandons.squash))
