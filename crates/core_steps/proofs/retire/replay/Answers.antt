use Rattle.std.specs.Prelude.{◌<◌, IfSome}
use Rattle.std.proofs.Common.{sym, subst}
use Rattle.elf_image.specs.Image.{ProgramImage}
use Rattle.shared_memory.specs.Contents.{CanWrite}
use Rattle.core_steps.proofs.Steps.{OtherMap.squashes_anew, Retire.Replay.commits_then}
use Rattle.core_steps.proofs.retire.replay.Goals as goal

pub squash-requires : goal.squash-requires
squash-requires c =
    let from = c.requires.step in
    record {
      step = record {
        before = from.before;
        after = from.step.step.middle;
        inside = from.inside;
        agrees = from.agrees;
        step = squashes_anew from.before from.step.step.middle c.args.hart c.args.active.now.seq
            from.step.step.squash;
      };
    }

pub commit-requires-clause-step : goal.commit-requires-clause-step
commit-requires-clause-step c =
    let from = c.requires.step in
    record {
      before = from.step.step.middle;
      after = from.after;
      inside = subst (λ n. c.args.hart < n) (sym c.squash.ensures.sizes.harts) from.inside;
      agrees = c.squash.ensures.agrees from.before from.step.step.middle from.agrees
          (squashes_anew from.before from.step.step.middle c.args.hart c.args.active.now.seq from.step.step.squash);
      step = commits_then from.before from.after c.args.hart c.args.active.now c.args.effect c.args.pc from.step;
    }

pub commit-requires-clause-write : goal.commit-requires-clause-write
commit-requires-clause-write c =
    subst (λ (i : ProgramImage). IfSome c.args.effect.write (CanWrite i)) (sym c.squash.ensures.sizes.image)
    c.requires.write

pub returns-clause-agrees : goal.returns-clause-agrees
returns-clause-agrees c p q agrees replays =
    let middle = replays.step.middle in
    c.commit.ensures.agrees middle q
    (c.squash.ensures.agrees p middle agrees
    (squashes_anew p middle c.args.hart c.args.active.now.seq replays.step.squash))
    (commits_then p q c.args.hart c.args.active.now c.args.effect c.args.pc replays)
