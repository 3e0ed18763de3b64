use Rattle.std.specs.Prelude.{slice_index_or}
use Rattle.std.proofs.Common.{◌∙◌, ap}
use Rattle.core_steps.proofs.Steps.Retire.Abandon.{refetch_leaves}
use Rattle.core_steps.proofs.retire.refetch_oldest.Goals as goal

pub abandon-requires : goal.abandon-requires
abandon-requires c =
    let from = c.requires.step in
    let old = c.args.parts.now in
    let at = c.index.ensures ∙ ap (λ i. slice_index_or old.harts.items i c.index.result.now) c.from.ensures in
    record {
      step = record {
        before = from.before;
        after = from.after;
        inside = from.inside;
        agrees = from.agrees;
        step = refetch_leaves from.before from.after old c.args.hart c.args.active.now c.index.result.now
            from.inside at from.agrees from.step;
      };
    }

pub returns-clause-agrees : goal.returns-clause-agrees
returns-clause-agrees c p q agrees refetches =
    let old = c.args.parts.now in
    let at = c.index.ensures ∙ ap (λ i. slice_index_or old.harts.items i c.index.result.now) c.from.ensures in
    c.abandon.ensures.agrees p q agrees
    (refetch_leaves p q old c.args.hart c.args.active.now c.index.result.now c.requires.step.inside at agrees
    refetches)
