use Rattle.std.specs.Prelude.{◌≡◌, ◌<◌, slice_index_or}
use Rattle.std.proofs.Common.{◌∙◌, sym, ap, subst}
use Rattle.smt_model.specs.Steps.{HasCompleted}
use Rattle.core_parts.specs.declared.hart.HartState.{HartState}
use Rattle.core_steps.specs.{Checkpoints.map_behind, Checkpoints.with_map_if}
use Rattle.core_parts.proofs.Agreement.Queues.{has_place}
use Rattle.core_steps.proofs.Steps.OtherMap.{completes_if, op_if, phys_if, squashes_if}
use Rattle.core_steps.proofs.Steps.Complete.Map.{squash_finds}
use Rattle.core_steps.proofs.complete.finish.Goals as goal

pub write_outcome-requires-clause-place : goal.write_outcome-requires-clause-place
write_outcome-requires-clause-place c =
    let from = c.requires.step in
    has_place c.args.parts.now.harts.items c.args.parts.now.accesses c.args.job.now.hart from.agrees.accesses from.inside

pub write_outcome-requires-2 : goal.write_outcome-requires-2
write_outcome-requires-2 c =
    let from = c.requires.step in
    record {
      inside = subst (λ n. c.args.job.now.hart < n) (sym c.restore_map-restored.ensures.sizes.harts) from.inside;
      place = has_place c.restore_map-restored.new.parts.harts.items c.restore_map-restored.new.parts.accesses
          c.args.job.now.hart (c.restore_map-restored.ensures.agrees from.before from.agrees).accesses
          (subst (λ n. c.args.job.now.hart < n) (sym c.restore_map-restored.ensures.sizes.harts) from.inside);
    }

pub squash-requires : goal.squash-requires
squash-requires c =
    let from = c.requires.step in
    let h = c.args.job.now.hart in
    let n = c.args.active.now.seq in
    let b = c.restore_map-restored.result in
    let mispredicted = from.step.mispredicts c.in-Some.pc (sym c.redirect_pc.ensures ∙ c.in-Some.is) in
    let map = map_behind from.before h n in
    record {
      step = record {
        before = with_map_if b map mispredicted.middle h;
        after = from.after;
        inside = subst (λ i. h < i) (sym (c.write_outcome-2.ensures.sizes.harts ∙ c.restore_map-restored.ensures.sizes.harts))
            from.inside;
        agrees =
            c.write_outcome-2.ensures.agrees (with_map_if b map from.before h) (with_map_if b map mispredicted.middle h)
            (c.restore_map-restored.ensures.agrees from.before from.agrees)
            (completes_if b map from.before mispredicted.middle h n c.args.actor c.args.outcome.now c.in-Some.pc
            mispredicted.complete)
            (from.step.phys ∙ phys_if b map from.before h n) (from.step.op ∙ op_if b map from.before h n);
        step = squashes_if b map mispredicted.middle from.after h n
            (squash_finds from.before from.after h n c.args.actor c.args.outcome.now c.in-Some.pc c.args.parts.now
            from.inside from.agrees mispredicted)
            mispredicted.squash;
      };
    }

pub returns-in_default-clause-agrees : goal.returns-in_default-clause-agrees
returns-in_default-clause-agrees c = λ p q agrees step.
    let h = c.args.job.now.hart in
    let old = c.args.parts.now in
    let x = c.index.result.now in
    let at : x ≡ slice_index_or old.harts.items h x =
    subst (λ i. x ≡ slice_index_or old.harts.items i x) c.from.ensures c.index.ensures in
    let on : p.fetch_pc h ≡ x.fetch_pc =
    sym (ap (λ (z : HartState). z.fetch_pc) at ∙ (agrees.harts h x c.requires.step.inside).fetch_pc) in
    c.write_outcome.ensures.agrees p q agrees
    (subst (HasCompleted p q h c.args.active.now.seq c.args.actor c.args.outcome.now) on
    (step.straight (sym c.redirect_pc.ensures ∙ c.in_default.is))) step.phys step.op

pub returns-clause-agrees : goal.returns-clause-agrees
returns-clause-agrees c = λ p q agrees step.
    let h = c.args.job.now.hart in
    let n = c.args.active.now.seq in
    let b = c.restore_map-restored.result in
    let mispredicted = step.mispredicts c.in-Some.pc (sym c.redirect_pc.ensures ∙ c.in-Some.is) in
    let map = map_behind p h n in
    c.squash.ensures.agrees (with_map_if b map mispredicted.middle h) q
    (c.write_outcome-2.ensures.agrees (with_map_if b map p h) (with_map_if b map mispredicted.middle h)
    (c.restore_map-restored.ensures.agrees p agrees)
    (completes_if b map p mispredicted.middle h n c.args.actor c.args.outcome.now c.in-Some.pc mispredicted.complete)
    (step.phys ∙ phys_if b map p h n) (step.op ∙ op_if b map p h n))
    (squashes_if b map mispredicted.middle q h n
    (squash_finds p q h n c.args.actor c.args.outcome.now c.in-Some.pc c.args.parts.now c.requires.step.inside agrees
    mispredicted) mispredicted.squash)
