use Rattle.std.proofs.Common.{◌∙◌, refl, ap, subst, ◌≡◌, get_or, slice_set, None}
use Rattle.core_steps.proofs.Steps.Complete.Parts.{parts_completed}
use Rattle.core_steps.proofs.complete.write_outcome.Goals as goal

pub returns-clause-agrees : goal.returns-clause-agrees
returns-clause-agrees c = λ p q agrees step phys op.
    let old = c.args.parts.now in
    let x = c.index_mut.result.now in
    let at : x ≡ get_or c.fill_register.new.parts.harts.items c.args.job.now.hart x =
    subst (λ i. x ≡ get_or c.fill_register.new.parts.harts.items i x) c.from-2.ensures c.index_mut.ensures.value in
    parts_completed p q c.args.job.now.hart c.args.active.now.seq c.args.actor c.args.active.now.op c.args.outcome.now
    c.args.goes_on c.args.active.now.phys old c.fill_register.new.parts _
    c.requires.inside agrees step phys op (record {
      was = x;
      at = subst (λ v. x ≡ get_or v.items c.args.job.now.hart x) c.fill_register.ensures.harts at;
      filled = c.fill_register.ensures;
      harts =
          ap (λ i. slice_set c.fill_register.new.parts.harts.items i c.enter_outcome.new.state) c.from-2.ensures
          ∙ ap (λ v. slice_set v.items c.args.job.now.hart c.enter_outcome.new.state) c.fill_register.ensures.harts
          ∙ ap (slice_set old.harts.items c.args.job.now.hart) c.enter_outcome.ensures;
      queue = refl;
      free = refl;
      values = refl;
      jobs = c.set_job.ensures ∙ ap (λ js. slice_set js c.from.result None) c.fill_register.ensures.jobs
          ∙ ap (λ k. slice_set old.jobs k None) c.from.ensures;
      accesses = rw c.fill_register.ensures.accesses at c.resolve_access.ensures;
      memory = c.fill_register.ensures.memory;
    })
