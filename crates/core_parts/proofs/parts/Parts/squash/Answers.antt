use Rattle.std.proofs.Common.{refl, ap, subst, ◌≡◌, get_or, slice_set}
use Rattle.core_parts.proofs.Agreement.Queues.{has_place}
use Rattle.core_parts.proofs.Squashing.Shared.{parts_squashed, own_registers}
use Rattle.core_parts.proofs.parts.Parts.squash.Goals as goal

pub squash-requires-2 : goal.squash-requires-2
squash-requires-2 c =
    let step = c.requires.step in
    let x = c.index_mut.result.now in
    record {
      own = own_registers step.before c.args.hart c.args.after step.after c.args.self.now x step.inside
          step.agrees step.step.step
          (subst (λ i. x ≡ get_or c.args.self.now.harts.items i x) c.from.ensures c.index_mut.ensures.value);
    }

pub squash-requires-3 : goal.squash-requires-3
squash-requires-3 c =
    let step = c.requires.step in
    has_place c.args.self.now.harts.items c.args.self.now.accesses c.args.hart step.agrees.accesses step.inside

pub returns-clause-agrees : goal.returns-clause-agrees
returns-clause-agrees c = λ p q agrees step.
    let x = c.index_mut.result.now in
    parts_squashed p q c.args.hart c.args.after c.args.restored c.args.self.now _ c.requires.step.inside agrees step (record {
      was = x;
      left = c.squash-2.new.self;
      at = subst (λ i. x ≡ get_or c.args.self.now.harts.items i x) c.from.ensures c.index_mut.ensures.value;
      squash_behind = c.squash-2.ensures.squash_behind;
      harts = ap (λ i. slice_set c.args.self.now.harts.items i c.squash-2.new.self) c.from.ensures;
      queue = c.squash.ensures;
      free = c.squash-2.ensures.free;
      values = refl;
      jobs = refl;
      accesses = c.squash-3.ensures;
      memory = refl;
    })
