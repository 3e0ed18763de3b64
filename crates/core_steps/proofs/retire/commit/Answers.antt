use Rattle.std.specs.{Prelude.slice_index_or, Vec.with_item}
use Rattle.std.proofs.Common.{◌∙◌, ap, subst}
use Rattle.core_steps.specs.Filled.{IsFilled}
use Rattle.core_parts.proofs.Agreement.Queues.{in_range}
use Rattle.core_steps.proofs.Steps.Retire.{Memory.IsCommitted, Memory.can_remove, Parts.parts_committed}
use Rattle.core_steps.proofs.retire.commit.Goals as goal

pub remove_access-requires : goal.remove_access-requires
remove_access-requires c =
    let from = c.requires.step in
    let can = can_remove from.before c.args.hart c.args.active.now (from.after.flight c.args.hart) c.args.parts.now
    c.index_mut.result.now from.agrees from.inside from.step.is_oldest.is_active from.step.step.flight in
    record { hart = can.hart; load = can.load; store = can.store }

pub commit_access-requires-clause-hart : goal.commit_access-requires-clause-hart
commit_access-requires-clause-hart c =
    let from = c.requires.step in
    in_range c.args.parts.now.harts.items c.args.parts.now.accesses c.args.hart from.agrees.accesses from.inside

pub returns-clause-agrees : goal.returns-clause-agrees
returns-clause-agrees c p q agrees commits =
    let old = c.args.parts.now in
    let a = c.index_mut.result.now in
    let y = c.commit_oldest-replaced.new.state in
    let made : IsCommitted c.args.hart c.args.active.now c.args.effect.write old.memory c.commit_access.new.memory =
    record {
      bytes = c.commit_access.ensures.bytes;
      reserved = λ g. rw c.address_at-addr.ensures at (c.commit_access.ensures.reserved g);
    } in
    parts_committed p q c.args.hart c.args.active.now c.args.effect c.args.pc old c.fill_register.new.parts a y
    c.commit_oldest-replaced.result
    c.give_back.new.free c.remove_access.new.accesses c.touch_accesses.new.accesses c.commit_access.new.memory
    c.requires.step.inside (c.index_mut.ensures.value ∙ ap (λ i. slice_index_or old.harts.items i a) c.from.ensures)
    c.commit_oldest-replaced.ensures c.remove_access.ensures c.touch_accesses.ensures.count c.touch_accesses.ensures.touched made c.give_back.ensures
    (subst
    (λ i. IsFilled c.args.active.now.phys c.args.effect.value
    (record old {
      harts = with_item old.harts i y;
      free = c.give_back.new.free;
      accesses = c.touch_accesses.new.accesses;
      memory = c.commit_access.new.memory;
    }) c.fill_register.new.parts)
    c.from.ensures c.fill_register.ensures)
    agrees commits
