use Rattle.std.specs.{Prelude.slice_index_or, Vec.with_item}
use Rattle.std.proofs.Common.{◌∙◌, sym, ap, subst}
use Rattle.core_parts.specs.Agree.{PartsAgree}
use Rattle.core_steps.proofs.Steps.Retire.{Memory.can_remove, Parts.parts_left, Parts.own_leaves}
use Rattle.core_steps.proofs.retire.leave.Goals as goal

pub give_back-requires : goal.give_back-requires
give_back-requires c =
    let from = c.requires.step in
    own_leaves from.before from.after c.args.hart c.args.active.now c.args.status c.args.pc c.args.parts.now.free
    from.step from.agrees.free

pub remove_access-requires : goal.remove_access-requires
remove_access-requires c =
    let from = c.requires.step in
    let can = can_remove from.before c.args.hart c.args.active.now (from.after.flight c.args.hart) c.args.parts.now
    c.index_mut.result.now from.agrees from.inside from.step.is_oldest.is_active from.step.step.flight in
    record { hart = can.hart; load = can.load; store = can.store }

pub returns-clause-agrees : goal.returns-clause-agrees
returns-clause-agrees c p q agrees leaves =
    let old = c.args.parts.now in
    let a = c.index_mut.result.now in
    let y = c.leave_flight.new.state in
    subst
    (λ i. PartsAgree q
    (record old {
      harts = with_item old.harts i y;
      free = c.give_back.new.free;
      accesses = c.remove_access.new.accesses;
    }))
    (sym c.from.ensures)
    (parts_left p q c.args.hart c.args.active.now c.args.status c.args.pc old a y c.give_back.new.free
    c.remove_access.new.accesses c.requires.step.inside
    (c.index_mut.ensures.value ∙ ap (λ i. slice_index_or old.harts.items i a) c.from.ensures) c.leave_flight.ensures
    c.remove_access.ensures c.give_back.ensures agrees leaves)
