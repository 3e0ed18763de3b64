-- The parts take the fetch, and the state is a core's after it.
use Rattle.std.proofs.Common.{◌∙◌, ap, arith}
use Rattle.events.specs.declared.event.Event.TheVariants.{Fetch}
use Rattle.core_parts.specs.declared.slot.Slot.{Slot}
use Rattle.core_state.proofs.Steps.Fetch.State.{fetched_is, fetch_starts, fetch_core, fetched_few}
use Rattle.core_state.proofs.Steps.Fetch.State.{op_of_point, bytes_of}
use Rattle.core_state.proofs.Views.Viewed.{short_in}
use Rattle.core_state.proofs.state.State.fetch.Goals as goal

pub slot-slot-requires : goal.slot-slot-requires
slot-slot-requires c =
    op_of_point c.self.inside c.self.invariant c.args.self.now c.self.view_is c.args.actor c.args.point c.args.predicted
    c.op_at-op.result (c.op_at-op.ensures.value c.self.inside.image (bytes_of c.self.inside) c.self.invariant.code) c.requires.allowed

pub fetch_slot-requires-clause-step : goal.fetch_slot-requires-clause-step
fetch_slot-requires-clause-step c =
    fetch_starts c.self.inside c.self.invariant c.args.self.now c.self.view_is c.args.actor c.args.point
    c.args.predicted c.from.result
    c.slot-slot.result c.from.ensures c.slot-slot.ensures c.requires.room c.requires.allowed

pub overflow_add-self : goal.overflow_add-self
overflow_add-self c =
    let i = c.self.inside in
    let few =
    fetched_few i c.self.invariant (short_in i c.args.self.now c.self.view_is c.self.invariant c.requires.room) in
    omega arith

pub invariant_of-self : goal.invariant_of-self
invariant_of-self c =
    fetch_core c.self.inside c.self.invariant c.args.self.now c.self.view_is c.args.actor c.args.point c.args.predicted
    c.from.result
    c.slot-slot.result c.event-event.result c.from.ensures c.slot-slot.ensures c.event-event.ensures c.requires.allowed
    c.fetch_slot.new.parts c.append.new.history c.fetch_slot.ensures.agrees c.fetch_slot.ensures.sizes c.append.ensures

pub returns-clause-event : goal.returns-clause-event
returns-clause-event c =
    let point = c.args.point in
    c.event-event.ensures
    ∙ (ap (λ (s : Slot). Fetch c.args.actor point.hart s.seq point.pc point.word c.args.predicted) c.slot-slot.ensures
    ∙ ap (λ n. Fetch c.args.actor point.hart n point.pc point.word c.args.predicted)
    (fetched_is c.self.inside c.self.invariant c.args.self.now c.self.view_is))
