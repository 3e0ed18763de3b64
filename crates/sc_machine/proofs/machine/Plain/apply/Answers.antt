use Rattle.std.proofs.Common.{◌≡◌, ◌<◌, length, get_or, sym, ap, subst, ◌∙◌, arith}
use Rattle.std.proofs.lemmas.List.{length-set}
use Rattle.shared_memory.specs.Contents.{byte_of}
use Rattle.decoded_code.specs.Code.{IsCodeOf}
use Rattle.sc_machine.specs.Execution.{HasRoom}
use Rattle.std.specs.Prelude.{slice_index, slice_set}
use Rattle.smt_model.specs.Plain.{after}
use Rattle.sc_machine.specs.{Harts.HartAgrees, Harts.register_written, Machine.Machine, Machine.Agrees}
use Rattle.sc_machine.specs.{MachineInside.machine_of}
use Rattle.sc_machine.proofs.{Advancing.advanced, Harts.own_hart}
use Rattle.sc_machine.proofs.machine.Plain.apply.Goals as goal

pub returns-clause-agrees : goal.returns-clause-agrees
returns-clause-agrees c = λ setup s agrees.
    let h = c.args.hart in
    let op = c.args.execution.op in
    let addr = c.args.execution.addr in
    let e = c.args.execution.record.effect in
    let m = machine_of c.self.inside in
    let x = c.index_mut.result.now in
    let y = c.advance.new.self in
    let n : Machine = record {
      harts = slice_set m.harts c.from.result y;
      memory = c.change_memory.new.memory;
      output = c.put.new.output.items;
      room = m.room;
    } in
    let here : Agrees setup s m = subst (Agrees setup s) (sym c.self.view_is) agrees in
    let inside : h < length m.harts =
    subst (λ (m : Machine). h < length m.harts) (sym c.self.view_is) c.requires.inside in
    let at = c.index_mut.ensures.value ∙ ap (λ i. get_or m.harts i x) c.from.ensures in
    let is = subst (HartAgrees s h) (sym at) (here.each h x inside) in
    let own = own_hart s h op addr e x y is
    (λ r. subst (λ rd. slice_index y.registers r ≡ register_written rd e.value r (slice_index x.registers r))
    c.destination.ensures.value (c.advance.ensures.registers r)) c.advance.ensures.pc
    c.advance.ensures.status in
    advanced setup s m n h op addr e y here inside own (ap (λ i. slice_set m.harts i y) c.from.ensures)
    c.change_memory.ensures.image c.change_memory.ensures.bytes c.change_memory.ensures.reserved c.put.ensures.items

pub invariant_of-self : goal.invariant_of-self
invariant_of-self c =
    let was = c.self.invariant in
    let old = c.self.inside in
    let room = subst (λ (m : Machine). HasRoom m c.args.execution) (sym c.self.view_is) c.requires.room in
    record {
      some = rw length-set was.some;
      few = rw length-set was.few;
      code = c.decode_write.ensures (byte_of old.memory)
          (subst (λ image. IsCodeOf image (byte_of old.memory) old.code) (sym c.change_memory.ensures.image) was.code)
          c.change_memory.ensures.bytes;
      within = c.put.ensures.within old.room was.within room;
      roomy = omega (arith, c.put.ensures.capacity, was.roomy);
    }
