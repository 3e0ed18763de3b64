use Rattle.std.proofs.Common.{◌≡◌, sym, subst, ap, ◌∙◌}
use Rattle.std.specs.Prelude.{slice_index}
use Rattle.elf_image.specs.Image.{word_now}
use Rattle.smt_model.specs.{Exec.Computed}
use Rattle.rv_instr.specs.Decode.{op_of_word}
use Rattle.sc_machine.specs.{Harts.register_written}
use Rattle.changed_memory.specs.Shared.{byte_at}
use Rattle.condensed_machine.specs.{Machine.Program, Executing.SharedAgrees}
use Rattle.condensed_machine.proofs.Instructions.{is_executed, is_behind}
use Rattle.condensed_machine.proofs.program.Program.execute.Goals as goal

pub returns-clause-executed : goal.returns-clause-executed
returns-clause-executed c = λ setup s image inside is agrees.
    let start = c.self.inside.start in
    let same : start.image ≡ c.args.self.now.image = ap (λ (p : Program). p.image) c.self.view_is in
    let x = c.args.state.now in
    let shared = c.args.shared.now in
    let op = c.op_at-op.result in
    is_executed setup s c.args.hart start x shared op c.compute-computed.result
    c.computed.inside.addr c.effect-effect.result (same ∙ sym image) is
    (subst (λ i. SharedAgrees i s shared) (sym same) agrees)
    (subst (λ i. op ≡ op_of_word (word_now i (byte_at i shared) x.pc)) (sym same) c.op_at-op.ensures.value)
    c.op_at-op.ensures.in_range c.compute-computed.ensures.value
    (ap (λ (d : Computed). d.addr) c.computed.view_is) c.effect-effect.ensures.value

pub returns-clause-behind : goal.returns-clause-behind
returns-clause-behind c = λ setup s image inside is agrees.
    let x = c.args.state.now in
    let e = c.effect-effect.result in
    is_behind setup s c.args.hart
    (record { op = c.op_at-op.result; addr = c.computed.inside.addr; effect = e })
    x c.advance.new.self is
    (record {
      registers = λ r.
          c.advance.ensures.registers r
          ∙ ap (λ rd. register_written rd e.value r (slice_index x.registers r)) c.destination.ensures.value;
      pc = c.advance.ensures.pc;
      status = c.advance.ensures.status;
    })
    (returns-clause-executed c setup s image inside is agrees)
