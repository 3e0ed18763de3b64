use Rattle.std.proofs.Common.{refl, sym, ap, ◌∙◌}
use Rattle.std.specs.Prelude.{slice_index}
use Rattle.elf_image.specs.Image.{code_writable, byte_in}
use Rattle.std.specs.Cmp.{first_so, second_so}
use Rattle.std.specs.Prelude.{false, ◌||◌}
use Rattle.smt_model.specs.Effects.{effect_of}
use Rattle.outcome_laws.specs.Local.{is_silent, keeps_to}
use Rattle.live_registers.specs.Targets.{allows}
use Rattle.sc_machine.specs.Harts.{register_written}
use Rattle.condensed_machine.specs.Settling.{fails}
use Rattle.condensed_machine.proofs.Finding.{fixed_same, computed_same}
use Rattle.condensed_machine.proofs.Instructions.{goes_by_one, stands_over, stands_at}
use Rattle.condensed_machine.proofs.local.step_locally.Goals as goal

pub compute-computed-requires : goal.compute-computed-requires
compute-computed-requires c = record {
  in_range = c.op_at-op.ensures.in_range c.args.start.now.image (byte_in c.args.start.now.image) c.requires.code;
}

pub advance-requires : goal.advance-requires
advance-requires c =
    c.destination.ensures.below
    (c.op_at-op.ensures.in_range c.args.start.now.image (byte_in c.args.start.now.image) c.requires.code)

pub returns-in-Some : goal.returns-in-Some
returns-in-Some c = λ setup tables h s has image inside holds is is_free.
    let x = c.args.hart.now in
    let start = c.args.start.now in
    let op = c.op_at-op.result in
    let e = c.in-Some.effect in
    let code = c.requires.code in
    let d = c.compute-computed.result in
    let free = c.args.is_free in
    let followed = is_silent op d || fails free op in
    let keeps = keeps_to (allows c.args.targets.now) op x.pc d.next in
    let of_op =
    fixed_same setup s start h x (sym image) is op holds c.requires.fixed
    (c.op_at-op.ensures.value start.image (byte_in start.image) code) in
    goes_by_one setup s h op c.compute-computed.result e of_op
    (c.compute-computed.ensures.value
    ∙ computed_same setup s start h x (sym image) is op
    (c.op_at-op.ensures.in_range start.image (byte_in start.image) code) of_op)
    c.args.targets.now tables free x c.advance.new.self has (ap code_writable image ∙ c.requires.fixed) inside is
    is_free (sym c.is_going.ensures ∙ c.if-not-is_going.false)
    (first_so followed keeps (sym c.in-Some.ensures.followed))
    (second_so followed keeps (sym c.in-Some.ensures.followed))
    c.in-Some.ensures.effect
    (record {
      registers = λ r.
          c.advance.ensures.registers r
          ∙ ap (λ rd. register_written rd e.value r (slice_index x.registers r)) c.destination.ensures.value;
      pc = c.advance.ensures.pc;
      status = c.advance.ensures.status;
    })

pub returns-then-not-is_going : goal.returns-then-not-is_going
returns-then-not-is_going c = (
  λ setup tables h s has image holds is.
      stands_over setup tables c.args.is_free s h c.args.hart.now is (sym c.is_going.ensures ∙ c.if-not-is_going.true),
  refl,
)

pub returns-in-None : goal.returns-in-None
returns-in-None c = (
  λ setup tables h s has image holds is.
      let x = c.args.hart.now in
      let start = c.args.start.now in
      let op = c.op_at-op.result in
      let code = c.requires.code in
      let of_op =
      fixed_same setup s start h x (sym image) is op holds c.requires.fixed
      (c.op_at-op.ensures.value start.image (byte_in start.image) code) in
      stands_at setup s h op c.compute-computed.result (effect_of op c.compute-computed.result 0 false) of_op
      (c.compute-computed.ensures.value
      ∙ computed_same setup s start h x (sym image) is op
      (c.op_at-op.ensures.in_range start.image (byte_in start.image) code) of_op)
      c.args.targets.now tables c.args.is_free x.pc has (ap code_writable image ∙ c.requires.fixed) is.pc
      (sym c.in-None.ensures.followed),
  refl,
)
