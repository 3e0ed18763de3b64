use Rattle.std.proofs.Common.{◌≡◌, true, Some, sym, ap, subst, ◌∙◌}
use Rattle.elf_image.specs.Image.{byte_in, has_code_word, word_now}
use Rattle.rv_instr.specs.Decode.{op_of_word}
use Rattle.rv_instr.specs.declared.op.Op.TheVariants.{NoWord}
use Rattle.changed_memory.specs.Shared.{byte_at}
use Rattle.condensed_machine.specs.Machine.{Program}
use Rattle.condensed_machine.proofs.Finding.{no_op, none_now, readable, there_where_some, word_now_there}
use Rattle.condensed_machine.proofs.program.Program.op_at.Goals as goal
use Rattle.condensed_machine.proofs.program.Program.op_at.Goals.{In-Some}

pub returns-then-not-self-clause-in_range : goal.returns-then-not-self-clause-in_range
returns-then-not-self-clause-in_range c =
    let image = c.self.inside.start.image in
    c.op_at.ensures.in_range image (byte_in image) c.self.invariant.code

there : (c : In-Some) → has_code_word c.self.inside.start.image c.args.pc ≡ true
there c =
    let image = c.self.inside.start.image in
    there_where_some image (byte_in image) c.args.pc c.in-Some.field-0.word
    (c.in-Some.ensures.now image (byte_in image) c.self.invariant.code).word

pub word-requires-clause-no_fault : goal.word-requires-clause-no_fault
word-requires-clause-no_fault c =
    readable c.self.inside.start.image c.args.pc c.self.invariant.image (there c)

pub returns-in-Some-clause-value : goal.returns-in-Some-clause-value
returns-in-Some-clause-value c =
    let image = c.self.inside.start.image in
    let shared = c.args.shared.now in
    let word = word_now_there image (byte_at image shared) c.args.pc
    (there (goal.at.returns-in-Some-clause-value c).In-Some) in
    subst (λ (p : Program). c.decode_op.result ≡ op_of_word (word_now p.image (byte_at p.image shared) c.args.pc))
    c.self.view_is
    (c.decode_op.ensures.value ∙ ap op_of_word (ap Some c.word.ensures ∙ sym word))

pub returns-in-None-clause-value : goal.returns-in-None-clause-value
returns-in-None-clause-value c =
    let image = c.self.inside.start.image in
    let shared = c.args.shared.now in
    let none = none_now image (byte_in image) (byte_at image shared) c.args.pc
    (c.in-None.ensures.now image (byte_in image) c.self.invariant.code) in
    subst (λ (p : Program). NoWord ≡ op_of_word (word_now p.image (byte_at p.image shared) c.args.pc)) c.self.view_is
    (sym (no_op (word_now image (byte_at image shared) c.args.pc) none))
