use Rattle.std.proofs.Common.{◌≡◌, ℕ, ◌+◌, true, sym, subst, ◌∙◌}
use Rattle.elf_image.specs.Image.{in_ram}
use Rattle.program_ways.specs.Keeping.{own_byte}
use Rattle.program_ways.proofs.Bytes.{one_of_four}
use Rattle.program_ways.proofs.own.bytes_behind.Goals as goal

pub returns : goal.returns
returns c = λ addr inside same.
    let image = c.args.program.now.memory.image in
    let there = λ (a : ℕ) (is : a ≡ addr). subst (λ b. in_ram image b 1 ≡ true) (sym is) inside in
    one_of_four c.args.written (own_byte image c.args.own.now) c.word_around-word.result c.byte_behind.result
    c.byte_behind-2.result c.byte_behind-3.result c.byte_behind-4.result addr (c.word_around-word.ensures ∙ sym same)
    (λ is. c.byte_behind.ensures (there c.word_around-word.result is))
    (λ is. c.byte_behind-2.ensures (there (c.word_around-word.result + 1) is))
    (λ is. c.byte_behind-3.ensures (there (c.word_around-word.result + 2) is))
    (λ is. c.byte_behind-4.ensures (there (c.word_around-word.result + 3) is))
