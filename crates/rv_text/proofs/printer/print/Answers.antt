use Rattle.std.proofs.Common.{rules, ◌∙◌, refl}
use Rattle.rv_text.proofs.printer.print.Goals as goal

pub returns : goal.returns
returns c = record {
  in_range = c.requires;
  has_word = search rules;
  spelled = c.push_operands.ensures ∙ rw (c.push_mnemonic.ensures.spelled, c.mnemonic_of.ensures) refl;
}
