use Rattle.text_fields.proofs.HexLemmas.{pow-four_bits}
use Rattle.text_fields.proofs.print.hex_digit.Goals as goal

pub returns-clause-spelled : goal.returns-clause-spelled
returns-clause-spelled c = rw (← pow-four_bits c.args.place) c.glyph.ensures.spelled
