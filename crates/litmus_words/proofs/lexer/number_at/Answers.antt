use Rattle.std.proofs.Common.{arith}
use Rattle.litmus_words.proofs.Once.{no_number_there, number_there}
use Rattle.litmus_words.proofs.lexer.number_at.Goals as goal

pub returns-in-Ok-clause-spelled : goal.returns-in-Ok-clause-spelled
returns-in-Ok-clause-spelled c =
    number_there c.args.text.now c.args.at c.name_end-end.result _ c.requires.begins c.name_end-end.ensures.whole
    c.in-Ok.ensures.found (grind arith)

pub returns-in-Err-clause-refused : goal.returns-in-Err-clause-refused
returns-in-Err-clause-refused c = λ word is.
    no_number_there c.args.text.now c.args.at c.name_end-end.result word c.requires.begins
    (omega (arith, c.name_end-end.ensures.on)) c.name_end-end.ensures.whole c.in-Err.ensures.refused is
