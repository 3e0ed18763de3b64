use Rattle.litmus_words.proofs.Once.{sign_there}
use Rattle.litmus_words.proofs.lexer.word_at.Goals as goal

pub returns-in-Some-clause-spelled : goal.returns-in-Some-clause-spelled
returns-in-Some-clause-spelled c =
    sign_there c.args.text.now c.args.at _ _ c.requires.no_comment c.in-Some.ensures.found c.in-Some.ensures.longest
