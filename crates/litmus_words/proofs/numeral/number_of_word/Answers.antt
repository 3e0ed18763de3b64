use Rattle.litmus_words.proofs.Once.{if_err_then, no_numeral}
use Rattle.litmus_words.proofs.numeral.number_of_word.Goals as goal

pub returns-in-None-clause-refused : goal.returns-in-None-clause-refused
returns-in-None-clause-refused c =
    if_err_then c.number_of-in-None.result c.number_of-in-None.ensures.refused
    (λ fault none. λ number small is. no_numeral c.args.word.now none c.in-None.ensures.none number small is)
