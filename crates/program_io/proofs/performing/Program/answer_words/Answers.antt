-- Words that were read.
use Rattle.std.proofs.lemmas.Result.{IfErr-weaker}
use Rattle.program_io.proofs.performing.Program.answer_words.Goals as goal

pub returns-in-Ok-clause-unread : goal.returns-in-Ok-clause-unread
returns-in-Ok-clause-unread g c = IfErr-weaker c.args.words _ _ (λ error is. absurd (cc)) c.in-Ok.ensures.unread
