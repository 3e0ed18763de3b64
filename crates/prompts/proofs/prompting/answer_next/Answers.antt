use Rattle.prompts.specs.Session.{standing_of}
use Rattle.prompts.proofs.Turns.{answered_turn, unread_turn}
use Rattle.prompts.proofs.prompting.answer_next.Goals as goal

pub returns-in-Err-clause-turn : goal.returns-in-Err-clause-turn
returns-in-Err-clause-turn g c =
    unread_turn c.args.why (g.R.Read.remaining c.args.reader.now) (g.R.Read.remaining c.next_line.new.reader)
    (standing_of c.args.session.now) _ _ _ c.in-Err.complaint c.in_ok-show_sign.ensures c.in_ok-complain-in-Err.ensures
    c.in-Err.ensures.unread

pub returns-clause-turn : goal.returns-clause-turn
returns-clause-turn g c =
    answered_turn c.args.why (g.R.Read.remaining c.args.reader.now) (g.R.Read.remaining c.next_line.new.reader)
    (standing_of c.args.session.now) _ _ _ (standing_of c.answer-answer.new.self) c.in-Ok-Some.line.items
    c.answer-answer.result c.in_ok-show_sign.ensures c.in_ok-print_answer.ensures
    (rw c.in-Ok-Some.field-0-is at c.in-Ok-Some.ensures.read)
    (rw c.as_slice-2.ensures.value at c.answer-answer.ensures.answered)
