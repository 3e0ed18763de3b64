use Rattle.std.proofs.Common.{rules, tests, sym, ◌∙◌}
use Rattle.std.proofs.lemmas.Slice.Eq.{bytes_eq-Decides}
use Rattle.event_text.proofs.RefusalLaws.{not_ended, other_answer, unnamed}
use Rattle.event_text.proofs.trace.reading.read_head.Goals as goal

pub returns-in_default-clause-refused : goal.returns-in_default-clause-refused
returns-in_default-clause-refused c = not_ended c.args.text.now (search (rules, tests))

pub returns-in_default-named-clause-refused : goal.returns-in_default-named-clause-refused
returns-in_default-named-clause-refused c =
    unnamed c.args.text.now c.in-Some.line.now c.in-Some.ensures.first c.in-Some.ensures.ended
    (λ is. other_answer c.eq.result _ c.eq.ensures
    ((bytes_eq-Decides c.in-Some.line.now c.as_slice.result.now).1 (is ∙ sym c.as_slice.ensures)) c.if-eq.false)
    (search rules)
