use Rattle.std.proofs.Common.{append_assoc, rules}
use Rattle.event_text.proofs.print.push_record.Goals as goal

pub returns-clause-length : goal.returns-clause-length
returns-clause-length g c = search rules

pub returns-clause-spelled : goal.returns-clause-spelled
returns-clause-spelled g c =
    rw (
      c.push_effect.ensures.spelled,
      c.push_optional_word_field.ensures.spelled,
      c.push_word_field.ensures.spelled,
      c.push_small_number.ensures.spelled,
    )
    (simp append_assoc)
