use Rattle.std.proofs.Common.{refl, rules}
use Rattle.rv_text.specs.Reading.{register_at}
use Rattle.rv_text.proofs.fields.register.Goals as goal

pub returns-in_err-read_decimal : goal.returns-in_err-read_decimal
unfolding register_at
returns-in_err-read_decimal c =
    rw (
      c.in_ok-text.ensures,
      ← c.digit_count.ensures.count,
      ← c.split_at.ensures.front,
      ← c.split_at.ensures.back,
      ← c.in_err-read_decimal.ensures.field,
    ) (search rules)

pub returns : goal.returns
unfolding register_at
returns c =
    rw (
      c.in_ok-text.ensures,
      ← c.digit_count.ensures.count,
      ← c.split_at.ensures.front,
      ← c.split_at.ensures.back,
      ← c.in_ok-read_decimal.ensures.field,
    ) refl
