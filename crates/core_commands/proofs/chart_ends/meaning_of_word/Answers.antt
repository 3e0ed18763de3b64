use Rattle.std.proofs.Common.{None, refl, inl, inr}
use Rattle.core_commands.proofs.chart_ends.meaning_of_word.Goals as goal

pub returns-in-Nothing-Some : goal.returns-in-Nothing-Some
returns-in-Nothing-Some c = (
  record { file = None; name = c.args.word },
  record { file = refl; is = refl },
  inr (
    c.in-Nothing-Some.ensures,
    (c.in-Nothing-Some.name, c.in-Nothing-Some.ensures'.some, c.meaning_of-in-Nothing-Some.ensures),
  ),
)

pub returns-in_default : goal.returns-in_default
returns-in_default c = (
  record { file = None; name = c.args.word },
  record { file = refl; is = refl },
  inl
      c.meaning_of.ensures,
)

pub returns-in_default-2 : goal.returns-in_default-2
returns-in_default-2 c = (
  record { file = None; name = c.args.word },
  record { file = refl; is = refl },
  inl
      c.meaning_of.ensures,
)
