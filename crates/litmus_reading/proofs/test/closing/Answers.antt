use Rattle.std.proofs.Common.{ap, sym, ◌∙◌}
use Rattle.std.proofs.lemmas.List.{take_all}
use Rattle.litmus_words.specs.declared.word.Word.{Word}
use Rattle.litmus_words.specs.declared.word.Token.TheVariants.{Name}
use Rattle.litmus_reading.specs.Texts.{open_after}
use Rattle.litmus_reading.proofs.BracesRead.{none_closes}
use Rattle.litmus_reading.proofs.Wholes.{closed_at, open_at}
use Rattle.litmus_reading.proofs.test.closing.Goals as goal

-- any word
some : Word
some = record { start = 0; end = 0; token = Name }

pub loop-place-preserved : goal.loop-place-preserved
loop-place-preserved c = record {
  few = c.in-Some.ensures.few;
  after = open_at c.args.words.now c.loop-place.place _ _ some c.loop-place-test.true c.loop-place.invariant.after
      (c.in-Some.ensures.after some);
}

pub returns-in-None-clause-closes : goal.returns-in-None-clause-closes
returns-in-None-clause-closes c =
    closed_at c.args.words.now c.loop-place.place _ some c.loop-place-test.true (c.in-None.ensures.after some)
    c.loop-place.invariant.after

pub returns-clause-only : goal.returns-clause-only
returns-clause-only c = λ place closed.
    none_closes c.args.words.now place c.loop-place.depth
    (ap (open_after 0) (sym (take_all c.loop-place.place c.args.words.now c.loop-place-test.false))
    ∙ c.loop-place.invariant.after) closed
