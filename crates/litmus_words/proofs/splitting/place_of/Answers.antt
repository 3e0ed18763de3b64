use Rattle.std.proofs.Common.{◌≢◌}
use Rattle.std.proofs.lemmas.List.Elements.{All-more}
use Rattle.litmus_words.specs.declared.word.Word.{Word as AnyWord}
use Rattle.litmus_words.specs.declared.word.Token.TheVariants as token
use Rattle.litmus_words.proofs.Cutting.{none_past}
use Rattle.litmus_words.proofs.splitting.place_of.Goals as goal

pub loop-place-preserved : goal.loop-place-preserved
loop-place-preserved c =
    All-more (λ (word : AnyWord). word.token ≢ token.Mark c.args.mark) c.args.words.now c.loop-place.place _
    c.loop-place-test.true c.loop-place.invariant (c.is_mark.ensures.other c.if-is_mark.false)

pub returns-clause-mark : goal.returns-clause-mark
returns-clause-mark c = λ word is. absurd (none_past c.args.words.now word is)
