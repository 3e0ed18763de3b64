use Rattle.litmus_words.proofs.Cutting.{cut_at}
use Rattle.litmus_words.proofs.splitting.cut.Goals as goal

pub returns-clause-cut : goal.returns-clause-cut
returns-clause-cut c =
    cut_at c.args.words.now c.args.mark c.place_of-place.result c.place_of-place.ensures.inside c.if-place-words.false
    c.place_of-place.ensures.mark
