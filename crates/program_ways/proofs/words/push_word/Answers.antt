use Rattle.std.proofs.Common.{sym, subst}
use Rattle.std.proofs.lemmas.List.Elements.{All-push}
use Rattle.program_ways.specs.Keeping.{IsWordAddress}
use Rattle.program_ways.proofs.Bytes.{word_whole}
use Rattle.program_ways.proofs.words.push_word.Goals as goal

pub returns : goal.returns
returns c = rw c.in_ok-push.ensures.items
    (All-push IsWordAddress c.args.words.now.items c.word_around.result c.requires
    (subst IsWordAddress (sym c.word_around.ensures) (word_whole c.args.address)))
