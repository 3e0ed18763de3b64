use Rattle.std.proofs.Common.{arith}
use Rattle.litmus_words.proofs.Ending.{opening_room}
use Rattle.litmus_words.proofs.lexer.opens_at.Goals as goal

pub returns-then-text-at-lt2-clause-other : goal.returns-then-text-at-lt2-clause-other
returns-then-text-at-lt2-clause-other c = λ is opened.
    let room = opening_room c.args.text.now c.args.at opened in absurd (omega (arith, room, c.if-text-at-lt2.true))
