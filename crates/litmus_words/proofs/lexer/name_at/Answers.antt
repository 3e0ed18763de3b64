use Rattle.std.specs.Prelude.{slice_index}
use Rattle.litmus_words.proofs.Once.{letter_goes_on, name_there, part_goes_on, with_first}
use Rattle.litmus_words.proofs.lexer.name_at.Goals as goal

pub name_token-requires : goal.name_token-requires
name_token-requires c =
    part_goes_on c.args.text.now c.args.at c.name_end-end.result c.name_end-end.ensures.inside
    (with_first c.args.text.now c.args.at c.name_end-end.result (letter_goes_on (slice_index c.args.text.now c.args.at) c.requires.begins)
    c.name_end-end.ensures.whole)

pub returns-clause-spelled : goal.returns-clause-spelled
returns-clause-spelled c =
    name_there c.args.text.now c.args.at c.name_end-end.result c.name_token.result c.requires.begins
    c.name_end-end.ensures.whole c.name_token.ensures
