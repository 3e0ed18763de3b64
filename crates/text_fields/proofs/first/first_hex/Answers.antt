use Rattle.std.proofs.Common.{arith, take}
use Rattle.text_fields.specs.Reading.{is_hex_digit}
use Rattle.text_fields.proofs.{FirstLemmas.hex_there, FirstLemmas.other_digits, FirstLemmas.shorter}
use Rattle.text_fields.proofs.{FirstLemmas.too_long, LacksLaws.Lacks-from_all}
use Rattle.text_fields.proofs.first.first_hex.Goals as goal

pub returns-then-text-count-clause-refused : goal.returns-then-text-count-clause-refused
returns-then-text-count-clause-refused c =
    shorter c.args.separator c.args.count c.args.text.now c.if-text-count.true

pub returns-in_default-clause-refused : goal.returns-in_default-clause-refused
returns-in_default-clause-refused c =
    other_digits c.args.separator c.args.count c.args.text.now c.in_default.ensures.other

pub behind-requires-clause-lacks : goal.behind-requires-clause-lacks
behind-requires-clause-lacks c =
    Lacks-from_all is_hex_digit c.args.separator (take c.args.count c.args.text.now) c.requires.apart
    c.in-Some.ensures.all

pub returns-in_default-behind-clause-refused : goal.returns-in_default-behind-clause-refused
returns-in_default-behind-clause-refused c =
    too_long c.args.separator c.args.count c.args.text.now c.in_default-behind.ensures.longer

pub returns-clause-read : goal.returns-clause-read
returns-clause-read c =
    hex_there c.args.separator c.args.count c.in-Some.value c.args.text.now c.in-Some-behind.ensures.first
    (omega (arith, c.if-text-count.false)) c.in-Some.ensures.all c.in-Some.ensures.value
