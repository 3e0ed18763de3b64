use Rattle.std.proofs.Common.{◌+◌, ◌==◌, count_by, ◌∙◌, ap}
use Rattle.std.proofs.lemmas.List.{take_all}
use Rattle.text_fields.specs.{Splitting.field_count}
use Rattle.text_fields.proofs.split.field_count.Goals as goal

pub returns : goal.returns
unfolding field_count
returns c =
    ap (λ n. n + 1)
    (c.loop-byte.invariant
    ∙ ap (count_by (λ byte. byte == c.args.separator))
    (take_all c.loop-byte.byte-index c.args.text.now c.loop-byte-test.false))
