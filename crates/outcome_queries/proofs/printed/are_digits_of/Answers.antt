use Rattle.std.proofs.Common.{drop, ◌+◌}
use Rattle.std.specs.List.{flat_map}
use Rattle.text_fields.specs.Spelling.{hex}
use Rattle.outcome_queries.proofs.Bytes.{behind_so_many}
use Rattle.outcome_queries.proofs.printed.are_digits_of.Goals as goal

pub returns-in-None-clause-other : goal.returns-in-None-clause-other
returns-in-None-clause-other c is whole =
    c.in-None.ensures.none (flat_map (hex 2) (drop (c.loop-byte.byte-index + 1) c.args.bytes.now))
    (behind_so_many c.args.bytes.now c.args.digits.now _ c.loop-byte.byte-index _ c.loop-byte-test.true
    c.loop-byte.invariant whole)
