use Rattle.std.proofs.Common.{◌≡◌, ◌++◌, take}
use Rattle.std.specs.List.{flat_map}
use Rattle.text_fields.specs.Spelling.{hex}
use Rattle.outcome_queries.proofs.printed.are_digits_of.Given as goal

-- the digits of so many bytes are passed
abbrev pub invariant-loop-byte : goal.invariant-loop-byte
invariant-loop-byte l = l.digits ≡ flat_map (hex 2) (take l.byte-index l.bytes) ++ l.rest
