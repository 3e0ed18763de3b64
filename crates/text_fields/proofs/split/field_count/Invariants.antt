use Rattle.std.proofs.Common.{◌≡◌, ◌==◌, take, count_by}
use Rattle.text_fields.proofs.split.field_count.Given as goal

-- the separators so far are counted
abbrev pub invariant-loop-byte : goal.invariant-loop-byte
invariant-loop-byte l = l.separators ≡ count_by (λ byte. byte == l.separator) (take l.byte-index l.text)
