use Rattle.std.proofs.Common.{◌≡◌, ◌+◌, ◌==◌, drop}
use Rattle.std.specs.List.{position_or_len}
use Rattle.text_fields.proofs.split.first_end.Given as goal

-- the place is as far on as the loop has come
abbrev pub invariant-loop-place : goal.invariant-loop-place
invariant-loop-place l = l.place + position_or_len (λ byte. byte == l.separator) (drop l.place l.text)
    ≡ position_or_len (λ byte. byte == l.separator) l.text
