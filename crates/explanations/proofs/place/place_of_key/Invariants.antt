use Rattle.std.proofs.Common.{◌≡◌, drop}
use Rattle.explanations.specs.Places.{first_from, begins_line, key_place}
use Rattle.explanations.proofs.place.place_of_key.Given as goal

-- what is left has the first place
abbrev pub invariant-loop-byte : goal.invariant-loop-byte
invariant-loop-byte l = first_from begins_line l.key l.begins (drop l.byte l.text) l.byte ≡ key_place l.text l.key
