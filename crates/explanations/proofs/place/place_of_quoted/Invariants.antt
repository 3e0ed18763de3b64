use Rattle.std.proofs.Common.{◌≡◌, drop}
use Rattle.explanations.specs.Places.{first_from, behind_quote, quoted_place}
use Rattle.explanations.proofs.place.place_of_quoted.Given as goal

-- what is left has the first place
abbrev pub invariant-loop-byte : goal.invariant-loop-byte
invariant-loop-byte l = first_from behind_quote l.name l.quoted (drop l.byte l.text) l.byte ≡ quoted_place l.text l.name
