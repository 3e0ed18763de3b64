use Rattle.std.proofs.Common.{◌≡◌, ◌≤◌, ◌+◌, drop}
use Rattle.explanations.specs.Places.{place_from, first_place}
use Rattle.explanations.proofs.place.Place.behind_all.Given as goal

-- what is left leads to the place behind all
abbrev pub invariant-loop-byte : goal.invariant-loop-byte
invariant-loop-byte l = (place_from l.place (drop l.byte l.text) ≡ place_from first_place l.text)
    × (l.place.line ≤ l.byte + 1) × (l.place.column ≤ l.byte + 1)
