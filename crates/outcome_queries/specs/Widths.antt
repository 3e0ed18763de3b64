-- How it is written how many bytes of memory are looked at.
use Rattle.std.specs.Prelude.{ℕ, ◌+◌, List, [], ◌∷◌, Option, Some, None}
use Rattle.watched_outcomes.specs.{declared.watch.Width.Width, Watching.bytes_of}

-- A colon and the digit, where it is said.
abbrev pub width_text : Option Width → List ℕ
width_text None = []
width_text (Some width) = 58 ∷ (48 + bytes_of width) ∷ []
