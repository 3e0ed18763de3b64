-- The lines of places in memory that are watched for nothing. (This project's own choice.)
use Rattle.std.specs.Prelude.{ℕ, Bool, true, false, slice_index_or, List, [], ◌∷◌, ◌++◌, codes}
use Rattle.text_fields.specs.Spelling.{hex}
use Rattle.watched_outcomes.specs.declared.watch.WatchedBytes.{WatchedBytes}
use Rattle.outcome_queries.specs.{declared.watched.Watched.Watched, declared.watched.Asked.Asked}
use Rattle.outcome_queries.specs.declared.watched.Watched.TheVariants as watched

-- Its address: so a user sees which one is meant, also where he has named it.
abbrev pub place_text : WatchedBytes → List ℕ
place_text bytes = codes "unwritten " ++ (hex 8 bytes.address ++ 10 ∷ [])

abbrev pub watched_text : Watched → List ℕ
watched_text (watched.Register hart register) = []
watched_text (watched.Bytes bytes) = place_text bytes

-- A line where it is unwritten, else none.
abbrev pub unwritten_line : Bool → Watched → List ℕ
unwritten_line true asked = watched_text asked
unwritten_line false asked = []

abbrev pub unwritten_text : List Bool → ℕ → Asked → List ℕ
unwritten_text unwritten index asked = unwritten_line (slice_index_or unwritten index false) asked.watched
