-- What a part of a list asks for. (This project's own choice.)
use Rattle.std.specs.Prelude.{◌≡◌, ℕ, List}
use Rattle.symbols.specs.Tables.{Table}
use Rattle.outcome_queries.specs.{declared.watched.Asked.Asked, Watched.Names}

-- It names what is watched, and is kept as it was spelled.
pub record Asks (names : Table) (text : List ℕ) (asked : Asked) : Type 0 where
  pub names_it : Names names text asked.watched
  pub kept : asked.spelled.now ≡ text
