-- How what is watched is written. (This project's own choice.)
use Rattle.std.specs.Prelude.{◌≡◌, ◌⊎◌, ℕ, ◌≤◌, ◌<◌, ◌^◌, List, ◌∷◌, ◌++◌, Some}
use Rattle.std.specs.Fmt.{decimal}
use Rattle.text_fields.specs.Spelling.{hex}
use Rattle.rv_text.specs.Registers.{IsNameOf}
use Rattle.outcome_queries.specs.declared.watched.Watched.{Watched}
use Rattle.outcome_queries.specs.declared.watched.Watched.TheVariants as watched
use Rattle.outcome_queries.specs.declared.placed.Placed.{Placed}
use Rattle.outcome_queries.specs.declared.refused.Expected.{Expected}
use Rattle.outcome_queries.specs.declared.refused.Expected.TheVariants as expected
use Rattle.outcome_queries.specs.{Placed.SpellsPlaced, AtName.IsAt, AtName.IsNowhere, Widths.width_text}
use Rattle.symbols.specs.Tables.{Table}
use Rattle.watched_outcomes.specs.{declared.watch.WatchedBytes.WatchedBytes}

-- A name of the register, `@`, and the hart.
pub record SpellsRegister (text : List ℕ) (hart register : ℕ) : Type 0 where
  pub name : List ℕ
  pub names : IsNameOf register name
  pub in_range : hart ≤ 255
  pub spelled : text ≡ name ++ 64 ∷ decimal hart

-- The address, `:`, and of how many bytes the number is.
pub record SpellsBytes (text : List ℕ) (bytes : WatchedBytes) : Type 0 where
  pub in_range : bytes.address < 16 ^ 8
  pub spelled : text ≡ hex 8 bytes.address ++ width_text (Some bytes.width)

-- What a text says by itself: a register at a hart, or bytes at an address.
abbrev pub Spells : List ℕ → Watched → Type 0
Spells text (watched.Register hart register) = SpellsRegister text hart register
Spells text (watched.Bytes bytes) = SpellsBytes text bytes

-- What it says where a program has these names: the same, or bytes by a name.
abbrev pub Names : Table → List ℕ → Watched → Type 0
Names names text (watched.Register hart register) = SpellsRegister text hart register
Names names text (watched.Bytes bytes) =
    SpellsBytes text bytes ⊎ ((placed : Placed) × SpellsPlaced text placed × IsAt names placed bytes)

-- It says nothing of that kind; or it names a place that is refused.
abbrev pub IsUnnamed : Table → List ℕ → Expected → Type 0
IsUnnamed names text expected.Watched = ((one : Watched) → Spells text one → ⊥)
    × ((placed : Placed) → SpellsPlaced text placed → ⊥)
IsUnnamed names text refused = (placed : Placed) × SpellsPlaced text placed × IsNowhere names placed refused
