-- The bytes of memory that a place by a name is. (This project's own choice.)
use Rattle.std.specs.Prelude.{◌≡◌, ◌⊎◌, ℕ, ◌+◌, ◌*◌, ◌^◌, ◌≤◌, ◌==◌, nat_le, ◌||◌, Bool, true, false}
use Rattle.std.specs.Prelude.{Option, Some, None, if◌then◌else◌}
use Rattle.symbols.specs.{declared.symbol.Symbol.Symbol, Tables.Table, Meanings.IsMeaning}
use Rattle.symbols.specs.declared.meanings.Meaning.TheVariants as means
use Rattle.watched_outcomes.specs.declared.watch.{WatchedBytes.WatchedBytes, Width.Width}
use Rattle.watched_outcomes.specs.declared.watch.Width.TheVariants.{Byte, Half, Word}
use Rattle.watched_outcomes.specs.Watching.{bytes_of}
use Rattle.outcome_queries.specs.declared.placed.{Placed.Placed, Behind.Behind}
use Rattle.outcome_queries.specs.declared.placed.Behind.TheVariants.{Element, Bytes}
use Rattle.outcome_queries.specs.declared.refused.Expected.{Expected}
use Rattle.outcome_queries.specs.declared.refused.Expected.TheVariants as expected

-- How many bytes are looked at: as many as is said; else all of an object of 1, 2 or 4 bytes; else 4.
abbrev pub own_width : Symbol → Width
own_width symbol = if symbol.size == 1 then Byte else if symbol.size == 2 then Half else Word

abbrev pub width_or : Option Width → Symbol → Width
width_or None symbol = own_width symbol
width_or (Some width) symbol = width

abbrev pub width_of : Placed → Symbol → Width
width_of placed symbol = width_or placed.width symbol

-- How many bytes behind the start of its symbol a place is.
abbrev pub distance : Behind → Width → ℕ
distance (Element index) width = index * bytes_of width
distance (Bytes bytes) width = bytes

-- Bytes so far behind its start are the symbol's own, where its size is known.
abbrev pub is_inside : Symbol → ℕ → Width → Bool
is_inside symbol far width = (symbol.size == 0) || nat_le (far + bytes_of width) symbol.size

-- The bytes of the one symbol that has the name.
pub record IsAt (names : Table) (placed : Placed) (found : WatchedBytes) : Type 0 where
  pub symbol : Symbol
  pub means : IsMeaning names placed.name (means.One symbol)
  pub width : found.width ≡ width_of placed symbol
  pub address : found.address ≡ symbol.address + distance placed.behind (width_of placed symbol)
  pub inside : is_inside symbol (distance placed.behind (width_of placed symbol)) (width_of placed symbol) ≡ true

-- Why a place is refused: no symbol has its name, or several at different addresses; or it isn't inside of its object.
abbrev pub IsOutside : Table → Placed → Type 0
IsOutside names placed = (symbol : Symbol) × IsMeaning names placed.name (means.One symbol)
    × ((is_inside symbol (distance placed.behind (width_of placed symbol)) (width_of placed symbol) ≡ false)
    ⊎ (2 ^ 32 ≤ symbol.address + distance placed.behind (width_of placed symbol)))

abbrev pub IsNowhere : Table → Placed → Expected → Type 0
IsNowhere names placed expected.Name = IsMeaning names placed.name means.Nothing
IsNowhere names placed expected.OneAddress = IsMeaning names placed.name means.Several
IsNowhere names placed expected.Inside = IsOutside names placed
IsNowhere names placed _ = ⊥
