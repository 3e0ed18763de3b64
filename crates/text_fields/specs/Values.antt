-- How a number is spelled that may be in either base: decimal, or hexadecimal behind `0x`.
use Rattle.std.specs.Prelude.{◌≡◌, ◌⊎◌, ℕ, ◌-◌, ◌^◌, ◌≤◌, ◌<◌, List, ◌++◌, codes}
use Rattle.std.specs.{Fmt.decimal}
use Rattle.text_fields.specs.Spelling.{hex}

pub record SpellsDecimal (text : List ℕ) (value : ℕ) : Type 0 where
  pub in_range : value ≤ 2 ^ 32 - 1
  pub spelled : text ≡ decimal value

pub record SpellsHexadecimal (text : List ℕ) (value : ℕ) : Type 0 where
  pub digits : ℕ
  pub some : 1 ≤ digits
  pub few : digits ≤ 8
  pub in_range : value < 16 ^ digits
  pub spelled : text ≡ codes "0x" ++ hex digits value

abbrev pub SpellsValue : List ℕ → ℕ → Type 0
SpellsValue text value = SpellsDecimal text value ⊎ SpellsHexadecimal text value
