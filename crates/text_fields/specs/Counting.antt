-- What has been counted of a number while its digits came.

use Rattle.std.specs.Prelude.{◌≡◌, ℕ, ◌<◌, ◌≤◌, true, List}
use Rattle.std.specs.{Char.is_ascii_digit, List.list_all}
use Rattle.text_fields.specs.Reading.{decimal_after}

-- These are digits. The value is the number that they write, unless both are above the limit.
pub record Counts (max value : ℕ) (digits : List ℕ) : Type 0 where
  pub all : list_all is_ascii_digit digits ≡ true
  pub below : value ≤ max → value ≡ decimal_after 0 digits
  pub above : max < value → max < decimal_after 0 digits
