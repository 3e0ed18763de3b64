-- What it is to print a text of which something is known. The crates that print speak of it, whatever they print.
use Rattle.std.specs.Prelude.{ℕ, List, Option}
use Rattle.std.specs.Io.KnownBytes.{Appends}

-- A text was printed, and this holds of it.
abbrev pub Prints : Option (List ℕ) → Option (List ℕ) → (List ℕ → Type 0) → Type 0
Prints old new P = (text : List ℕ) × P text × Appends old new text
