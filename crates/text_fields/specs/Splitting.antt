-- A text as fields that stand apart by one byte, the separator.

use Rattle.std.specs.Prelude.{◌≡◌, ℕ, ◌+◌, ◌==◌, not, true, List, count_by}
use Rattle.std.specs.List.{before_first, after_first, list_all}

-- how many fields there are: an empty text is one
unfoldable pub field_count : ℕ → List ℕ → ℕ
field_count separator text = count_by (λ byte. byte == separator) text + 1

-- the first of them
unfoldable pub field : ℕ → List ℕ → List ℕ
field separator text = before_first (λ byte. byte == separator) text

-- the text of the others, empty where there are none
unfoldable pub rest : ℕ → List ℕ → List ℕ
rest separator text = after_first (λ byte. byte == separator) text

-- no byte of the text is the separator
abbrev pub Lacks : ℕ → List ℕ → Type 0
Lacks separator text = list_all (λ byte. not (byte == separator)) text ≡ true
