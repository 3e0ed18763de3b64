-- The columns of a story. (This project's own choice.)
use Rattle.std.specs.Prelude.{ℕ, ◌+◌, ◌-◌, ◌*◌, ◌==◌, nat_le, if◌then◌else◌, List, [], ◌∷◌, ◌++◌}
use Rattle.std.specs.Prelude.{codes, length, replicate}
use Rattle.std.specs.{Fmt.decimal}

-- How many characters a hart's column has: few where there are many harts. What is longer does no harm, since each row
-- is of one hart.
abbrev pub column_width : ℕ → ℕ
column_width harts = if nat_le harts 4 then 24 else 8

-- The spaces before a hart's column, behind the number of the row.
abbrev pub column : ℕ → ℕ → List ℕ
column harts h = replicate (column_width harts * h) 32

-- The number of a row and a space, five characters at least.
abbrev pub padded : ℕ → List ℕ → List ℕ
padded width text = text ++ replicate (width - length text) 32

abbrev pub number_field : ℕ → List ℕ
number_field n = padded 5 (decimal n ++ 32 ∷ [])

-- A hart over its column, behind the one before it, whose name has two characters, or three from hart 10 on.
abbrev pub head_gap : ℕ → ℕ → ℕ
head_gap harts h = if h == 0 then 0 else (if nat_le h 10 then column_width harts - 2 else column_width harts - 3)

abbrev pub head_cell : ℕ → ℕ → List ℕ
head_cell harts h = replicate (head_gap harts h) 32 ++ 104 ∷ decimal h

-- How many steps came that have no row, where some did.
abbrev pub steps_word : ℕ → List ℕ
steps_word n = if n == 1 then codes " step)\n" else codes " steps)\n"

abbrev pub unseen_text : ℕ → List ℕ
unseen_text n = if n == 0 then [] else codes "     (" ++ (decimal n ++ steps_word n)
