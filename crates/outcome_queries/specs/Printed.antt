-- The bytes that were put out. (This project's own choice.)
use Rattle.std.specs.Prelude.{◌≡◌, ℕ, ◌%◌, ◌==◌, ◌&&◌, Bool, List, length, flat_map, None}
use Rattle.std.specs.{List.list_all, Str.bytes_eq}
use Rattle.text_fields.specs.{Reading.is_hex_digit, Spelling.hex}
use Rattle.symbols.specs.{Tables.Table, Meanings.IsMeaning, declared.meanings.Name.Name}
use Rattle.symbols.specs.declared.meanings.Meaning.TheVariants.{Nothing}

-- They are written with two lower-case hexadecimal digits each.
abbrev pub is_bytes : List ℕ → Bool
is_bytes text = (length text % 2 == 0) && list_all is_hex_digit text

-- The digits are those of these bytes.
abbrev pub is_printed : List ℕ → List ℕ → Bool
is_printed output digits = bytes_eq digits (flat_map (hex 2) output)

-- Nothing in the program has the name.
abbrev pub IsFree : Table → List ℕ → Type 0
IsFree names text = (name : Name) → name.file ≡ None → name.name.now ≡ text → IsMeaning names name Nothing
