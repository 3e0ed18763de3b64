-- Which files a line reads. (This project's own choice.)
use Rattle.std.specs.Prelude.{◌≡◌, ◌⊎◌, ℕ, Bool, true, false, List, Option, None, Some, option_map}
use Rattle.std.specs.{Borrow.Bor, Str.bytes_eq}
use Rattle.program_io.specs.declared.read_files.ReadFiles.{ReadFiles}

-- This is the name of the file, where there is one.
abbrev pub is_named : Option (List ℕ) → List ℕ → Bool
is_named None path = false
is_named (Some name) path = bytes_eq name path

abbrev IsNamed : Option (Bor (List ℕ)) → List ℕ → Type 0
IsNamed file path = is_named (option_map (λ name. name.now) file) path ≡ true

-- One of the files that are read has just this name.
abbrev pub IsReadAsNamed : ReadFiles → List ℕ → Type 0
IsReadAsNamed read path = IsNamed read.config path ⊎ IsNamed read.program path ⊎ IsNamed read.second path
    ⊎ IsNamed read.lines path
