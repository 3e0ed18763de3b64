-- The files of a line, as they were read. (This project's own choice.)
use Rattle.std.specs.Prelude.{◌≡◌, ℕ, Bool, true, false, List, Option, Some, None, Result, Ok, Err}
use Rattle.std.specs.Borrow.{Bor}
use Rattle.elf_image.specs.{Loaded.IsImageOf}
use Rattle.elf_image.specs.Image.{ProgramImage}
use Rattle.sim_inputs.specs.{declared.settings.Settings.Settings, Configuration.IsConfiguration}
use Rattle.symbols.specs.Tables.{Table, AreNamesOf, no_names}
use Rattle.source_lines.specs.{Lines.Origin, Lines.AreLinesOf, Faults.IsFirstRefused}
use Rattle.command_parts.specs.{declared.refused.Refused.Refused, declared.refused.Unread.Unread}
use Rattle.command_parts.specs.declared.refused.Refused.TheVariants.{Config, Memory}
use Rattle.command_parts.specs.declared.refused.Refused.TheVariants as refused
use Rattle.command_parts.specs.declared.refused.Unread.TheVariants as unread
use Rattle.command_parts.specs.Refused.{refusal_of, PassesAll}

-- A file as it was read: its text, or why there is none.
abbrev pub Read : Type 0
Read = Result (List ℕ) Unread

abbrev pub as_read : Result (Bor (List ℕ)) Unread → Read
as_read (Ok file) = Ok file.now
as_read (Err why) = Err why

-- The file was read, and this holds of its text.
abbrev pub OfFile : Read → (List ℕ → Type 0) → Type 0
OfFile (Ok text) P = P text
OfFile (Err why) P = ⊥

-- What is refused of a file that is needed: that it is unread, and else what `P` says of its text.
abbrev pub BehindFile : Read → (List ℕ → Refused → Type 0) → Refused → Type 0
BehindFile (Ok text) P reason = P text reason
BehindFile (Err why) P reason = reason ≡ refusal_of why

-- No settings are made of a text that is no configuration. Of memory nothing is said.
abbrev pub IsNoConfiguration : List ℕ → Type 0
IsNoConfiguration text = (settings : Settings) → IsConfiguration text settings → ⊥

abbrev pub IsConfigRefusal : List ℕ → Refused → Type 0
IsConfigRefusal text Config = IsNoConfiguration text
IsConfigRefusal text Memory = Unit {0}
IsConfigRefusal text _ = ⊥

-- The configuration was read, and this holds of its settings.
abbrev pub OfSettings : Read → (Settings → Type 0) → Type 0
OfSettings config P =
    OfFile config (λ text. (settings : Settings) × IsConfiguration text settings × P settings)

-- So was the image, which passes every check; and this holds of the settings and of the program
-- image that it is.
abbrev pub OfProgram : Read → Read → (Settings → ProgramImage → Type 0) → Type 0
OfProgram config image P = OfSettings config (λ settings. OfFile image (λ file.
    PassesAll file settings.ram × (program : ProgramImage)
    × IsImageOf file settings.ram program × P settings program))

-- The names of an image's program where they are wanted; else none.
abbrev pub AreNamesFor : Bool → List ℕ → Table → Type 0
AreNamesFor true file names = AreNamesOf file names
AreNamesFor false file names = names ≡ no_names

-- So was the image, and these are the names that are wanted of it; and this holds of all three.
abbrev pub OfNamedProgram : Bool → Read → Read → (Settings → ProgramImage → Table → Type 0) → Type 0
OfNamedProgram wanted config image P = OfProgram config image (λ settings program. OfFile image (λ file.
    (names : Table) × AreNamesFor wanted file names × P settings program names))

-- The lines of an image's sources in a file, where they are wanted; else none.
abbrev pub AreLinesFor : Bool → Read → ProgramImage → Option (List Origin) → Type 0
AreLinesFor true (Ok text) image (Some lines) = AreLinesOf image text lines
AreLinesFor true (Ok text) image None = ⊥
AreLinesFor true (Err why) image lines = ⊥
AreLinesFor false text image lines = lines ≡ None

-- When each refusal of them comes, where they are wanted. Of memory nothing is said.
abbrev pub IsLinesFault : Bool → Read → ProgramImage → Refused → Type 0
IsLinesFault wanted text image (refused.Lines number fault) =
    (wanted ≡ true) × OfFile text (λ lines. IsFirstRefused image lines number fault)
IsLinesFault wanted text image refused.File = (wanted ≡ true) × (text ≡ Err unread.File)
IsLinesFault wanted text image refused.Memory = Unit {0}
IsLinesFault wanted text image _ = ⊥

-- These are the lines that are wanted of an image's sources, and this holds of them.
abbrev pub OfLines : Bool → Read → ProgramImage → (Option (List Origin) → Type 0) → Type 0
OfLines wanted text image P = (lines : Option (List Origin)) × AreLinesFor wanted text image lines × P lines
