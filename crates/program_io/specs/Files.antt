-- Why a file that is to be read isn't. (This project's own choice.)
use Rattle.std.specs.Prelude.{ℕ, ◌<◌, List, length, Option, IfSome}
use Rattle.std.specs.{declared.io.ErrorKind.ErrorKind}
use Rattle.std.specs.{declared.io.ErrorKind.TheVariants.OutOfMemory}
use Rattle.command_parts.specs.{declared.refused.Unread.Unread}
use Rattle.command_parts.specs.declared.refused.Unread.TheVariants as unread
use Rattle.program_io.specs.{declared.files.ReadRefused.ReadRefused}
use Rattle.program_io.specs.declared.files.ReadRefused.TheVariants as refused

-- Why there are no bytes of a file whose opening failed for a reason of this kind, or of a reader whose read did.
abbrev pub why_refused : ErrorKind → ReadRefused
why_refused OutOfMemory = refused.Memory
why_refused kind = refused.Failed kind

-- A reader is refused as too long only where more than the most bytes are to come of it.
abbrev pub IsRefusedFor : Option (List ℕ) → ℕ → ReadRefused → Type 0
IsRefusedFor bytes most refused.TooLong = IfSome bytes (λ all. most < length all)
IsRefusedFor bytes most (refused.Failed kind) = Unit {0}
IsRefusedFor bytes most refused.Memory = Unit {0}

-- What is said of a file whose reader is refused.
abbrev pub unread_for : ReadRefused → Unread
unread_for refused.TooLong = unread.File
unread_for (refused.Failed kind) = unread.File
unread_for refused.Memory = unread.Memory
