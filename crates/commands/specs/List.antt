-- The command `list`: the code of an image, a line for each word. (This project's own choice.)
use Rattle.std.specs.Prelude.{◌≡◌, ℕ, List, Option}
use Rattle.std.specs.Io.KnownBytes.{Appends}
use Rattle.elf_image.specs.Image.{ProgramImage}
use Rattle.address_labels.specs.Labels.{Marks}
use Rattle.reports.specs.{Listing.listing_text}
use Rattle.command_parts.specs.{declared.refused.Refused.Refused}
use Rattle.command_parts.specs.declared.refused.Refused.TheVariants.{Output}

-- Only the output is refused.
abbrev pub IsListRefusal : Refused → Type 0
IsListRefusal Output = Unit {0}
IsListRefusal _ = ⊥

-- What the command comes to: the listing is printed, with these marks, and the exit status is 0.
pub record ListComesTo (image : ProgramImage) (marks : Marks) (old new : Option (List ℕ))
    (exit_status : ℕ) : Type 0 where
  pub printed : Appends old new (listing_text marks image)
  pub zero : exit_status ≡ 0
