use Rattle.std.proofs.Common.{flat_map}
use Rattle.std.specs.Io.KnownBytes.{Appends}
use Rattle.elf_image.specs.Image.{word_in}
use Rattle.address_labels.specs.Labels.{marks_of}
use Rattle.reports.specs.Listing.{listing_line, word_addresses}
use Rattle.reports.proofs.listing.list.Given as goal

-- the lines of the words so far are written
abbrev pub invariant-loop-index : goal.invariant-loop-index
invariant-loop-index g l =
    Appends (g.W.Write.contents l.fn.out) (g.W.Write.contents l.out)
    (flat_map (λ pc. listing_line (marks_of l.labels) pc (word_in l.image pc)) (word_addresses l.start l.index))
