-- Which read found which write, which write nobody found, and where harts are stuck. (Reads-from and coherence of Alglave, Maranget and
-- Tautschnig, "Herding Cats", 2014, on one order of all steps, and by bytes.)
use Rattle.std.specs.Prelude.{ℕ, ◌+◌, ◌==◌, ◌&&◌, ◌||◌, Bool, true, false, not, List, drop, find, Option, Some, None, is_some}
use Rattle.std.specs.List.{list_any}
use Rattle.stories.specs.declared.{row.Row.Row, deed.Deed.Deed}
use Rattle.stories.specs.declared.deed.Deed.TheVariants as deed
use Rattle.stories.specs.Spans.{written_span}
use Rattle.story_pictures.specs.Accesses.{byte_at, found_span, reads_byte, touches_byte, writes_byte}

-- This write is the last that was made of a byte before it was read: it writes the byte, and none of the rows between
-- does.
abbrev pub gives : List Row → Row → Option ℕ → Bool
gives between write None = false
gives between write (Some byte) = writes_byte byte write && not (list_any (writes_byte byte) between)

abbrev pub gives_at : List Row → Row → Row → ℕ → Bool
gives_at between write read place = gives between write (byte_at (found_span read.deed) place)

-- The read found a byte of the write.
abbrev pub finds : List Row → Row → Row → Bool
finds between write read =
    ((gives_at between write read 0 || gives_at between write read 1) || gives_at between write read 2)
    || gives_at between write read 3

-- The read whose earlier rows these are reads from the one at index i, which is this one: the field's rf.
abbrev pub reads_from : List Row → ℕ → Row → Row → Bool
reads_from earlier i write read = finds (drop (i + 1) earlier) write read

-- The first row behind a write that touches its byte writes it, and doesn't read it.
abbrev pub is_over : ℕ → Option Row → Bool
is_over byte None = false
is_over byte (Some row) = not (reads_byte byte row)

abbrev pub is_gone : List Row → Option ℕ → Bool
is_gone later None = true
is_gone later (Some byte) = is_over byte (find (touches_byte byte) later)

abbrev pub is_gone_at : List Row → Row → ℕ → Bool
is_gone_at later write place = is_gone later (byte_at (written_span write.deed) place)

-- A write that was written over before anyone read it: so it is with each of its bytes.
abbrev pub is_overwritten : List Row → Row → Bool
is_overwritten later write =
    (((is_some (written_span write.deed) && is_gone_at later write 0) && is_gone_at later write 1)
    && is_gone_at later write 2) && is_gone_at later write 3

-- The last row of a hart that goes on: the hart hasn't ended or stopped there, and has no row behind it.
abbrev pub is_end : Deed → Bool
is_end (deed.Ended number) = true
is_end (deed.Stopped cause) = true
is_end _ = false

abbrev pub is_stuck : List Row → Row → Bool
is_stuck later row = not (is_end row.deed) && not (list_any (λ (other : Row). other.hart == row.hart) later)
