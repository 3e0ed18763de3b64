-- What the rows told so far, the newest first, make of a hart's next step.
-- A lost update: r1[x] .. w2[x] .. w1[x]. [Berenson, Bernstein, Gray, Melton, O'Neil and O'Neil, A Critique of ANSI SQL
-- Isolation Levels, SIGMOD 1995, P4]
-- An ABA: a word is found as it was, though others have written to it. [IBM System/370 Principles of Operation,
-- appendix A, on COMPARE AND SWAP; Michael, Hazard Pointers, IEEE TPDS 2004]
-- Of what rows they are sought in, and what is a read of the word: this project's own choice.
use Rattle.std.specs.Prelude.{◌≡◌, ℕ, ◌≤◌, ◌==◌, ◌&&◌, Bool, not, if◌then◌else◌, List, find, take}
use Rattle.std.specs.Prelude.{Option, Some, None, is_some}
use Rattle.std.specs.List.{before_first}
use Rattle.smt_model.specs.{Kinds.store_size}
use Rattle.stories.specs.Spans.{has_read, meets, read_span, span_accessed, span_of, word_at, written_span}
use Rattle.stories.specs.declared.{row.Row.Row, deed.Deed.Deed, span.Span.Span, recent.Recent.Recent, recent.Note.Note}
use Rattle.stories.specs.declared.deed.Deed.TheVariants as deed
use Rattle.stories.specs.declared.recent.Note.TheVariants as note

-- No row before the last 256 is looked at.
abbrev pub kept_rows : ℕ
kept_rows = 256

abbrev pub newest : List Row → List Row
newest past = take kept_rows past

-- The row accesses one of these bytes, and is hart h's; or it writes to one of them, and is another's.
abbrev pub is_access_by : ℕ → Span → Row → Bool
is_access_by h span row = row.hart == h && meets span (span_accessed row.deed)

abbrev pub is_write_of_another : ℕ → Span → Row → Bool
is_write_of_another h span row = not (row.hart == h) && meets span (written_span row.deed)

-- Hart h's last access of these bytes, and the last write of another to them behind that.
abbrev pub last_access : ℕ → Span → List Row → Option Row
last_access h span rows = find (is_access_by h span) rows

abbrev pub last_write_since : ℕ → Span → List Row → Option Row
last_write_since h span rows = find (is_write_of_another h span) (before_first (is_access_by h span) rows)

-- A store loses an update where that access has read, and there is such a write.
abbrev pub loses : Option Row → Option Row → Option Note
loses None write = None
loses (Some read) None = None
loses (Some read) (Some write) = if is_some (read_span read.deed) then Some (note.Overwrites read write) else None

abbrev pub lost_update : ℕ → Span → List Row → Option Note
lost_update h span rows = loses (last_access h span rows) (last_write_since h span rows)

-- An LR that reads a number is an ABA where that access has read the same of the whole word, and there is such a write.
abbrev pub reads_again : ℕ → ℕ → Option Row → Option Row → Option Note
reads_again addr number None write = None
reads_again addr number (Some read) None = None
reads_again addr number (Some read) (Some write) =
    if has_read addr number read.deed then Some (note.Again read write) else None

abbrev pub again : ℕ → ℕ → ℕ → List Row → Option Note
again h addr number rows =
    reads_again addr number (last_access h (word_at addr) rows) (last_write_since h (word_at addr) rows)

-- What is said of hart h's next step.
abbrev pub note_of : ℕ → Deed → List Row → Option Note
note_of h (deed.Loaded op addr number) past = None
note_of h (deed.Reserved addr number) past = again h addr number (newest past)
note_of h (deed.Stored op addr number) past = lost_update h (span_of addr (store_size op)) (newest past)
note_of h _ past = None

-- ---- What is kept of the rows

-- It has heard these rows.
pub record HasKept (past : List Row) (recent : Recent) : Type 0 where
  pub rows : take recent.count recent.rows ≡ newest past
  pub few : recent.count ≤ kept_rows
