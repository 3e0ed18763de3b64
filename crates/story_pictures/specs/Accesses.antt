-- The bytes that a row reads and writes. (RISC-V Unprivileged ISA, chapter "A": an AMO reads and writes its word.)
use Rattle.std.specs.Prelude.{ℕ, ◌+◌, ◌&&◌, ◌||◌, Bool, false, nat_le, nat_lt, if◌then◌else◌, Option, Some, None}
use Rattle.stories.specs.declared.{row.Row.Row, deed.Deed.Deed, span.Span.Span}
use Rattle.stories.specs.declared.deed.Deed.TheVariants as deed
use Rattle.stories.specs.Spans.{read_span, word_at, written_span}

-- The bytes whose number a step has found: an AMO has found that of the word that it wrote.
abbrev pub found_span : Deed → Option Span
found_span (deed.Atomic kind addr old new) = Some (word_at addr)
found_span d = read_span d

abbrev pub has_byte : Option Span → ℕ → Bool
has_byte None byte = false
has_byte (Some s) byte = nat_le s.addr byte && nat_lt byte (s.addr + s.size)

abbrev pub reads_byte : ℕ → Row → Bool
reads_byte byte row = has_byte (found_span row.deed) byte

abbrev pub writes_byte : ℕ → Row → Bool
writes_byte byte row = has_byte (written_span row.deed) byte

abbrev pub touches_byte : ℕ → Row → Bool
touches_byte byte row = reads_byte byte row || writes_byte byte row

-- The byte at this place of an access, which has four at the most.
abbrev pub byte_at : Option Span → ℕ → Option ℕ
byte_at None place = None
byte_at (Some s) place = if nat_lt place s.size then Some (s.addr + place) else None
