-- The bytes of memory that a step has read and written. (This project's own choice.)
use Rattle.std.specs.Prelude.{ℕ, ◌==◌, ◌&&◌, Bool, false, Option, Some, None}
use Rattle.std.specs.{Option.option_or}
use Rattle.smt_model.specs.{Kinds.load_size, Kinds.store_size, Touched.shares_byte}
use Rattle.stories.specs.declared.{deed.Deed.Deed, span.Span.Span}
use Rattle.stories.specs.declared.deed.Deed.TheVariants as deed

abbrev pub span_of : ℕ → ℕ → Span
span_of addr size = record { addr = addr; size = size }

abbrev pub word_at : ℕ → Span
word_at addr = span_of addr 4

-- What a load or an LR has read.
abbrev pub read_span : Deed → Option Span
read_span (deed.Loaded op addr number) = Some (span_of addr (load_size op))
read_span (deed.Reserved addr number) = Some (word_at addr)
read_span _ = None

-- What a store, an SC that has written, or an AMO wrote.
abbrev pub written_span : Deed → Option Span
written_span (deed.Stored op addr number) = Some (span_of addr (store_size op))
written_span (deed.Conditional addr number) = Some (word_at addr)
written_span (deed.Atomic kind addr old new) = Some (word_at addr)
written_span _ = None

-- What was read or written; an SC that has failed did neither.
abbrev pub span_accessed : Deed → Option Span
span_accessed d = option_or (read_span d) (written_span d)

-- These bytes share one with those.
abbrev pub meets : Span → Option Span → Bool
meets span None = false
meets span (Some other) = shares_byte span.addr span.size other.addr other.size

-- It is a load of the word at this address, or an LR of it, that has read this number.
abbrev pub has_read : ℕ → ℕ → Deed → Bool
has_read addr number (deed.Loaded op there told) = load_size op == 4 && (there == addr && told == number)
has_read addr number (deed.Reserved there told) = there == addr && told == number
has_read addr number _ = false
