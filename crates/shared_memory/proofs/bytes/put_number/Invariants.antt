use Rattle.std.proofs.Common.{◌≡◌, ℕ, length, slice_index}
use Rattle.smt_model.specs.Bytes.{written_byte, write_of}
use Rattle.shared_memory.proofs.bytes.put_number.Given as goal

-- the bytes written so far
abbrev pub invariant-loop-index : goal.invariant-loop-index
invariant-loop-index l =
    (length l.bytes ≡ length l.fn.bytes)
    × ((k : ℕ) → slice_index l.bytes k ≡ written_byte (write_of l.place l.index l.datum) k (slice_index l.fn.bytes k))
