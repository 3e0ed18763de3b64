use Rattle.std.proofs.Common.{◌≡◌, ℕ}
use Rattle.smt_model.specs.Bytes.{write_of, written_byte}
use Rattle.shared_memory.specs.Contents.{byte_of}
use Rattle.changed_memory.specs.Canonical.{AreCanonical}
use Rattle.changed_memory.specs.Shared.{changed}
use Rattle.changed_memory.proofs.changes.write_number.Given as goal

-- the bytes written so far
abbrev pub invariant-loop-index : goal.invariant-loop-index
invariant-loop-index l = record {
  bytes : (a : ℕ) → changed l.changes.items a (byte_of l.start a)
      ≡ written_byte (write_of l.addr l.index l.datum) a (changed l.fn.changes.items a (byte_of l.start a));
  canonical : AreCanonical (byte_of l.start) l.fn.changes.items → AreCanonical (byte_of l.start) l.changes.items;
}
