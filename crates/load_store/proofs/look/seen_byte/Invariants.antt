use Rattle.std.proofs.Common.{◌≡◌, drop}
use Rattle.shared_memory.specs.Contents.{byte_of}
use Rattle.load_store.specs.Looks.{overlaid_by}
use Rattle.load_store.proofs.look.seen_byte.Given as goal

-- the stores that are left make of this byte what all make of memory's
abbrev pub invariant-loop-store : goal.invariant-loop-store
invariant-loop-store l =
    overlaid_by l.seq (drop l.store-index l.stores) l.addr l.byte
    ≡ overlaid_by l.seq l.stores l.addr (byte_of l.memory l.addr)
