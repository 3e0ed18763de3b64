-- What a load sees at its first look: memory, with the older resolved stores of its hart over it.
-- [Cain and Lipasti, ISCA 2004, the premature read] And which loads look again as they retire: those
-- that a write has touched since. [section 3: filtering replays]
use Rattle.std.specs.Prelude.{ℕ, ◌+◌, nat_lt, nat_le, Bool, not, ◌&&◌, if◌then◌else◌, List, [], ◌∷◌}
use Rattle.std.specs.Prelude.{fold, Option, Some, None}
use Rattle.std.specs.Option.{option_or}
use Rattle.events.specs.declared.effect.Written.{Written}
use Rattle.rv_instr.specs.declared.op.Op.{Op}
use Rattle.smt_model.specs.{Bytes.byte_after, Kinds.kind_of, Kinds.is_loading, Touched.shares_byte}
use Rattle.shared_memory.specs.Contents.{Contents, byte_of}
use Rattle.load_store.specs.{Queues.needs_look, declared.load.Load.Load, declared.store.Store.Store}
use Rattle.load_store.specs.{declared.look.Forwarded.Forwarded, declared.look.Forwarded.TheVariants.Whole}
use Rattle.load_store.specs.declared.look.Forwarded.TheVariants.{InPart, Nothing}

-- The byte after a store, where the store is older than the load `seq` and resolved.
abbrev pub forwarded : ℕ → Store → ℕ → ℕ → ℕ
forwarded seq x addr before = if nat_lt x.seq seq then byte_after x.write addr before else before

-- A byte with all of these over it, in order.
abbrev pub overlaid_by : ℕ → List Store → ℕ → ℕ → ℕ
overlaid_by seq [] addr before = before
overlaid_by seq (x ∷ xs) addr before = overlaid_by seq xs addr (forwarded seq x addr before)

-- The byte at an address as load `seq` sees it.
unfoldable pub seen : ℕ → List Store → Contents → ℕ → ℕ
seen seq stores m addr = overlaid_by seq stores addr (byte_of m addr)

-- What is written, where that shares a byte with the n bytes from an address.
abbrev pub sharing : ℕ → ℕ → Option Written → Option Written
sharing addr n None = None
sharing addr n (Some w) = if shares_byte w.addr w.n addr n then Some w else None

-- What a store will write, where it is older than the load `seq` and shares a byte with those.
abbrev pub write_into : ℕ → ℕ → ℕ → Store → Option Written
write_into seq addr n x = if nat_lt x.seq seq then sharing addr n x.write else None

-- The last of the stores, which is the youngest, has the word.
abbrev pub youngest_write : ℕ → ℕ → ℕ → List Store → Option Written
youngest_write seq addr n stores =
    fold (λ found x. option_or (write_into seq addr n x) found) None stores

-- Each of the n bytes from an address is written.
abbrev pub covers : Written → ℕ → ℕ → Bool
covers w addr n = nat_le w.addr addr && nat_le (addr + n) (w.addr + w.n)

-- What the youngest write gives these bytes.
abbrev pub forwarding : ℕ → ℕ → Option Written → Forwarded
forwarding addr n None = Nothing
forwarding addr n (Some w) = if covers w addr n then Whole w else InPart

-- The instruction is a load that nothing has touched since its first look, or that has had none.
abbrev pub keeps_first : Op → ℕ → List Load → Bool
keeps_first op seq loads = is_loading (kind_of op) && not (needs_look seq loads)
