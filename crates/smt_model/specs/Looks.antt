-- The first look of a load, as it completes: memory as it is now, overlaid with the older stores of
-- its own hart that have completed and not yet retired. [Cain and Lipasti, ISCA 2004, the premature
-- read]
use Rattle.std.specs.Prelude.{ℕ, Bool, ◌&&◌, nat_lt, List, [], ◌∷◌, filter, Option, option_map}
use Rattle.std.specs.Prelude.{option_and_then}
use Rattle.smt_model.specs.Words.{Op, Outcome, Written, Event}
use Rattle.smt_model.specs.{Basics.or_zero, Setup.Setup, Kinds.kind_of, Kinds.is_storing}
use Rattle.smt_model.specs.{Kinds.access_size, Bytes.byte_after, Bytes.read, Bytes.write_of}
use Rattle.smt_model.specs.{Flights.numbers, Memory.byte_at}
use Rattle.smt_model.specs.Fates.{fate, is, Completed, completion, op_at}

-- What a completed store will write as it retires: nothing where it stops its hart.
abbrev pub stored_by : Op → Outcome → Option Written
stored_by op o = option_map (λ addr. write_of addr (access_size op) (or_zero o.datum)) o.addr

-- The load s sees what store x will write.
abbrev pub is_forwarded : List Event → ℕ → ℕ → Bool
is_forwarded past s x =
    nat_lt x s && (is_storing (kind_of (op_at past x)) && is (fate past x) Completed)

-- A byte with the writes of some stores over it, in order.
abbrev pub overlaid_byte : List Event → ℕ → List ℕ → ℕ → ℕ
overlaid_byte past addr [] before = before
overlaid_byte past addr (x ∷ xs) before =
    let stored = option_and_then (stored_by (op_at past x)) (completion past x) in
    overlaid_byte past addr xs (byte_after stored addr before)

-- The byte at an address as load s of hart h sees it.
abbrev pub seen_byte : Setup → List Event → ℕ → ℕ → ℕ → ℕ
seen_byte setup past h s addr =
    overlaid_byte past addr (filter (is_forwarded past s) (numbers past h))
    (byte_at setup past addr)

-- The number that its first look gives, extended as the instruction says.
unfoldable pub first_look : Setup → List Event → ℕ → ℕ → Op → ℕ → ℕ
first_look setup past h s op addr = read op (seen_byte setup past h s) addr
