-- Which loads have to look again as they retire: those whose bytes were written between their
-- completion and their retirement. Every other one would read the number that it has. [Cain and
-- Lipasti, ISCA 2004, section 3: a load need not be read again where no store to its address came
-- between]
use Rattle.std.specs.Prelude.{ℕ, ◌+◌, Bool, false, not, ◌&&◌, ◌||◌, nat_lt, if◌then◌else◌}
use Rattle.std.specs.Prelude.{List, Option, Some, None}
use Rattle.smt_model.specs.Words.{op_of_word, Op, Outcome, Effect, Written, Event}
use Rattle.smt_model.specs.{Nexts.is_last, Kinds.kind_of, Kinds.is_loading, Kinds.writes_register}
use Rattle.smt_model.specs.{Kinds.access_size, Basics.how_many, Folds.by_retirements, Fates.op_at}
use Rattle.smt_model.specs.{Fates.completion, Account.records}

-- The n bytes from a and the m bytes from b share one: neither is empty, and each begins before the
-- other ends.
abbrev pub shares_byte : ℕ → ℕ → ℕ → ℕ → Bool
shares_byte a n b m = (nat_lt 0 n && nat_lt 0 m) && (nat_lt a (b + m) && nat_lt b (a + n))

-- The address of the access that a completion names, where there is a completion and an access.
abbrev pub accessed : Option Outcome → Option ℕ
accessed None = None
accessed (Some o) = o.addr

-- The write of a retirement shares a byte with an instruction's access at this address.
abbrev pub touches_access : Option Written → Op → Option ℕ → Bool
touches_access None op addr = false
touches_access (Some w) op None = false
touches_access (Some w) op (Some addr) = shares_byte w.addr w.n addr (access_size op)

-- Some retirement since the completion of instruction s has a write that shares a byte with its
-- access. Before its completion it has none.
abbrev pub is_touched : List Event → ℕ → Bool
is_touched =
    by_retirements (λ n x past touched s.
    touched s || touches_access x.write (op_at past s) (accessed (completion past s)))
    (λ s. false)

-- A load that gives a register its number: its rd isn't x0, and it retires without stopping.
abbrev pub gives_loaded : Op → Effect → Bool
gives_loaded op x = (is_loading (kind_of op) && writes_register op) && not (is_last x.next)

-- How many of these have retired.
abbrev pub loads : List Event → ℕ
loads past = how_many (λ r. gives_loaded (op_of_word r.word) r.effect) (records past)

-- One more, where it is such a load and was touched.
abbrev pub looks_after : Op → Bool → Effect → ℕ → ℕ
looks_after op touched x many = if gives_loaded op x && touched then many + 1 else many

-- How many of these were touched between their completion and their retirement: so many have to look
-- again.
abbrev pub looks : List Event → ℕ
looks = by_retirements (λ n x past many. looks_after (op_at past n) (is_touched past n) x many) 0
