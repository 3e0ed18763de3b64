-- Who took a reservation, among the rows told so far, the newest first. (This project's own choice.)
use Rattle.std.specs.Prelude.{◌≡◌, ℕ, ◌<◌, ◌==◌, Bool, false, if◌then◌else◌, List, reverse, find}
use Rattle.std.specs.Prelude.{Option, Some, None, is_some, slice_index_or}
use Rattle.std.specs.List.{before_first}
use Rattle.numbers.specs.Sizes.{most_harts}
use Rattle.smt_model.specs.Reservations.{holds_word, word_of_address}
use Rattle.stories.specs.declared.{row.Row.Row, deed.Deed.Deed, teller.Teller.Teller, teller.Watch.Watch}
use Rattle.stories.specs.declared.deed.Deed.TheVariants as deed

-- The address that an LR has reserved.
abbrev pub reserves_at : Deed → Option ℕ
reserves_at (deed.Loaded op addr number) = None
reserves_at (deed.Reserved addr number) = Some addr
reserves_at _ = None

-- The address that was written.
abbrev pub writes_at : Deed → Option ℕ
writes_at (deed.Stored op addr number) = Some addr
writes_at (deed.Conditional addr number) = Some addr
writes_at (deed.Atomic kind addr old new) = Some addr
writes_at _ = None

-- The address that the row has reserved as an LR of hart h, where it is one.
abbrev pub reserves_of : ℕ → Row → Option ℕ
reserves_of h row = if row.hart == h then reserves_at row.deed else None

abbrev pub is_reserve_by : ℕ → Row → Bool
is_reserve_by h row = is_some (reserves_of h row)

-- The row wrote to the word at this address.
abbrev pub is_on_word : ℕ → Option ℕ → Bool
is_on_word word None = false
is_on_word word (Some addr) = word_of_address addr == word_of_address word

abbrev pub takes : ℕ → Row → Bool
takes word row = is_on_word word (writes_at row.deed)

-- The address that hart h's last LR has reserved; the rows behind that one; and the first of them that wrote to its
-- word.
abbrev pub address_of : ℕ → Option Row → Option ℕ
address_of h None = None
address_of h (Some row) = reserves_of h row

abbrev pub reserved_at : ℕ → List Row → Option ℕ
reserved_at h past = address_of h (find (is_reserve_by h) past)

abbrev pub since : ℕ → List Row → List Row
since h past = before_first (is_reserve_by h) past

abbrev pub first_taker : Option ℕ → List Row → Option Row
first_taker None rows = None
first_taker (Some word) rows = find (takes word) (reverse rows)

-- Who took hart h's reservation of the word at an address, where its last LR was of that.
abbrev pub taker : ℕ → ℕ → List Row → Option Row
taker h addr past =
    if holds_word (reserved_at h past) addr then first_taker (reserved_at h past) (since h past) else None

-- ---- What is kept of the rows

-- For hart h it is this of the rows told so far; and so it is for each hart.
pub record IsWatch (h : ℕ) (past : List Row) (watch : Watch) : Type 0 where
  pub word : watch.word ≡ reserved_at h past
  pub taken : watch.taken ≡ first_taker (reserved_at h past) (since h past)

pub record HasHeard (past : List Row) (teller : Teller) : Type 0 where
  pub each : (h : ℕ) (d : Watch) → h < most_harts → IsWatch h past (slice_index_or teller.watches h d)

-- What a row changes of it.
abbrev pub takes_some : Option ℕ → Row → Bool
takes_some None row = false
takes_some (Some word) row = takes word row

abbrev pub taken_heard : Option ℕ → Row → Option Row → Option Row
taken_heard word row None = if takes_some word row then Some row else None
taken_heard word row (Some earlier) = Some earlier

abbrev pub watch_kept : Row → Watch → Option ℕ → Watch
watch_kept row watch None = record { word = watch.word; taken = taken_heard watch.word row watch.taken }
watch_kept row watch (Some addr) = record { word = Some addr; taken = None }

abbrev pub watch_heard : ℕ → Row → Watch → Watch
watch_heard h row watch = watch_kept row watch (reserves_of h row)
