-- What callers see of a seat: its board, what it has seen, and for what it has asked to stop.
use Rattle.std.specs.Prelude.{◌≡◌, ℕ, ◌≤◌, max, List, slice_index, slice_set, replicate}
use Rattle.atomic_table.specs.Seated.{TableId}
use Rattle.core_lock.specs.Knowledge.{board_words, stop_word}
use Rattle.core_lock.specs.declared.board.seat.Seat.{Seat}
use Rattle.core_lock.specs.declared.board.Board.{Board}

-- What tells a board from every other.
abbrev pub name_of : Board → TableId
name_of board = board.table.shared.table_id

-- The name of the seat's board.
abbrev pub board_of : Seat → TableId
board_of seat = seat.token.table_id

-- What it has seen last of each word.
abbrev pub seen_by : Seat → List ℕ
seen_by seat = seat.token.me.0.seen

-- The number of the greatest reason for which it has asked to stop; 0 for none.
abbrev pub asked_by : Seat → ℕ
asked_by seat = seat.token.me.0.asked

-- A seat that has done nothing yet, at this place of this board.
pub record IsNew (board : TableId) (place : ℕ) (seat : Seat) : Type 0 where
  pub at : seat.place ≡ place
  pub of : board_of seat ≡ board
  pub posted : seat.posted ≡ 0
  pub asked : asked_by seat ≡ 0
  pub seen : seen_by seat ≡ replicate board_words 0

-- No word is seen below what was seen there before.
abbrev pub NoneFalls : List ℕ → List ℕ → Type 0
NoneFalls before after = (word : ℕ) → slice_index before word ≤ slice_index after word

-- The stop word is seen at the reason, or where it was above it at what it was, and all else as
-- before.
abbrev pub IsRaised : ℕ → List ℕ → List ℕ → Type 0
IsRaised reason before after =
    (found : ℕ) × (slice_index before stop_word ≤ found) × (found ≤ 4)
    × (after ≡ slice_set before stop_word (max found reason))
