use Rattle.std.proofs.Common.{◌≡◌, ◌<◌, ℕ, length, slice_index}
use Rattle.numbers.specs.Sizes.{most_actors}
use Rattle.core_lock.specs.Seats.{NoneFalls, asked_by, board_of, name_of, seen_by}
use Rattle.core_lock.proofs.board.Board.read.Given as goal

-- the words so far are read, as the seat has seen them, and the others are as they were
abbrev pub invariant-loop-place : goal.invariant-loop-place
invariant-loop-place l = record {
  board : board_of l.seat ≡ name_of l.self;
  place : l.seat.place ≡ l.initial.seat.place;
  posted : l.seat.posted ≡ l.initial.seat.posted;
  asked : asked_by l.seat ≡ asked_by l.initial.seat;
  row : length l.counts ≡ most_actors;
  read : (k : ℕ) → k < l.place → slice_index l.counts k ≡ slice_index (seen_by l.seat) k;
  rises : NoneFalls (seen_by l.initial.seat) (seen_by l.seat);
}
