-- What a seat knows of the words of a board: a count for each actor, and behind them the stop word.
use Rattle.std.specs.Prelude.{ℕ, ◌+◌, ◌<◌, ◌≤◌, max, replicate, slice_set}
use Rattle.numbers.specs.Sizes.{most_actors}
use Rattle.core_lock.specs.declared.board.knowledge.Knowledge.{Knowledge}

-- The place of the stop word, and how many words there are.
abbrev pub stop_word : ℕ
stop_word = most_actors

abbrev pub board_words : ℕ
board_words = stop_word + 1

-- The word is one of the seat's own.
abbrev pub Owns : Knowledge → ℕ → Type 0
Owns v word = (v.first ≤ word) × (word < v.end)

-- The seat has seen this number in the word.
abbrev pub saw : Knowledge → ℕ → ℕ → Knowledge
saw v word number = record v { seen = slice_set v.seen word number }

-- The seat has asked to stop for the reason of this number.
abbrev pub asks : Knowledge → ℕ → Knowledge
asks v reason = record v { asked = max v.asked reason }

-- A seat that owns the words from one on, and has seen a 0 in each. The first seat owns all.
abbrev pub from : ℕ → Knowledge
from word = record { first = word; end = board_words; asked = 0; seen = replicate board_words 0 }

-- A seat's knowledge without its first own word, and that of a new seat that owns this word.
abbrev pub without_first : Knowledge → Knowledge
without_first v = record v { first = v.first + 1 }

abbrev pub own_first : Knowledge → Knowledge
own_first v = record { first = v.first; end = v.first + 1; asked = 0; seen = v.seen }
