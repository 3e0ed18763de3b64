-- The rule that the words of a board keep, and what each step tells the seat that made it.
use Rattle.std.specs.Prelude.{◌≡◌, ℕ, ◌<◌, ◌≤◌, ◌⊎◌, max, List, length, slice_index}
use mathlib.Core.Option.{some}
use lib.ListN.{get_elem?}
use Rattle.core_lock.specs.declared.board.knowledge.Knowledge.{Knowledge}
use Rattle.core_lock.specs.Knowledge.{Owns, saw, asks, stop_word, board_words}

-- What a seat knows is true: no word is below what it saw there last, and a count of its own is
-- just that. A stop that it has asked for is one that it has seen.
pub record IsTrueOf (words : List ℕ) (v : Knowledge) : Type 0 where
  pub sized : length v.seen ≡ board_words
  pub below : (word : ℕ) → slice_index v.seen word ≤ slice_index words word
  pub own : (word : ℕ) → Owns v word → word < stop_word
      → slice_index words word ≡ slice_index v.seen word
  pub asked : v.asked ≤ slice_index v.seen stop_word
  pub reason : v.asked ≤ 4

-- The number is 0, or some seat has asked to stop for the reason of this number.
abbrev pub IsAskedFor : List Knowledge → ℕ → Type 0
IsAskedFor views number =
    (number ≡ 0) ⊎ ((id : ℕ) × (v : Knowledge) × (get_elem? views id ≡ some v) × (v.asked ≡ number))

-- What each seat knows is true, no word is owned by two seats, and the stop word is what somebody
-- has asked for.
pub record IsConsistent (words : List ℕ) (views : List Knowledge) : Type 0 where
  pub sized : length words ≡ board_words
  pub true_of : (id : ℕ) (v : Knowledge) → get_elem? views id ≡ some v → IsTrueOf words v
  pub apart : (i j : ℕ) (v w : Knowledge) (word : ℕ) → get_elem? views i ≡ some v
      → get_elem? views j ≡ some w → Owns v word → Owns w word → i ≡ j
  pub stop : IsAskedFor views (slice_index words stop_word)

-- A look at a word found this number: no less than it saw there before, in an own count just that,
-- and 4 at most in the stop word.
pub record IsLook (word : ℕ) (v : Knowledge) (found : ℕ) (w : Knowledge) : Type 0 where
  pub saw : w ≡ saw v word found
  pub rises : slice_index v.seen word ≤ found
  pub own : Owns v word → word < stop_word → found ≡ slice_index v.seen word
  pub reason : word ≡ stop_word → found ≤ 4

-- The number was stored in an own word.
abbrev pub IsPost : ℕ → Knowledge → ℕ → Knowledge → Type 0
IsPost word v stored w = w ≡ saw v word stored

-- The stop word was raised to the reason, or stays where it was greater.
pub record IsStop (reason : ℕ) (v : Knowledge) (found : ℕ) (w : Knowledge) : Type 0 where
  pub asks : w ≡ asks (saw v stop_word (max found reason)) reason
  pub rises : slice_index v.seen stop_word ≤ found
  pub reason_found : found ≤ 4
