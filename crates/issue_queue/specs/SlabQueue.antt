-- A queue over a slab, as the list of its entries.
use Rattle.std.specs.Prelude.{ℕ, ◌≤◌, List, [], ◌∷◌, length, Option, Some, None}
use Rattle.numbers.specs.Sizes.{most_queued}
use Rattle.issue_queue.specs.{declared.entry.Entry.Entry, declared.parts.QueueParts.QueueParts}
use Rattle.issue_queue.specs.{Queue.Queue, Queue.inserted_entry, Parts.IsSound}

-- the entries of these slots, by rising number
abbrev pub by_number : List (Option Entry) → List Entry
by_number [] = []
by_number (None ∷ slots) = by_number slots
by_number (Some e ∷ slots) = inserted_entry e (by_number slots)

-- what a clause sees of a queue
abbrev pub view_of : ℕ → QueueParts → Queue
view_of size parts = record { size = size; entries = by_number parts.entries.slots }

-- the parts agree, and there is room for what is yet to come
pub record IsQueue (size : ℕ) (parts : QueueParts) : Type 0 where
  pub sound : IsSound parts
  pub few : size ≤ most_queued
  pub fits : length (by_number parts.entries.slots) ≤ size
  pub room : size ≤ parts.entries.capacity
