-- What comes of commands, whichever body keeps the queue.
use Rattle.std.specs.Prelude.{◌==◌, ◌||◌, Bool, if◌then◌else◌, List, [], ◌∷◌, Option, Some, None, length, map, filter, count_by}
use Rattle.issue_queue.specs.{declared.entry.Entry.Entry, declared.commands.QueueCommand.QueueCommand}
use Rattle.issue_queue.specs.declared.commands.QueueCommand.TheVariants.{Insert, Wake, Take, Squash, Count}
use Rattle.issue_queue.specs.declared.commands.QueueAnswer.{QueueAnswer}
use Rattle.issue_queue.specs.declared.commands.QueueAnswer.TheVariants.{Done, Refused, Taken, Counted}
use Rattle.issue_queue.specs.{Entry.woken_entry, Queue.Queue, Queue.has_number, Queue.inserted_entry}
use Rattle.issue_queue.specs.Queue.{first_ready, is_other, stays}

-- an entry is refused where the queue is full or holds its number
abbrev pub refuses : Queue → Entry → Bool
refuses q e = length q.entries == q.size || has_number e.seq q.entries

abbrev pub without_taken : List Entry → Option Entry → List Entry
without_taken entries None = entries
without_taken entries (Some e) = filter (is_other e.seq) entries

abbrev pub answer : Queue → QueueCommand → QueueAnswer
answer q (Insert e) = if refuses q e then Refused else Done
answer q (Wake register value) = Done
answer q (Take kind) = Taken (first_ready kind q.entries)
answer q (Squash hart seq) = Done
answer q (Count hart) = Counted (count_by (λ x. x.hart == hart) q.entries)

abbrev pub entries_after : Queue → QueueCommand → List Entry
entries_after q (Insert e) = if refuses q e then q.entries else inserted_entry e q.entries
entries_after q (Wake register value) = map (woken_entry register value) q.entries
entries_after q (Take kind) = without_taken q.entries (first_ready kind q.entries)
entries_after q (Squash hart seq) = filter (stays hart seq) q.entries
entries_after q (Count hart) = q.entries

-- no command changes the size
abbrev pub after : Queue → QueueCommand → Queue
after q command = record q { entries = entries_after q command }

-- commands in turn
abbrev pub answers : Queue → List QueueCommand → List QueueAnswer
answers q [] = []
answers q (c ∷ cs) = answer q c ∷ answers (after q c) cs

abbrev pub after_all : Queue → List QueueCommand → Queue
after_all q [] = q
after_all q (c ∷ cs) = after_all (after q c) cs
