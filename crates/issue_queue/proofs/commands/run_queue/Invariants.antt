use Rattle.std.proofs.Common.{◌≡◌, ◌≤◌, length, vec_len}
use Rattle.std.specs.Prelude.{vec_capacity}
use Rattle.issue_queue.proofs.Commanding.{IsGivenSoFar}
use Rattle.issue_queue.proofs.commands.run_queue.Given as goal

-- the answers so far are those of the first commands, and there is room for the others
abbrev pub invariant-loop-command : goal.invariant-loop-command
invariant-loop-command g l = record {
  so_far : IsGivenSoFar (g.Q.TaggedQueue.queue l.initial.queue) (g.Q.TaggedQueue.queue l.queue) l.commands l.given.items
      l.command-index;
  len : vec_len l.given ≡ l.command-index;
  room : length l.commands ≤ vec_capacity l.given;
}
