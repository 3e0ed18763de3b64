use Rattle.std.specs.Prelude.{◌≡◌, ◌≤◌, ◌++◌, length, reverse}
use Rattle.smt_model.specs.Account.{event_count, last_event_of}
use Rattle.core_lock.proofs.tally.tally_of.Given as goal

-- the events so far and those to come are the history's; what the first hold of the actor
abbrev pub invariant-loop-event : goal.invariant-loop-event
invariant-loop-event l = record {
  whole : l.yielded ++ l.event-iterator ≡ l.history.items;
  count : l.tally.count ≡ event_count l.actor (reverse l.yielded);
  last : l.tally.last ≡ last_event_of l.actor (reverse l.yielded);
  within : l.tally.count ≤ length l.yielded;
}
