use Rattle.std.specs.Prelude.{◌≡◌, ◌++◌}
use Rattle.refused_traces.proofs.explaining.listed.Given as goal

-- the events so far are in the list, and those to come are the rest of the history
abbrev pub invariant-loop-event : goal.invariant-loop-event
invariant-loop-event l = record {
  whole : l.yielded ++ l.event-iterator ≡ l.history.items;
  listed : l.events.items ≡ l.yielded;
}
