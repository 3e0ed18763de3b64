-- What is told of a search.
use Rattle.std.specs.Prelude.{◌≡◌, ◌<◌, IfSome, length, map}
use Rattle.searches.specs.{Found.Found as Graph, Ending.IsLeastStuck}
use Rattle.searches.specs.declared.extent.Extent.{Extent}
use Rattle.searches.specs.declared.extent.Extent.TheVariants.{Whole}
use Rattle.condensed_machine.specs.Machine.{Machine}
use Rattle.condensed_machine.specs.declared.{state.State.State, way.Way.Way}
use Rattle.watched_outcomes.specs.declared.watch.Watch.{Watch}
use Rattle.outcomes.specs.{Collected.AreOutcomes, Collected.is_unwritten, Lists.AreOnce}
use Rattle.outcomes.specs.declared.ends.Ends.{Ends}

-- The outcomes of its ends are listed, each once. Where it was whole it is told which state comes first that has no way to
-- an end, and of each place that is watched whether 0 is there in all states. The state is there, if one is told.
pub record AreEnds (m : Machine) (watch : Watch) (found : Graph State Way) (extent : Extent) (ends : Ends)
    : Type 0 where
  pub outcomes : AreOutcomes m watch found.states found.ends ends.listed.items
  pub once : AreOnce ends.listed.items
  pub stuck : extent ≡ Whole → IsLeastStuck found ends.stuck
  pub inside : IfSome ends.stuck (λ place. place < length found.states)
  pub unwritten : extent ≡ Whole → ends.unwritten.items ≡ map (is_unwritten m found.states) watch.words.items
