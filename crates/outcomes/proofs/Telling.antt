-- What a search has found is all that there is.
use Rattle.std.specs.Prelude.{◌≡◌, ◌≢◌, ℕ, Bool, List, Option, AllPairs, map, option_map, length}
use Rattle.std.proofs.Common.{◌∙◌, sym, ap, subst}
use Rattle.smt_model.specs.{Setup.Setup, Plain.Plain, Plain.start}
use Rattle.outcome_laws.specs.Paths.{IsEnd}
use Rattle.outcome_laws.proofs.Known.{starts_as_coded}
use Rattle.outcome_laws.proofs.Settling.{end_alike, every_end_is_visited}
use Rattle.searches.specs.declared.extent.Extent.{Extent}
use Rattle.searches.specs.{Found.Found as Graph, Found.IsGraph, Ending.IsLeastStuck}
use Rattle.condensed_machine.specs.{Machine.Machine, Machine.IsSound as IsSoundProgram, Decoded.state_of}
use Rattle.condensed_machine.specs.Steps.{Steps, HasBegun}
use Rattle.condensed_machine.specs.declared.{begun.Begun.Begun, state.State.State, way.Way.Way}
use Rattle.outcomes.specs.declared.{listed.Listed.Listed}
use Rattle.watched_outcomes.specs.declared.{watch.Watch.Watch}
use Rattle.outcomes.specs.{Lists.HasEnding, Refusals.AreWatched}
use Rattle.watched_outcomes.specs.{Endings.Ending, Endings.ending_of, Watching.AreThere}
use Rattle.outcomes.specs.Collected.{ending_at, is_unwritten, AreOutcomes}
use Rattle.outcomes.specs.Found.{Found, HasOutcome, ListsAll, IsSound, IsExactList}
use Rattle.outcomes.specs.Told.{told_of, order_at}
use Rattle.outcomes.proofs.{Listing.contains_map, Endings.alike_ends, Throughout.unwritten_told}
use Rattle.outcomes.proofs.Graph.{watched, tables, good, visited, enough, start_settles, state_at, is_listed}
use Rattle.outcomes.proofs.Graph.{stuck_told}
use Rattle.outcomes.proofs.Sound.{sound_told, part_of_graph}

module _ (setup : Setup) (m : Machine) (begun : Begun) (graph_of : Graph State Way) (sound : IsSoundProgram m.program)
    (graph : IsGraph (Steps m) m.program.harts begun.state graph_of) (begins : HasBegun m begun)
    (image : setup.image ≡ m.program.image) (harts : setup.harts ≡ m.program.harts)
    (watch : Watch) (marked : AreWatched m.program.watched watch) (there : AreThere m.program.harts watch)
    (listed : List Listed) (outcomes : AreOutcomes m watch graph_of.states graph_of.ends listed)
    (stuck : Option ℕ) (least : IsLeastStuck graph_of stuck) (unwritten : List Bool)
    (are : unwritten ≡ map (is_unwritten m graph_of.states) watch.words.items)
    (different : AllPairs (λ (s t : State). s ≢ t) graph_of.states) (extent : Extent) where
  abbrev found : Found
  found = record {
    extent = extent;
    listed = map (told_of m.rows begun.ways m.program.harts graph_of.origins) listed;
    states = length graph_of.states;
    stuck = option_map (order_at m.rows begun.ways m.program.harts graph_of.origins) stuck;
    unwritten = unwritten;
  }

  same_harts : (s : Plain) → ending_of setup.harts watch s ≡ ending_of m.program.harts watch s
  same_harts s = ap (λ n. ending_of n watch s) harts

  told_outcome : (e : Ending) → HasEnding listed e → HasOutcome found e
  told_outcome e has = (
    told_of m.rows begun.ways m.program.harts graph_of.origins has.0,
    contains_map (told_of m.rows begun.ways m.program.harts graph_of.origins) listed has.0 has.1,
    has.2,
  )

  pub complete : ListsAll setup watch found
  complete order e ends =
      let seen = every_end_is_visited setup (watched setup m begun graph_of sound graph begins image harts)
      (tables setup m begun graph_of sound graph begins image harts)
      (good setup m begun graph_of sound graph begins image harts)
      (visited setup m begun graph_of sound graph begins image harts)
      (enough setup m begun graph_of sound graph begins image harts) 0 (start setup)
      (starts_as_coded setup (tables setup m begun graph_of sound graph begins image harts))
      (start_settles setup m begun graph_of sound graph begins image harts) order ends.last ends.leads ends.is_end in
      let t = state_at setup m begun graph_of sound graph begins image harts seen.reached.place seen.state seen.reached.at in
      let over : IsEnd setup (state_of m t.0) =
      subst (IsEnd setup) (sym t.2)
      (end_alike setup (watched setup m begun graph_of sound graph begins image harts)
      (tables setup m begun graph_of sound graph begins image harts) ends.last seen.state seen.alike ends.is_end) in
      let has = outcomes.all seen.reached.place t.0
      (is_listed setup m begun graph_of sound graph begins image harts seen.reached.place t.0 t.1 over) t.1 in
      let same : ending_at m watch t.0 ≡ e =
      ap (ending_of m.program.harts watch) t.2
      ∙ (sym (alike_ends m.program.harts m.program.harts m.program.watched
      (tables setup m begun graph_of sound graph begins image harts) watch ends.last seen.state marked there seen.alike)
      ∙ (sym (same_harts ends.last) ∙ sym ends.is)) in
      told_outcome e (subst (HasEnding listed) same has)

  pub is_sound : IsSound setup watch found
  is_sound =
      sound_told setup m begun sound begins image harts graph_of
      (part_of_graph (Steps m) m.program.harts begun.state graph_of different graph) watch marked there listed
      outcomes.each

  pub are_all : IsExactList setup watch found
  are_all = record {
    complete = complete;
    sound = is_sound;
    stuck = stuck_told setup m begun graph_of sound graph begins image harts stuck least;
    unwritten = unwritten_told setup m begun graph_of sound graph begins image harts watch unwritten are;
  }

-- It is so for whoever counts the harts alike.
pub all_told : (setup : Setup) (m : Machine) (begun : Begun) (graph_of : Graph State Way) → IsSoundProgram m.program
    → IsGraph (Steps m) m.program.harts begun.state graph_of → HasBegun m begun → setup.image ≡ m.program.image
    → setup.harts ≡ m.program.harts → (watch : Watch) → AreWatched m.program.watched watch
    → AreThere m.program.harts watch → (listed : List Listed)
    → AreOutcomes m watch graph_of.states graph_of.ends listed → (stuck : Option ℕ) → IsLeastStuck graph_of stuck
    → (unwritten : List Bool) → unwritten ≡ map (is_unwritten m graph_of.states) watch.words.items
    → AllPairs (λ (s t : State). s ≢ t) graph_of.states → (extent : Extent)
    → (n : ℕ) → n ≡ m.program.harts
    → IsExactList setup watch (record {
      extent = extent;
      listed = map (told_of m.rows begun.ways n graph_of.origins) listed;
      states = length graph_of.states;
      stuck = option_map (order_at m.rows begun.ways n graph_of.origins) stuck;
      unwritten = unwritten;
    })
all_told setup m begun graph_of sound graph begins image harts watch marked there listed outcomes stuck least unwritten
    are different extent n same =
    subst (λ k. IsExactList setup watch (record {
      extent = extent;
      listed = map (told_of m.rows begun.ways k graph_of.origins) listed;
      states = length graph_of.states;
      stuck = option_map (order_at m.rows begun.ways k graph_of.origins) stuck;
      unwritten = unwritten;
    })) (sym same)
    (are_all setup m begun graph_of sound graph begins image harts watch marked there listed outcomes stuck least
    unwritten are different extent)
