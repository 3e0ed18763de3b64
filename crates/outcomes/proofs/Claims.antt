-- What is claimed of all that a search has found, or of a part.
use Rattle.std.specs.Prelude.{◌≡◌, ℕ, Bool, List, Option, Contains, map, option_map, length}
use Rattle.std.proofs.Common.{sym, subst}
use Rattle.smt_laws.proofs.Sequential.{sequential}
use Rattle.outcome_laws.proofs.Paths.{runs_are_paths}
use Rattle.smt_model.specs.{Setup.Setup}
use Rattle.searches.specs.declared.extent.Extent.{Extent}
use Rattle.searches.specs.declared.extent.Extent.TheVariants.{Whole, Beyond}
use Rattle.searches.specs.{Found.Found as Graph, Found.IsExplored, Found.IsPart, Found.moves_at, Ending.IsLeastStuck}
use Rattle.searches.proofs.Places.{contains_at, place_of}
use Rattle.condensed_machine.specs.{Machine.Machine, Machine.IsSound as IsSoundProgram}
use Rattle.condensed_machine.specs.{Decoded.Knows, Distinct.AreDistinct}
use Rattle.condensed_machine.specs.Steps.{Steps, HasBegun}
use Rattle.condensed_machine.specs.declared.{begun.Begun.Begun, state.State.State, way.Way.Way}
use Rattle.outcomes.specs.declared.{listed.Listed.Listed}
use Rattle.watched_outcomes.specs.declared.{watch.Watch.Watch}
use Rattle.watched_outcomes.specs.{Watching.AreThere}
use Rattle.outcomes.specs.{Reached.ReachesMany, Refusals.AreWatched, Refusals.IsBeyond, Parts.IsListing}
use Rattle.outcomes.specs.Collected.{is_unwritten, AreOutcomes}
use Rattle.outcomes.specs.Found.{Found, IsExactList}
use Rattle.outcomes.specs.Told.{told_of, order_at}
use Rattle.outcomes.proofs.{Telling.all_told, Cores.covers_cores, Counting.reaches_many}
use Rattle.outcomes.proofs.Sound.{part_of, each_sound}

module _ (m : Machine) (begun : Begun) (graph_of : Graph State Way) (sound : IsSoundProgram m.program)
    (begins : HasBegun m begun) (budget : ℕ) (extent : Extent)
    (explored : IsExplored (Steps m) m.program.harts begun.state budget graph_of extent)
    (watch : Watch) (marked : AreWatched m.program.watched watch) (there : AreThere m.program.harts watch)
    (listed : List Listed) (outcomes : AreOutcomes m watch graph_of.states graph_of.ends listed)
    (stuck : Option ℕ) (least : extent ≡ Whole → IsLeastStuck graph_of stuck) (unwritten : List Bool)
    (are : extent ≡ Whole → unwritten ≡ map (is_unwritten m graph_of.states) watch.words.items)
    (n : ℕ) (same : n ≡ m.program.harts) (known : (s : State) → Contains graph_of.states s → Knows m s)
    (distinct : AreDistinct m) where
  abbrev found_by : List (List ℕ) → Found
  found_by rows = record {
    extent = extent;
    listed = map (told_of rows begun.ways n graph_of.origins) listed;
    states = length graph_of.states;
    stuck = option_map (order_at rows begun.ways n graph_of.origins) stuck;
    unwritten = unwritten;
  }

  abbrev found : Found
  found = found_by m.rows

  exact : extent ≡ Whole → (setup : Setup) → setup.image ≡ m.program.image → setup.harts ≡ m.program.harts
      → IsExactList setup watch found
  exact is setup image harts =
      let whole = subst (IsExplored (Steps m) m.program.harts begun.state budget graph_of) is explored in
      all_told setup m begun graph_of sound whole.0 begins image harts watch marked there listed outcomes stuck
      (least is) unwritten (are is) whole.1 extent n same

  part : IsPart (Steps m) m.program.harts begun.state graph_of
  part = part_of (Steps m) m.program.harts begun.state budget graph_of extent explored

  first_known : Knows m begun.state
  first_known = known begun.state (contains_at graph_of.states 0 begun.state part.first)

  count : (setup : Setup) → setup.image ≡ m.program.image → setup.harts ≡ m.program.harts
      → ReachesMany setup (length graph_of.states)
  count setup image harts =
      reaches_many setup m begun sound begins image harts first_known distinct graph_of.states part.different
      (λ t at.
      let place = place_of graph_of.states t at in
      (moves_at graph_of.origins place.0, part.moved place.0 t place.1))

  beyond : extent ≡ Beyond → IsBeyond m.program.image m.program.harts budget
  beyond is setup image harts =
      let more = (subst (IsExplored (Steps m) m.program.harts begun.state budget graph_of) is explored).1 in (
        length more.0,
        more.2,
        reaches_many setup m begun sound begins image harts first_known distinct more.0 more.1 more.3,
      )

  listing_of : IsListing m.program.image m.program.harts watch budget found
  listing_of = record {
    sound = λ setup image harts.
        each_sound setup m begun sound begins image harts graph_of
        part watch marked there listed outcomes.each n same;
    all = exact;
    cores = λ is setup image harts.
        covers_cores sequential runs_are_paths setup watch found
        (subst (λ k. AreThere k watch) (sym harts) there) (exact is setup image harts).complete;
    count = count;
    beyond = beyond;
  }

  -- So it is for whoever has the machine's rows.
  pub listing : (rows : List (List ℕ)) → rows ≡ m.rows
      → IsListing m.program.image m.program.harts watch budget (found_by rows)
  listing rows same_rows =
      subst (λ them. IsListing m.program.image m.program.harts watch budget (found_by them)) (sym same_rows) listing_of
