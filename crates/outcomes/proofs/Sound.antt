-- Each outcome that is listed has its order, be the search whole or not.
use Rattle.std.specs.Prelude.{◌≡◌, ◌≢◌, ℕ, ◌<◌, List, Option, Some, None, AllPairs, Contains, map}
use Rattle.std.proofs.Common.{◌∙◌, sym, ap, subst, arith}
use Rattle.smt_model.specs.{Setup.Setup, Plain.Plain, Plain.start}
use Rattle.outcome_laws.proofs.Search.{flip}
use Rattle.outcome_laws.proofs.Settling.{end_alike}
use Rattle.searches.specs.declared.step.Step.{Step}
use Rattle.searches.specs.declared.extent.Extent.{Extent}
use Rattle.searches.specs.declared.extent.Extent.TheVariants.{Whole, Beyond, First}
use Rattle.searches.specs.{Found.Found as Graph, Found.IsGraph, Found.IsPart, Found.IsEdge, Found.edge_at}
use Rattle.searches.specs.Found.{IsExplored, IsToldFor, IsEndAt}
use Rattle.searches.proofs.Places.{element_at}
use Rattle.condensed_machine.specs.{Machine.Machine, Machine.IsSound as IsSoundProgram, Decoded.state_of}
use Rattle.condensed_machine.specs.Steps.{Steps, HasBegun}
use Rattle.condensed_machine.specs.declared.{begun.Begun.Begun, state.State.State, way.Way.Way}
use Rattle.outcomes.specs.declared.{listed.Listed.Listed}
use Rattle.watched_outcomes.specs.declared.{watch.Watch.Watch}
use Rattle.outcomes.specs.{Refusals.AreWatched}
use Rattle.watched_outcomes.specs.{Endings.Ending, Endings.ending_of, Watching.AreThere}
use Rattle.outcomes.specs.Collected.{IsOfEnd, AreOutcomes, IsAskedAt}
use Rattle.outcomes.specs.Found.{Told, EndsSo}
use Rattle.outcomes.specs.Told.{told_of, order_at}
use Rattle.outcomes.proofs.{Listing.contains_map, Listing.mapped_from, Endings.alike_ends}
use Rattle.outcomes.proofs.Reaching.{watched, tables, part_reached, part_end}

-- A graph is a part of itself.
module _ {S W : Type 0} (Steps : S → ℕ → Option (Step S W) → Type 0) (harts : ℕ) (start : S) (found : Graph S W)
    (different : AllPairs (λ (s t : S). s ≢ t) found.states) (graph : IsGraph Steps harts start found) where
  none_of : (s : S) (h : ℕ) (edge : Option ℕ) → edge ≡ None → IsEdge Steps found s h edge → Steps s h None
  none_of s h None e is = is
  none_of s h (Some q) e is = absurd (grind (arith, e))

  end_of : (k : ℕ) → Contains found.ends k → IsEndAt Steps found k
  end_of k is =
      let e = (graph.end k).0 is in
      let s = element_at found.states k e.0 in (
        s.0,
        s.1,
        λ h below.
            let b : h < harts = subst (λ n. h < n) graph.all_harts below in
            none_of s.0 h (edge_at found k h) (e.1 h b) (graph.along k h s.0 s.1 b),
      )

  pub part_of_graph : IsPart Steps harts start found
  part_of_graph = record {
    all_harts = graph.all_harts;
    first = graph.first;
    different = different;
    origin = λ k t at. let o = graph.origin k t at in (o.0, o.1, o.2);
    end = end_of;
    moved = graph.moved;
  }

-- What was explored is part of the graph.
pub part_of : {S W : Type 0} (Steps : S → ℕ → Option (Step S W) → Type 0) (harts : ℕ) (start : S) (budget : ℕ)
    (found : Graph S W) (extent : Extent) → IsExplored Steps harts start budget found extent
    → IsPart Steps harts start found
part_of Steps harts start budget found Whole is = part_of_graph Steps harts start found is.1 is.0
part_of Steps harts start budget found Beyond is = is.0
part_of Steps harts start budget found First is = is

module _ (setup : Setup) (m : Machine) (begun : Begun) (sound : IsSoundProgram m.program) (begins : HasBegun m begun)
    (image : setup.image ≡ m.program.image) (harts : setup.harts ≡ m.program.harts)
    (found : Graph State Way) (part : IsPart (Steps m) m.program.harts begun.state found)
    (watch : Watch) (marked : AreWatched m.program.watched watch) (there : AreThere m.program.harts watch)
    (listed : List Listed)
    (each : (l : Listed) → Contains listed l → IsOfEnd m watch found.states found.ends l) where
  same_harts : (s : Plain) → ending_of setup.harts watch s ≡ ending_of m.program.harts watch s
  same_harts s = ap (λ n. ending_of n watch s) harts

  ends_so : (l : Listed) → IsOfEnd m watch found.states found.ends l
      → EndsSo setup watch (order_at m.rows begun.ways m.program.harts found.origins l.place) l.outcome
  ends_so l end =
      let z = part_reached setup m begun sound begins image harts found part l.place end.state end.at in
      record {
        last = z.state;
        leads = z.leads;
        is_end = end_alike setup (watched setup m begun sound begins image harts)
            (tables setup m begun sound begins image harts) (state_of m end.state) z.state
            (flip (watched setup m begun sound begins image harts) (tables setup m begun sound begins image harts)
            z.state (state_of m end.state) z.alike)
            (part_end setup m begun sound begins image harts found part l.place end.state end.at end.is_end);
        is = end.is
            ∙ (sym (alike_ends m.program.harts m.program.harts m.program.watched
            (tables setup m begun sound begins image harts) watch z.state (state_of m end.state) marked there z.alike)
            ∙ sym (same_harts z.state));
      }

  pub sound_told : (t : Told) → Contains (map (told_of m.rows begun.ways m.program.harts found.origins) listed) t
      → EndsSo setup watch t.order t.ending
  sound_told t c =
      let from = mapped_from (told_of m.rows begun.ways m.program.harts found.origins) listed t c in
      subst (λ (t : Told). EndsSo setup watch t.order t.ending) from.2 (ends_so from.0 (each from.0 from.1))

-- It is so for whoever counts the harts alike.
pub each_sound : (setup : Setup) (m : Machine) (begun : Begun) → IsSoundProgram m.program → HasBegun m begun
    → setup.image ≡ m.program.image → setup.harts ≡ m.program.harts → (found : Graph State Way)
    → IsPart (Steps m) m.program.harts begun.state found → (watch : Watch) → AreWatched m.program.watched watch
    → AreThere m.program.harts watch → (listed : List Listed)
    → ((l : Listed) → Contains listed l → IsOfEnd m watch found.states found.ends l) → (n : ℕ) → n ≡ m.program.harts
    → (t : Told) → Contains (map (told_of m.rows begun.ways n found.origins) listed) t → EndsSo setup watch t.order t.ending
each_sound setup m begun sound begins image harts found part watch marked there listed each n same =
    subst (λ k. (t : Told) → Contains (map (told_of m.rows begun.ways k found.origins) listed) t
    → EndsSo setup watch t.order t.ending) (sym same)
    (sound_told setup m begun sound begins image harts found part watch marked there listed each)

-- The end that is asked for is listed.
pub asked_told : (Asks : Ending → Type 0) (m : Machine) (watch : Watch) (found : Graph State Way) (extent : Extent)
    (listed : List Listed) → AreOutcomes m watch found.states found.ends listed
    → IsToldFor (IsAskedAt Asks m watch) found extent → (tell : Listed → Told)
    → ((l : Listed) → (tell l).ending ≡ l.outcome) → extent ≡ First
    → (t : Told) × Contains (map tell listed) t × Asks t.ending
asked_told Asks m watch found extent listed outcomes told tell tells is =
    let end = subst (IsToldFor (IsAskedAt Asks m watch) found) is told in
    let has = outcomes.all end.0 end.1 end.2 end.3 in (
      tell has.0,
      contains_map tell listed has.0 has.1,
      subst Asks (sym (tells has.0 ∙ has.2)) end.4,
    )
