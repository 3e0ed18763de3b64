-- The moves of a search lead to its states, and to ends where it lists them, be they all or some.
use Rattle.std.specs.Prelude.{◌≡◌, ◌⊎◌, ℕ, ◌<◌, Bool, true, false, ◌&&◌, nat_lt, List, [], ◌∷◌, ◌++◌, Some}
use Rattle.std.specs.Prelude.{slice_get, Contains}
use Rattle.std.proofs.Common.{refl, sym, subst, inl, inr, arith}
use Rattle.std.proofs.lemmas.Bool.{cases_Bool, Decides.nat_tests}
use Rattle.std.proofs.lemmas.List.{append-nil, append_assoc}
use Rattle.smt_model.specs.{Setup.Setup, Plain.Plain, Plain.start}
use Rattle.outcome_laws.specs.{Paths.can_step, Paths.path, Paths.IsEnd, Tables.Tables, Tables.IsTables}
use Rattle.outcome_laws.specs.Search.{IsReached}
use Rattle.outcome_laws.proofs.Known.{coded_local, starts_as_coded}
use Rattle.outcome_laws.proofs.Search.{local_leads, what_settles_is_reached}
use Rattle.searches.specs.Found.{Found, IsPart, moves_at}
use Rattle.searches.specs.{Orders.Leads}
use Rattle.searches.specs.declared.{moves.Move.Move}
use Rattle.searches.proofs.Places.{same_element}
use Rattle.condensed_machine.specs.{Machine.Machine, Machine.IsSound, Machine.tables_of, Resting.is_watched}
use Rattle.condensed_machine.specs.{Decoded.state_of}
use Rattle.condensed_machine.specs.Steps.{Steps, MakesStep, HasBegun, turns, local_steps}
use Rattle.condensed_machine.specs.declared.{begun.Begun.Begun, state.State.State, way.Way.Way}
use Rattle.outcomes.specs.{Told.moved, Told.order_at}

none_behind : (a b : Bool) → a ≡ false → (a && b) ≡ false
none_behind true b is = absurd (grind arith)
none_behind false b is = refl

module _ (setup : Setup) (m : Machine) (begun : Begun) (sound : IsSound m.program) (begins : HasBegun m begun)
    (image : setup.image ≡ m.program.image) (harts : setup.harts ≡ m.program.harts) where
  abbrev pub watched : ℕ → Bool
  watched = is_watched m.program.watched

  abbrev pub tables : Tables
  tables = tables_of m.program

  pub good : IsTables setup.image tables
  good = subst (λ i. IsTables i tables) (sym image) sound.tables

  abbrev Reached : Plain → List ℕ → State → Type 0
  Reached from order t = IsReached setup watched tables from order (state_of m t)

  -- Hart h's turn, and the local steps behind it.
  abbrev pub step_by : ℕ → Way → List ℕ
  step_by h way = h ∷ local_steps m.rows m.program.harts h way

  pub step_reached : (from : Plain) (order : List ℕ) (s u : State) (h : ℕ) (way : Way) → Reached from order s
      → MakesStep setup m s h (record { state = u; way = way }) → Reached from (order ++ step_by h way) u
  step_reached from order s u h way reached made =
      subst (λ o. Reached from (order ++ h ∷ o) u) made.leads.by
      (what_settles_is_reached setup watched tables good from order (state_of m s) (state_of m u) h reached made.can
      made.fits made.leads.settles)

  by_moves : (from : Plain) (moves : List (Move Way)) (order : List ℕ) (s t : State) → Reached from order s
      → Leads (Steps m) s moves t → Reached from (order ++ moved m.rows m.program.harts moves) t
  by_moves from [] order s t reached same =
      subst (λ o. Reached from o t) (sym (append-nil order)) (subst (Reached from order) same reached)
  by_moves from (move ∷ moves) order s t reached leads =
      let one = step_reached from order s leads.0 move.hart move.way reached (leads.1 setup image harts) in
      subst (λ o. Reached from o t) (append_assoc order (step_by move.hart move.way) (moved m.rows m.program.harts moves))
      (by_moves from moves (order ++ step_by move.hart move.way) leads.0 t one leads.2)

  start_reached : Reached (start setup) (turns begun.ways m.program.harts) begun.state
  start_reached =
      let by = begins.leads setup image harts in
      let settles = by.settles in
      record {
        state = settles.there;
        leads = subst (λ o. path setup o (start setup) ≡ Some settles.there) by.by
            (local_leads setup tables settles.order (start setup) settles.there settles.local);
        coded = coded_local setup tables good settles.order (start setup) settles.there (starts_as_coded setup tables)
            settles.local;
        alike = settles.alike;
      }

  pub reached_by : (moves : List (Move Way)) (t : State) → Leads (Steps m) begun.state moves t
      → Reached (start setup) (turns begun.ways m.program.harts ++ moved m.rows m.program.harts moves) t
  reached_by moves t leads =
      by_moves (start setup) moves (turns begun.ways m.program.harts) begun.state t start_reached leads

  -- ---- Of a part

  module _ (found : Found State Way) (part : IsPart (Steps m) m.program.harts begun.state found) where
    pub part_reached : (k : ℕ) (t : State) → slice_get found.states k ≡ Some t
        → Reached (start setup) (order_at m.rows begun.ways m.program.harts found.origins k) t
    part_reached k t at = reached_by (moves_at found.origins k) t (part.moved k t at)

    pub part_end : (k : ℕ) (t : State) → slice_get found.states k ≡ Some t → Contains found.ends k
        → IsEnd setup (state_of m t)
    part_end k t at listed h = by (cases_Bool (nat_lt h setup.harts))
      where
        by : (nat_lt h setup.harts ≡ true) ⊎ (nat_lt h setup.harts ≡ false) → can_step setup h (state_of m t) ≡ false
        by (inl inside) =
            let e = part.end k listed in
            let same : e.0 ≡ t = same_element found.states k e.0 t e.1 at in
            let below : h < found.harts = grind (arith, nat_tests, harts, part.all_harts) in
            subst (λ s. can_step setup h (state_of m s) ≡ false) same (e.2 h below setup image harts)
        by (inr outside) = none_behind (nat_lt h setup.harts) _ outside
