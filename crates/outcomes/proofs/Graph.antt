-- The graph of a search is enough: its ends are all there are, and the orders of its origins lead to its states.
use Rattle.std.specs.Prelude.{◌≡◌, ◌⊎◌, ℕ, zero, suc, ◌<◌, Bool, true, false, ◌&&◌, nat_lt, if◌then◌else◌}
use Rattle.std.specs.Prelude.{List, [], ◌∷◌, ◌++◌, length, Option, Some, None, option_map, slice_get, Contains}
use Rattle.std.proofs.Common.{refl, sym, ap, subst, inl, inr, arith}
use Rattle.std.proofs.lemmas.Bool.{cases_Bool, Decides.nat_tests}
use Rattle.std.proofs.lemmas.Option.{slice_get_within, slice_get_cases}
use Rattle.smt_model.specs.{Setup.Setup, Plain.Plain, Plain.start}
use Rattle.outcome_laws.specs.{Paths.can_step, Paths.IsEnd}
use Rattle.outcome_laws.specs.Tables.{Tables, IsTables, IsAsCoded}
use Rattle.outcome_laws.specs.Search.{Visited, IsWay, GoesOn, IsEnough, HasWay, SettlesAt, IsReached, CanEnd}
use Rattle.outcome_laws.proofs.Known.{coded_alike, starts_as_coded}
use Rattle.outcome_laws.proofs.Search.{self_alike, flip}
use Rattle.outcome_laws.proofs.Settling.{end_alike, no_end_is_reached, each_can_end}
use Rattle.searches.specs.Found.{Found, IsGraph, IsEdge, Follows, edge_at, moves_at}
use Rattle.searches.specs.{Ending.CanEnd as GraphCanEnd, Ending.IsLeastStuck}
use Rattle.searches.proofs.Places.{same_element}
use Rattle.condensed_machine.specs.{Machine.Machine, Machine.IsSound, Machine.tables_of, Resting.is_watched}
use Rattle.condensed_machine.specs.{Decoded.state_of}
use Rattle.condensed_machine.specs.Steps.{Steps, MakesStep, HasBegun, local_steps}
use Rattle.condensed_machine.specs.declared.{begun.Begun.Begun, state.State.State, way.Way.Way}
use Rattle.outcomes.specs.{Told.order_at, Found.IsStuckTold}
use Rattle.outcomes.proofs.Reaching.{step_reached, reached_by}

-- Of the harts below a number one passes a test, or none does.
pub first_such : (test : ℕ → Bool) (n : ℕ)
    → ((h : ℕ) × (h < n) × (test h ≡ true)) ⊎ ((h : ℕ) → h < n → test h ≡ false)
first_such test zero = inr (λ h below. absurd (omega arith))
first_such test (suc n) = by (first_such test n) (cases_Bool (test n))
  where
    by : ((h : ℕ) × (h < n) × (test h ≡ true)) ⊎ ((h : ℕ) → h < n → test h ≡ false)
        → (test n ≡ true) ⊎ (test n ≡ false)
        → ((h : ℕ) × (h < suc n) × (test h ≡ true)) ⊎ ((h : ℕ) → h < suc n → test h ≡ false)
    by (inl one) last = let below = one.1 in inl (one.0, omega arith, one.2)
    by (inr none) (inl last) = inl (n, omega arith, last)
    by (inr none) (inr last) = inr (λ h below. at h below (cases_Bool (nat_lt h n)))
      where
        at : (h : ℕ) → h < suc n → (nat_lt h n ≡ true) ⊎ (nat_lt h n ≡ false) → test h ≡ false
        at h below (inl before) = none h (grind (arith, nat_tests))
        at h below (inr behind) =
            let is : n ≡ h = grind (arith, nat_tests) in
            subst (λ k. test k ≡ false) is last

not_there : {A : Type 0} → (xs : List A) (k : ℕ) → slice_get xs k ≡ None → k < length xs → ⊥
not_there xs k none below =
    elim (slice_get_cases xs k).1 [ inl c ↦ absurd (grind (arith, none, c.2)) | inr c ↦ absurd (omega (arith, c.0)) ]

none_some : {A : Type 0} → (x : A) → None ≡ Some x → ⊥
none_some x same = absurd (grind arith)

both_first : (a b : Bool) → (a && b) ≡ true → a ≡ true
both_first true b both = refl
both_first false b both = absurd (grind arith)

pub none_behind : (a b : Bool) → a ≡ false → (a && b) ≡ false
none_behind true b is = absurd (grind arith)
none_behind false b is = refl

module _ (setup : Setup) (m : Machine) (begun : Begun) (found : Found State Way) (sound : IsSound m.program)
    (graph : IsGraph (Steps m) m.program.harts begun.state found) (begins : HasBegun m begun)
    (image : setup.image ≡ m.program.image) (harts : setup.harts ≡ m.program.harts) where
  abbrev pub watched : ℕ → Bool
  watched = is_watched m.program.watched

  abbrev pub tables : Tables
  tables = tables_of m.program

  abbrev pub visited : Visited
  visited = record {
    at = λ k. option_map (state_of m) (slice_get found.states k);
    edge = λ k h. if nat_lt h setup.harts then edge_at found k h else None;
  }

  pub good : IsTables setup.image tables
  good = subst (λ i. IsTables i tables) (sym image) sound.tables

  below_harts : (h : ℕ) → nat_lt h setup.harts ≡ true → h < m.program.harts
  below_harts h inside = grind (arith, nat_tests, harts)

  pub state_at : (k : ℕ) (s : Plain) → visited.at k ≡ Some s
      → (t : State) × (slice_get found.states k ≡ Some t) × (state_of m t ≡ s)
  state_at k s at = by (slice_get found.states k) refl at
    where
      by : (o : Option State) → slice_get found.states k ≡ o → option_map (state_of m) o ≡ Some s
          → (t : State) × (slice_get found.states k ≡ Some t) × (state_of m t ≡ s)
      by None is none = absurd (grind arith)
      by (Some t) is some = (t, is, cc)

  -- ---- Each step goes on

  goes : (k h : ℕ) (t : State) → can_step setup h (state_of m t) ≡ true → nat_lt h setup.harts ≡ true
      → (e : Option ℕ) → edge_at found k h ≡ e → IsEdge (Steps m) found t h e
      → GoesOn setup watched tables visited k h (state_of m t)
  goes k h t can below None is none =
      let over = none setup image harts in absurd (grind arith)
  goes k h t can below (Some q) is on =
      let made = on.3 setup image harts in
      record {
        place_after = q;
        state = state_of m on.0;
        edge = rw below is;
        at = ap (option_map (state_of m)) on.2;
        fits = made.fits;
        settles = made.leads.settles;
      }

  pub enough : IsEnough setup watched tables visited
  enough k h s at can =
      let t = state_at k s at in
      let can_t : can_step setup h (state_of m t.0) ≡ true = subst (λ z. can_step setup h z ≡ true) (sym t.2) can in
      let below = both_first (nat_lt h setup.harts) _ can in
      subst (GoesOn setup watched tables visited k h) t.2
      (goes k h t.0 can_t below (edge_at found k h) refl (graph.along k h t.0 t.1 (below_harts h below)))

  pub start_settles : SettlesAt setup watched tables visited 0 (start setup)
  start_settles = record {
    state = state_of m begun.state;
    at = ap (option_map (state_of m)) graph.first;
    settles = (begins.leads setup image harts).settles;
  }

  -- ---- Ends

  no_edge : (k h : ℕ) (t : State) → IsEnd setup (state_of m t) → (e : Option ℕ) → edge_at found k h ≡ e
      → IsEdge (Steps m) found t h e → edge_at found k h ≡ None
  no_edge k h t end None is none = is
  no_edge k h t end (Some q) is on =
      let made = on.3 setup image harts in
      let can = made.can in
      let over = end h in
      absurd (grind arith)

  pub is_listed : (k : ℕ) (t : State) → slice_get found.states k ≡ Some t → IsEnd setup (state_of m t)
      → Contains found.ends k
  is_listed k t at end =
      (graph.end k).1 (
        slice_get_within found.states k t at,
        λ h below. no_edge k h t end (edge_at found k h) refl (graph.along k h t at below),
      )

  is_over : (k h : ℕ) (t : State) → edge_at found k h ≡ None → (e : Option ℕ) → edge_at found k h ≡ e
      → IsEdge (Steps m) found t h e → can_step setup h (state_of m t) ≡ false
  is_over k h t none None is over = over setup image harts
  is_over k h t none (Some q) is on = absurd (grind (arith, none, is))

  pub is_end : (k : ℕ) (t : State) → slice_get found.states k ≡ Some t → Contains found.ends k
      → IsEnd setup (state_of m t)
  is_end k t at listed h =
      elim (cases_Bool (nat_lt h setup.harts)) [
        | inl inside ↦
            let below = below_harts h inside in
            is_over k h t (((graph.end k).0 listed).1 h below) (edge_at found k h) refl (graph.along k h t at below)
        | inr outside ↦ none_behind (nat_lt h setup.harts) _ outside
      ]

  -- ---- Orders

  abbrev Reached : Plain → List ℕ → State → Type 0
  Reached from order t = IsReached setup watched tables from order (state_of m t)

  one_more : (from : Plain) (order : List ℕ) (s u : State) (h : ℕ) (way : Way) → Reached from order s
      → MakesStep setup m s h (record { state = u; way = way }) → Reached from (order ++ h ∷ local_steps m.rows m.program.harts h way) u
  one_more = step_reached setup m begun sound begins image harts

  pub reached : (k : ℕ) (t : State) → slice_get found.states k ≡ Some t
      → Reached (start setup) (order_at m.rows begun.ways m.program.harts found.origins k) t
  reached k t at = reached_by setup m begun sound begins image harts (moves_at found.origins k) t (graph.moved k t at)

  -- Code that may not change is what the image has, in each state.
  coded_in : (k : ℕ) (t : State) → slice_get found.states k ≡ Some t → IsAsCoded setup tables (state_of m t)
  coded_in k t at =
      let z = reached k t at in coded_alike setup watched tables z.state (state_of m t) z.alike z.coded

  -- ---- Ways to an end

  edge_made : (k h n : ℕ) (s : State) → edge_at found k h ≡ Some n → (e : Option ℕ) → edge_at found k h ≡ e
      → IsEdge (Steps m) found s h e
      → (u : State) × (w : Way) × (slice_get found.states n ≡ Some u) × MakesStep setup m s h (record { state = u; way = w })
  edge_made k h n s edge None is none = absurd (grind (arith, edge, is))
  edge_made k h n s edge (Some q) is on =
      let same : q ≡ n = cc in
      (on.0, on.1, subst (λ p. slice_get found.states p ≡ Some on.0) same on.2, on.3 setup image harts)

  by_way : (from : Plain) (way : List ℕ) (k q : ℕ) (order : List ℕ) (s t : State) → slice_get found.states k ≡ Some s
      → slice_get found.states q ≡ Some t → Reached from order s → Follows found k way q
      → (more : List ℕ) × Reached from more t
  by_way from [] k q order s t at last so_far same =
      let is : s ≡ t = same_element found.states k s t at (subst (λ p. slice_get found.states p ≡ Some t) (sym same) last) in
      (order, subst (Reached from order) is so_far)
  by_way from (h ∷ way) k q order s t at last so_far follows =
      let below : h < m.program.harts = subst (λ n. h < n) graph.all_harts follows.1 in
      let on = edge_made k h follows.0 s follows.2 (edge_at found k h) refl (graph.along k h s at below) in
      by_way from way follows.0 q (order ++ h ∷ local_steps m.rows m.program.harts h on.1) on.0 t on.2 last
      (one_more from order s on.0 h on.1 so_far on.3) follows.3

  can_end : (k : ℕ) (s : State) → slice_get found.states k ≡ Some s → GraphCanEnd found k → CanEnd setup (state_of m s)
  can_end k s at way =
      let last_inside = ((graph.end way.1).0 way.3).0 in
      by (slice_get found.states way.1) refl last_inside
    where
      by : (o : Option State) → slice_get found.states way.1 ≡ o → way.1 < length found.states
          → CanEnd setup (state_of m s)
      by None is inside = absurd (not_there found.states way.1 is inside)
      by (Some t) is inside =
          let go = by_way (state_of m s) way.0 k way.1 [] s t at is (record {
            state = state_of m s;
            leads = refl;
            coded = coded_in k s at;
            alike = self_alike watched tables (state_of m s);
          }) way.2 in
          let z = go.1 in
          record {
            order = go.0;
            last = z.state;
            leads = z.leads;
            is_end = end_alike setup watched tables (state_of m t) z.state
                (flip watched tables z.state (state_of m t) z.alike) (is_end way.1 t is way.3);
          }

  -- ---- Where no way leads to an end

  way_follows : (way : List ℕ) (k q : ℕ) → IsWay visited k way q → Follows found k way q
  way_follows [] k q same = same
  way_follows (h ∷ way) k q leads =
      by (cases_Bool (nat_lt h setup.harts)) leads.1 (way_follows way leads.0 q leads.2)
    where
      by : (nat_lt h setup.harts ≡ true) ⊎ (nat_lt h setup.harts ≡ false)
          → (if nat_lt h setup.harts then edge_at found k h else None) ≡ Some leads.0 → Follows found leads.0 way q
          → Follows found k (h ∷ way) q
      by (inl inside) edge rest =
          let there : h < found.harts = subst (λ n. h < n) (sym graph.all_harts) (below_harts h inside) in
          let is : edge_at found k h ≡ Some leads.0 = subst (λ b. (if b then edge_at found k h else None) ≡ Some leads.0) inside edge in
          (leads.0, there, is, rest)
      by (inr outside) edge rest =
          absurd (none_some leads.0 (subst (λ b. (if b then edge_at found k h else None) ≡ Some leads.0) outside edge))

  some_steps : (p : ℕ) → (GraphCanEnd found p → ⊥) → (a : Plain) → HasWay visited p a
      → (h : ℕ) × (can_step setup h a ≡ true)
  some_steps p not a way = by (first_such (λ h. can_step setup h a) setup.harts)
    where
      by : ((h : ℕ) × (h < setup.harts) × (can_step setup h a ≡ true)) ⊎ ((h : ℕ) → h < setup.harts → can_step setup h a ≡ false)
          → (h : ℕ) × (can_step setup h a ≡ true)
      by (inl one) = (one.0, one.2)
      by (inr none) =
          let t = state_at way.place a way.at in
          let end : IsEnd setup (state_of m t.0) = subst (IsEnd setup) (sym t.2) (all_over none) in
          absurd (not (way.way, way.place, way_follows way.way p way.place way.leads, is_listed way.place t.0 t.1 end))
        where
          all_over : ((h : ℕ) → h < setup.harts → can_step setup h a ≡ false) → IsEnd setup a
          all_over none h =
              elim (cases_Bool (nat_lt h setup.harts)) [
                | inl inside ↦ none h (grind (arith, nat_tests))
                | inr outside ↦ none_behind (nat_lt h setup.harts) _ outside
              ]

  pub stuck_told : (stuck : Option ℕ) → IsLeastStuck found stuck
      → IsStuckTold setup (option_map (order_at m.rows begun.ways m.program.harts found.origins) stuck)
  stuck_told None each =
      each_can_end setup watched tables good visited enough 0 (start setup) (starts_as_coded setup tables) start_settles
      (λ a way. by a way (state_at way.place a way.at))
    where
      by : (a : Plain) (way : HasWay visited 0 a)
          → (t : State) × (slice_get found.states way.place ≡ Some t) × (state_of m t ≡ a) → CanEnd setup a
      by a way t =
          subst (CanEnd setup) t.2
          (can_end way.place t.0 t.1 (each way.place (slice_get_within found.states way.place t.0 t.1)))
  stuck_told (Some p) least = by (slice_get found.states p) refl
    where
      by : (o : Option State) → slice_get found.states p ≡ o
          → IsStuckTold setup (Some (order_at m.rows begun.ways m.program.harts found.origins p))
      by None is = absurd (not_there found.states p is least.0)
      by (Some t) is =
          let z = reached p t is in (
            z.state,
            z.leads,
            λ can.
                no_end_is_reached setup watched tables good visited enough p z.state z.coded
                (record {
                  state = state_of m t;
                  at = ap (option_map (state_of m)) is;
                  settles = record { order = []; there = z.state; local = refl; alike = z.alike };
                }) (some_steps p least.1) can.order can.last can.leads can.is_end,
          )
