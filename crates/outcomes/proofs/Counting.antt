-- As many states of the plain machine are reached as a search has numbers for them.
use Rattle.std.specs.Prelude.{◌≡◌, ◌≢◌, ℕ, ◌<◌, Bool, true, ◌&&◌, ◌||◌, List, [], ◌∷◌, ◌++◌, AllPairs, Contains}
use Rattle.std.specs.Prelude.{Some, length}
use Rattle.std.proofs.Common.{get_or, zero, suc, refl, sym, ap, subst, ◌∙◌, arith}
use Rattle.smt_model.specs.{Setup.Setup, Plain.Plain, Plain.start, Plain.is_going_status}
use Rattle.outcome_laws.specs.{Paths.path, Live.AreAlike, Live.matters, Live.reservation_matters}
use Rattle.searches.specs.{Orders.Leads, Orders.IsReachable, declared.moves.Move.Move}
use Rattle.condensed_machine.specs.{Machine.Machine, Machine.IsSound, Machine.tables_of, Resting.is_watched}
use Rattle.condensed_machine.specs.{Decoded.state_of, Decoded.Knows, Distinct.AreDistinct, Steps.Steps, Steps.HasBegun}
use Rattle.condensed_machine.specs.{Steps.turns}
use Rattle.condensed_machine.specs.declared.{begun.Begun.Begun, state.State.State, way.Way.Way}
use Rattle.outcomes.specs.{Reached.IsSameState, Reached.AreReached, Reached.ReachesMany, Told.moved}
use Rattle.outcomes.proofs.Reaching.{reached_by}

-- ---- What matters of a state hangs on its pcs and statuses

still_reserved : (kept : ℕ → Bool) (s t : Plain) (h : ℕ) → s.pcs h ≡ t.pcs h → s.statuses h ≡ t.statuses h
    → reservation_matters kept t h ≡ true → reservation_matters kept s h ≡ true
still_reserved kept s t h pcs statuses matter =
    ap (λ status. is_going_status status && kept (s.pcs h)) statuses
    ∙ ap (λ pc. is_going_status (t.statuses h) && kept pc) pcs ∙ matter

still_matters : (watched : ℕ → Bool) (live : ℕ → ℕ → Bool) (s t : Plain) (h r : ℕ) → s.pcs h ≡ t.pcs h
    → s.statuses h ≡ t.statuses h → matters watched live t h r ≡ true → matters watched live s h r ≡ true
still_matters watched live s t h r pcs statuses matter =
    ap (λ status. watched r || (is_going_status status && live (s.pcs h) r)) statuses
    ∙ ap (λ pc. watched r || (is_going_status (t.statuses h) && live pc r)) pcs ∙ matter

module _ (setup : Setup) (m : Machine) (begun : Begun) (sound : IsSound m.program) (begins : HasBegun m begun)
    (image : setup.image ≡ m.program.image) (harts : setup.harts ≡ m.program.harts)
    (known : Knows m begun.state) (distinct : AreDistinct m) where
  abbrev Alike : Plain → Plain → Type 0
  Alike = AreAlike (is_watched m.program.watched) (tables_of m.program)

  -- An order leads to s, and that is what the machine has a number for.
  record IsLed (s : Plain) (t : State) : Type 0 where
    order : List ℕ
    leads : path setup order (start setup) ≡ Some s
    alike : Alike s (state_of m t)
    knows : Knows m t

  known_by : (moves : List (Move Way)) (s t : State) → Knows m s → Leads (Steps m) s moves t → Knows m t
  known_by [] s t knows same = subst (Knows m) same knows
  known_by (move ∷ moves) s t knows leads = known_by moves leads.0 t (leads.1 setup image harts).knows leads.2

  led : (t : State) → IsReachable (Steps m) begun.state t → (s : Plain) × IsLed s t
  led t reach =
      let reached = reached_by setup m begun sound begins image harts reach.0 t reach.1 in (
        reached.state,
        record {
          order = turns begun.ways m.program.harts ++ moved m.rows m.program.harts reach.0;
          leads = reached.leads;
          alike = reached.alike;
          knows = known_by reach.0 begun.state t known reach.1;
        },
      )

  -- States that are one have one number.
  module _ (s u : Plain) (t v : State) (one : IsLed s t) (other : IsLed u v) (same : IsSameState s u) where
    abbrev a : Alike s (state_of m t)
    a = one.alike

    abbrev b : Alike u (state_of m v)
    b = other.alike

    alike : Alike (state_of m t) (state_of m v)
    alike = record {
      pcs = λ h. sym (a.pcs h) ∙ same.pcs h ∙ b.pcs h;
      statuses = λ h. sym (a.statuses h) ∙ same.statuses h ∙ b.statuses h;
      reserved = λ h matter.
          let kept = (tables_of m.program).kept in
          let here = still_reserved kept s (state_of m t) h (a.pcs h) (a.statuses h) matter in
          let there = still_reserved kept u s h (sym (same.pcs h)) (sym (same.statuses h)) here in
          sym (a.reserved h here) ∙ same.reserved h ∙ b.reserved h there;
      bytes = λ addr. sym (a.bytes addr) ∙ same.bytes addr ∙ b.bytes addr;
      output = sym a.output ∙ same.output ∙ b.output;
      registers = λ h r some matter.
          let watched = is_watched m.program.watched in
          let live = (tables_of m.program).live in
          let here = still_matters watched live s (state_of m t) h r (a.pcs h) (a.statuses h) matter in
          let there = still_matters watched live u s h r (sym (same.pcs h)) (sym (same.statuses h)) here in
          sym (a.registers h r some here) ∙ same.registers h r ∙ b.registers h r some there;
    }

    number_same : t ≡ v
    number_same = distinct t v one.knows other.knows alike

  -- ---- Lists of them

  abbrev Each : List State → Type 0
  Each states = (t : State) → Contains states t → IsReachable (Steps m) begun.state t

  later : (t : State) (ts : List State) → Each (t ∷ ts) → Each ts
  later t ts each u at = each u (suc at.0, omega (arith, at.1), at.2)

  first : (t : State) (ts : List State) → Each (t ∷ ts) → IsReachable (Steps m) begun.state t
  first t ts each = each t (0, omega arith, refl)

  abbrev plains : (states : List State) → Each states → List Plain
  plains [] each = []
  plains (t ∷ ts) each = (led t (first t ts each)).0 ∷ plains ts (later t ts each)

  as_many : (states : List State) (each : Each states) → length (plains states each) ≡ length states
  as_many [] each = refl
  as_many (t ∷ ts) each = ap suc (as_many ts (later t ts each))

  each_led : (states : List State) (each : Each states) (i : ℕ) (d : Plain) (e : State) → i < length states
      → IsLed (get_or (plains states each) i d) (get_or states i e)
  unfolding led
  each_led [] each i d e inside = absurd (omega arith)
  each_led (t ∷ ts) each zero d e inside = (led t (first t ts each)).1
  each_led (t ∷ ts) each (suc i) d e inside = each_led ts (later t ts each) i d e (omega arith)

  module _ (states : List State) (different : AllPairs (λ s t. s ≢ t) states) (each : Each states) where
    are_reached : AreReached setup (plains states each)
    are_reached = record {
      different = λ i j d before inside same.
          let within : j < length states = subst (λ n. j < n) (as_many states each) inside in
          different i j begun.state before within
          (number_same (get_or (plains states each) i d) (get_or (plains states each) j d)
          (get_or states i begun.state) (get_or states j begun.state)
          (each_led states each i d begun.state (omega (arith, before, within)))
          (each_led states each j d begun.state within) same);
      reached = λ s at.
          let within : at.0 < length states = subst (λ n. at.0 < n) (as_many states each) at.1 in
          let is = each_led states each at.0 s begun.state within in
          (is.order, subst (λ u. path setup is.order (start setup) ≡ Some u) at.2 is.leads);
    }

    pub reaches_many : ReachesMany setup (length states)
    reaches_many = (plains states each, are_reached, as_many states each)
