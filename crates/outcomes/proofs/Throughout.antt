-- What is watched for nothing: 0 in the states that were visited is 0 wherever an order leads.
use Rattle.std.specs.Prelude.{◌≡◌, ℕ, zero, suc, ◌+◌, ◌<◌, ◌==◌, Bool, true, false, ◌&&◌, List, [], ◌∷◌, length}
use Rattle.std.specs.Prelude.{map, take, Some, option_map, slice_get, slice_index_or}
use Rattle.std.specs.List.{list_all}
use Rattle.std.proofs.Common.{◌∙◌, refl, sym, ap, subst, arith, inl, inr, get_or}
use Rattle.std.proofs.lemmas.Bool.{cases_Bool, Decides.nat_tests}
use Rattle.std.proofs.lemmas.List.{length-map}
use Rattle.std.proofs.lemmas.List.Folds.{list_all_at, list_all_more}
use Rattle.std.proofs.lemmas.Option.{slice_get-map, get_or_from_slice_get}
use Rattle.std.proofs.Math.Path.{fun_ext}
use Rattle.smt_model.specs.{Setup.Setup, Plain.Plain, Plain.start, Bytes.number_at}
use Rattle.smt_laws.proofs.Done.{some_one}
use Rattle.outcome_laws.proofs.{Known.starts_as_coded, Seen.each_memory_is_visited}
use Rattle.searches.specs.{Found.Found as Graph, Found.IsGraph}
use Rattle.condensed_machine.specs.{Machine.Machine, Machine.IsSound as IsSoundProgram, Decoded.state_of}
use Rattle.condensed_machine.specs.Steps.{Steps, HasBegun}
use Rattle.condensed_machine.specs.declared.{begun.Begun.Begun, state.State.State, way.Way.Way}
use Rattle.watched_outcomes.specs.declared.{watch.Watch.Watch, watch.WatchedBytes.WatchedBytes}
use Rattle.watched_outcomes.specs.{Endings.word_in, Watching.bytes_of}
use Rattle.outcomes.specs.{Collected.is_zero, Collected.is_unwritten, Found.IsUnwrittenTold, Found.AreUnwrittenTold}
use Rattle.outcomes.specs.Told.{order_at}
use Rattle.outcomes.proofs.Graph.{watched, tables, visited, good, enough, start_settles, state_at, reached}

-- ---- Tests of all members

-- the member at an index that is inside
member : {X : Type 0} (xs : List X) (i : ℕ) → i < length xs → (x : X) × (slice_get xs i ≡ Some x)
    × ((d : X) → get_or xs i d ≡ x)
member [] i inside = absurd (omega arith)
member (x ∷ xs) zero inside = (x, refl, λ d. refl)
member (x ∷ xs) (suc i) inside = member xs i (omega arith)

-- a test fails at a member, or holds of all so far
pub fails_at : {X : Type 0} (p : X → Bool) (xs : List X) (i n : ℕ) (b : Bool) → i < n → n ≡ length xs
    → ((x : X) → slice_get xs i ≡ Some x → b ≡ p x) → b ≡ false → false ≡ list_all p xs
fails_at p xs i n b below count is fails =
    let inside : i < length xs = omega (arith, below, count) in
    let one = member xs i inside in
    sym (list_all_at p xs i one.0 inside (ap p (one.2 one.0) ∙ (sym (is one.0 one.1) ∙ fails)))

pub holds_so_far : {X : Type 0} (p : X → Bool) (xs : List X) (i n : ℕ) (b : Bool) → i < n → n ≡ length xs
    → ((x : X) → slice_get xs i ≡ Some x → b ≡ p x) → b ≡ true → list_all p (take i xs) ≡ true
    → list_all p (take (i + 1) xs) ≡ true
holds_so_far p xs i n b below count is holds before =
    let inside : i < length xs = omega (arith, below, count) in
    let one = member xs i inside in
    let this : p (get_or xs i one.0) ≡ true = ap p (one.2 one.0) ∙ (sym (is one.0 one.1) ∙ holds) in
    list_all_more p xs i one.0 inside ∙ rw (before, this) refl

both_parts : (a b : Bool) → (a && b) ≡ true → (a ≡ true) × (b ≡ true)
both_parts true b both = (refl, both)
both_parts false b both = absurd (grind arith)

-- what holds of all holds of each
each_holds : {X : Type 0} (p : X → Bool) (xs : List X) (k : ℕ) (x : X) → list_all p xs ≡ true
    → slice_get xs k ≡ Some x → p x ≡ true
each_holds p [] k x all at = absurd (grind (arith, at))
each_holds p (y ∷ ys) zero x all at = subst (λ z. p z ≡ true) (some_one y x at) (both_parts (p y) (list_all p ys) all).0
each_holds p (y ∷ ys) (suc k) x all at = each_holds p ys k x (both_parts (p y) (list_all p ys) all).1 at

-- what doesn't hold of all fails at one
one_fails : {X : Type 0} (p : X → Bool) (xs : List X) → list_all p xs ≡ false
    → (k : ℕ) × (x : X) × (slice_get xs k ≡ Some x) × (p x ≡ false)
one_fails p [] all = absurd (grind (arith, all))
one_fails p (y ∷ ys) all =
    elim (cases_Bool (p y)) [
      | inl holds ↦
          let rest = one_fails p ys (subst (λ b. (b && list_all p ys) ≡ false) holds all) in
          (suc rest.0, rest.1, rest.2, rest.3)
      | inr fails ↦ (0, y, refl, fails)
    ]

differs : (n : ℕ) → (n == 0) ≡ false → n ≡ 0 → ⊥
differs zero fails none = grind (arith, fails)
differs (suc n) fails none = omega (arith, none)

-- ---- Wherever an order leads

module _ (setup : Setup) (m : Machine) (begun : Begun) (graph_of : Graph State Way) (sound : IsSoundProgram m.program)
    (graph : IsGraph (Steps m) m.program.harts begun.state graph_of) (begins : HasBegun m begun)
    (image : setup.image ≡ m.program.image) (harts : setup.harts ≡ m.program.harts) where
  zero_throughout : (w : WatchedBytes) → is_unwritten m graph_of.states w ≡ true → IsUnwrittenTold setup w true
  zero_throughout w all order s leads =
      let seen = each_memory_is_visited setup (watched setup m begun graph_of sound graph begins image harts)
      (tables setup m begun graph_of sound graph begins image harts)
      (good setup m begun graph_of sound graph begins image harts)
      (visited setup m begun graph_of sound graph begins image harts)
      (enough setup m begun graph_of sound graph begins image harts) 0 (start setup)
      (starts_as_coded setup (tables setup m begun graph_of sound graph begins image harts))
      (start_settles setup m begun graph_of sound graph begins image harts) order s leads in
      let t = state_at setup m begun graph_of sound graph begins image harts seen.reached.place seen.state seen.reached.at in
      let is : is_zero m w t.0 ≡ true = each_holds (is_zero m w) graph_of.states seen.reached.place t.0 all t.1 in
      let none : word_in (state_of m t.0) w ≡ 0 = grind (arith, nat_tests, is) in
      ap (λ (b : ℕ → ℕ). number_at b w.address (bytes_of w.width)) (fun_ext (λ a. seen.bytes a refl))
      ∙ (ap (λ (p : Plain). word_in p w) (sym t.2) ∙ none)

  other_somewhere : (w : WatchedBytes) → is_unwritten m graph_of.states w ≡ false → IsUnwrittenTold setup w false
  other_somewhere w all =
      let one = one_fails (is_zero m w) graph_of.states all in
      let z = reached setup m begun graph_of sound graph begins image harts one.0 one.1 one.2 in
      let same : word_in z.state w ≡ word_in (state_of m one.1) w =
      ap (λ (b : ℕ → ℕ). number_at b w.address (bytes_of w.width)) (fun_ext z.alike.bytes) in
      let fails : (word_in (state_of m one.1) w == 0) ≡ false = one.3 in (
        order_at m.rows begun.ways m.program.harts graph_of.origins one.0,
        z.state,
        z.leads,
        λ none. differs (word_in (state_of m one.1) w) fails (sym same ∙ none),
      )

  told_of_each : (w : WatchedBytes) (b : Bool) → is_unwritten m graph_of.states w ≡ b → IsUnwrittenTold setup w b
  told_of_each w true is = zero_throughout w is
  told_of_each w false is = other_somewhere w is

  pub unwritten_told : (watch : Watch) (unwritten : List Bool)
      → unwritten ≡ map (is_unwritten m graph_of.states) watch.words.items → AreUnwrittenTold setup watch unwritten
  unwritten_told watch unwritten are = record {
    long = ap length are ∙ length-map watch.words.items (is_unwritten m graph_of.states);
    each = λ k w at.
        told_of_each w (slice_index_or unwritten k false)
        (sym (ap (λ (bs : List Bool). slice_index_or bs k false) are
        ∙ get_or_from_slice_get (map (is_unwritten m graph_of.states) watch.words.items) k
        (is_unwritten m graph_of.states w) false (slice_get-map (is_unwritten m graph_of.states) watch.words.items k
        ∙ ap (option_map (is_unwritten m graph_of.states)) at)));
  }
