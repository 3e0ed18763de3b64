-- Every state to which an order leads settles in one that was visited, and each step from it fits; so what
-- is visited tells every end, and what can end.
use Rattle.std.specs.Prelude.{◌≡◌, ◌⊎◌, ℕ, Bool, true, false, ◌==◌, List, [], ◌∷◌, ◌++◌, Some}
use Rattle.std.proofs.Common.{◌∙◌, refl, sym, ap, subst, inl, inr, arith}
use Rattle.std.proofs.{lemmas.Bool.cases_Bool, lemmas.Bool.Decides.nat_tests}
use Rattle.smt_model.specs.{Setup.Setup, Plain.Plain}
use Rattle.smt_laws.proofs.{Done.some_one}
use Rattle.outcome_laws.specs.Paths.{can_step, stepped, path, IsEnd}
use Rattle.outcome_laws.specs.{Tables.Tables, Tables.IsTables, Tables.IsAsCoded, Local.fits, Local.is_local}
use Rattle.outcome_laws.specs.Live.{AreAlike}
use Rattle.outcome_laws.specs.Search.{IsLocalPath, Visited, IsWay, HasWay, IsEnough, IsBound}
use Rattle.outcome_laws.specs.Search.{EachSettles, EveryEndIsVisited, NoEndIsReached, CanEnd, EachCanEnd}
use Rattle.outcome_laws.proofs.Known.{local_fits, coded_next, coded_local, coded_alike}
use Rattle.outcome_laws.proofs.{Holding.first_of, Local.can_still, Local.own, Staying.commute, Uses.flipped}
use Rattle.outcome_laws.proofs.Live.{alike_states_step_alike}
use Rattle.outcome_laws.proofs.Search.{can_alike, flip, join, self_alike, goes_alike, path_on, local_leads}

-- ---- A step beside local ones

-- A hart's step is the first of some local ones, or none of them; these lead on from it all the same.
record IsBeside (setup : Setup) (tables : Tables) (h : ℕ) (u w there : Plain) : Type 0 where
  order : List ℕ
  local : IsLocalPath setup tables order (stepped setup h u) there

-- Either the local steps come to the same with the hart's step first, or they leave it to be made.
abbrev Beside : Setup → Tables → ℕ → Plain → Plain → Type 0
Beside setup tables h u w =
    IsBeside setup tables h u w w
    ⊎ ((can_step setup h w ≡ true) × IsBeside setup tables h u w (stepped setup h w))

-- If hart h's step fits where local steps lead, it fits before them; or it is one of them, which fit.
fits_before : (setup : Setup) (tables : Tables) → IsTables setup.image tables → (h : ℕ) (order : List ℕ) (u w : Plain)
    → IsAsCoded setup tables u → IsLocalPath setup tables order u w → can_step setup h u ≡ true
    → (can_step setup h w ≡ true → fits setup tables h w ≡ true)
    → fits setup tables h u ≡ true
fits_before setup tables good h [] u w coded same can last =
    subst (λ z. can_step setup h z ≡ true → fits setup tables h z ≡ true) (sym same) last can
fits_before setup tables good h (g ∷ order) u w coded way can last =
    elim (cases_Bool (h == g)) [
      | inl same ↦
          let is : g ≡ h = grind (arith, nat_tests) in
          subst (λ k. fits setup tables k u ≡ true) is (local_fits setup tables g u way.1)
      | inr apart ↦
          own setup tables good g h u apart coded can way.1
          (fits_before setup tables good h order (stepped setup g u) w
          (coded_next setup tables good g u coded (local_fits setup tables g u way.1)) way.2
          (can_still setup g h u apart ∙ can) last)
    ]

behind : (setup : Setup) (tables : Tables) → IsTables setup.image tables → (g h : ℕ) (u w there : Plain)
    → IsAsCoded setup tables u → (h == g) ≡ false → can_step setup g u ≡ true → can_step setup h u ≡ true
    → is_local setup tables g u ≡ true → fits setup tables h u ≡ true
    → IsBeside setup tables h (stepped setup g u) w there → IsBeside setup tables h u w there
behind setup tables good g h u w there coded apart can can_h local fitting rest =
    let both = commute setup tables good g h u apart coded can_h local fitting in
    record {
      order = g ∷ rest.order;
      local = (
        can_still setup h g u (flipped g h apart) ∙ can,
        both.local,
        subst (λ z. IsLocalPath setup tables rest.order z there) both.same rest.local,
      );
    }

beside : (setup : Setup) (tables : Tables) → IsTables setup.image tables → (h : ℕ) (order : List ℕ) (u w : Plain)
    → IsAsCoded setup tables u → IsLocalPath setup tables order u w → can_step setup h u ≡ true
    → (can_step setup h w ≡ true → fits setup tables h w ≡ true)
    → Beside setup tables h u w
beside setup tables good h [] u w coded same can last =
    inr (
      subst (λ z. can_step setup h z ≡ true) same can,
      record { order = []; local = ap (stepped setup h) same },
    )
beside setup tables good h (g ∷ order) u w coded way can last =
    elim (cases_Bool (h == g)) [
      | inl same ↦
          let is : g ≡ h = grind (arith, nat_tests) in
          inl (record {
            order = order;
            local = subst (λ k. IsLocalPath setup tables order (stepped setup k u) w) is way.2;
          })
      | inr apart ↦
          let fitting = fits_before setup tables good h (g ∷ order) u w coded way can last in
          elim (beside setup tables good h order (stepped setup g u) w
          (coded_next setup tables good g u coded (local_fits setup tables g u way.1)) way.2
          (can_still setup g h u apart ∙ can) last) [
            | inl made ↦ inl (behind setup tables good g h u w w coded apart way.0 can way.1 fitting made)
            | inr left ↦
                inr (
                  left.0,
                  behind setup tables good g h u w (stepped setup h w) coded apart way.0 can way.1 fitting left.1,
                )
          ]
    ]

local_then : (setup : Setup) (tables : Tables) (one two : List ℕ) (s u w : Plain) → IsLocalPath setup tables one s u
    → IsLocalPath setup tables two u w → IsLocalPath setup tables (one ++ two) s w
local_then setup tables [] two s u w same way = subst (λ z. IsLocalPath setup tables two z w) (sym same) way
local_then setup tables (h ∷ one) two s u w first way =
    (first.0, first.1, local_then setup tables one two (stepped setup h s) u w first.2 way)

-- ---- Ways

-- One step more at the end of a way.
way_then : (visited : Visited) (p : ℕ) (way : List ℕ) (q h n : ℕ) → IsWay visited p way q
    → visited.edge q h ≡ Some n → IsWay visited p (way ++ h ∷ []) n
way_then visited p [] q h n same edge = (n, subst (λ k. visited.edge k h ≡ Some n) (sym same) edge, refl)
way_then visited p (g ∷ way) q h n leads edge =
    (leads.0, leads.1, way_then visited leads.0 way q h n leads.2 edge)

-- ---- Every state settles

module _ (setup : Setup) (watched : ℕ → Bool) (tables : Tables) (good : IsTables setup.image tables)
    (visited : Visited) (enough : IsEnough setup watched tables visited) (from : ℕ) where
  abbrev Bound : Plain → Type 0
  Bound u = IsBound setup watched tables visited from u

  -- What fits at a visited state fits where one is alike to it.
  fits_there : (h : ℕ) (w a : Plain) → IsAsCoded setup tables w → HasWay visited from a → AreAlike watched tables w a
      → can_step setup h w ≡ true → fits setup tables h w ≡ true
  fits_there h w a coded reached alike can =
      let can_a : can_step setup h a ≡ true = sym (can_alike setup watched tables w a alike h) ∙ can in
      let on = enough reached.place h a reached.at can_a in
      (alike_states_step_alike setup watched tables good a w (coded_alike setup watched tables w a alike coded)
      (flip watched tables w a alike) h can_a on.fits).fits
      ∙ on.fits

  -- So each step fits at a state that settles in a visited one.
  bound_fits : (u : Plain) → IsAsCoded setup tables u → Bound u → (h : ℕ) → can_step setup h u ≡ true
      → fits setup tables h u ≡ true
  bound_fits u coded bound h can =
      let way = bound.settles in
      fits_before setup tables good h way.order u way.there coded way.local can
      (fits_there h way.there bound.state (coded_local setup tables good way.order u way.there coded way.local)
      bound.reached
      way.alike)

  -- A hart's step that isn't among the local ones is made of the visited state too, and settles there.
  further : (h : ℕ) (u w a : Plain) → IsAsCoded setup tables w → HasWay visited from a → AreAlike watched tables w a
      → can_step setup h w ≡ true
      → IsBeside setup tables h u w (stepped setup h w) → Bound (stepped setup h u)
  further h u w a coded reached alike can left =
      let fitting = fits_there h w a coded reached alike can in
      let one = alike_states_step_alike setup watched tables good w a coded alike h can fitting in
      let on = enough reached.place h a reached.at (one.can ∙ can) in
      let settles = on.settles in
      let same = goes_alike setup watched tables good settles.order (stepped setup h a) (stepped setup h w)
      settles.there (coded_next setup tables good h a (coded_alike setup watched tables w a alike coded) on.fits)
      (flip watched tables (stepped setup h w) (stepped setup h a) one.alike) settles.local in
      record {
        state = on.state;
        reached = record {
          place = on.place_after;
          way = reached.way ++ h ∷ [];
          leads = way_then visited from reached.way reached.place h on.place_after reached.leads on.edge;
          at = on.at;
        };
        settles = record {
          order = left.order ++ settles.order;
          there = same.there;
          local = local_then setup tables left.order settles.order (stepped setup h u) (stepped setup h w) same.there
              left.local same.local;
          alike = join watched tables same.there settles.there on.state
              (flip watched tables settles.there same.there same.alike) settles.alike;
        };
      }

  next_settles : (h : ℕ) (u : Plain) → IsAsCoded setup tables u → Bound u → can_step setup h u ≡ true
      → Bound (stepped setup h u)
  next_settles h u coded bound can =
      let way = bound.settles in
      let coded_there = coded_local setup tables good way.order u way.there coded way.local in
      elim (beside setup tables good h way.order u way.there coded way.local can
      (fits_there h way.there bound.state coded_there bound.reached way.alike)) [
        | inl made ↦ record {
          state = bound.state;
          reached = bound.reached;
          settles = record { order = made.order; there = way.there; local = made.local; alike = way.alike };
        }
        | inr left ↦ further h u way.there bound.state coded_there bound.reached way.alike left.0 left.1
      ]

  settles_on : (order : List ℕ) (s u : Plain) → IsAsCoded setup tables s → Bound s → path setup order s ≡ Some u
      → Bound u × IsAsCoded setup tables u
  settles_on [] s u coded bound leads =
      (subst Bound (some_one s u leads) bound, subst (IsAsCoded setup tables) (some_one s u leads) coded)
  settles_on (h ∷ order) s u coded bound leads =
      let split = first_of (can_step setup h s) (path setup order (stepped setup h s)) u leads in
      settles_on order (stepped setup h s) u
      (coded_next setup tables good h s coded (bound_fits s coded bound h split.0))
      (next_settles h s coded bound split.0) split.1

pub each_settles : EachSettles
each_settles setup watched tables good visited enough from s coded begins order u leads =
    let there = settles_on setup watched tables good visited enough from order s u coded (record {
      state = begins.state;
      reached = record { place = from; way = []; leads = refl; at = begins.at };
      settles = begins.settles;
    }) leads in
    (there.0, there.1, bound_fits setup watched tables good visited enough from u there.1 there.0)

-- ---- Every end is visited

-- An end settles by no step.
stays_there : (setup : Setup) (tables : Tables) (order : List ℕ) (e w : Plain) → IsEnd setup e
    → IsLocalPath setup tables order e w → e ≡ w
stays_there setup tables [] e w end same = same
stays_there setup tables (h ∷ order) e w end way =
    let goes = way.0 in
    let over = end h in
    absurd (grind arith)

pub every_end_is_visited : EveryEndIsVisited
every_end_is_visited setup watched tables good visited enough from s coded begins order e leads end =
    let bound = (each_settles setup watched tables good visited enough from s coded begins order e leads).0 in
    let way = bound.settles in
    record {
      state = bound.state;
      reached = bound.reached;
      alike = subst (λ z. AreAlike watched tables z bound.state)
          (sym (stays_there setup tables way.order e way.there end way.local)) way.alike;
    }

-- An end that is alike to a state in which some hart can step is none.
pub no_end_is_reached : NoEndIsReached
no_end_is_reached setup watched tables good visited enough from s coded begins none order e leads end =
    let found = every_end_is_visited setup watched tables good visited enough from s coded begins order e leads end in
    let goes = none found.state found.reached in
    let h = goes.0 in
    let can = goes.1 in
    let still : can_step setup h e ≡ true = can_alike setup watched tables e found.state found.alike h ∙ can in
    let over = end h in
    absurd (grind arith)

-- ---- What is alike can end alike

pub end_alike : (setup : Setup) (watched : ℕ → Bool) (tables : Tables) (s t : Plain) → AreAlike watched tables s t
    → IsEnd setup s → IsEnd setup t
end_alike setup watched tables s t alike end h = sym (can_alike setup watched tables s t alike h) ∙ end h

-- Each step fits, from whatever state an order leads to from this one.
abbrev FitsOn : Setup → Tables → Plain → Type 0
FitsOn setup tables s = (order : List ℕ) (u : Plain) → path setup order s ≡ Some u
    → (h : ℕ) → can_step setup h u ≡ true → fits setup tables h u ≡ true

ends_alike : (setup : Setup) (watched : ℕ → Bool) (tables : Tables) → IsTables setup.image tables
    → (order : List ℕ) (s t e : Plain) → IsAsCoded setup tables s → FitsOn setup tables s → AreAlike watched tables s t
    → path setup order s ≡ Some e → IsEnd setup e
    → CanEnd setup t
ends_alike setup watched tables good [] s t e coded fitting alike leads end = record {
  order = [];
  last = t;
  leads = refl;
  is_end = end_alike setup watched tables s t alike (subst (IsEnd setup) (sym (some_one s e leads)) end);
}
ends_alike setup watched tables good (h ∷ order) s t e coded fitting alike leads end =
    let split = first_of (can_step setup h s) (path setup order (stepped setup h s)) e leads in
    let can_s = split.0 in
    let fits_s = fitting [] s refl h can_s in
    let one = alike_states_step_alike setup watched tables good s t coded alike h can_s fits_s in
    let can : can_step setup h t ≡ true = one.can ∙ can_s in
    let rest = ends_alike setup watched tables good order (stepped setup h s) (stepped setup h t) e
    (coded_next setup tables good h s coded fits_s) (λ more u on. fitting (h ∷ more) u (rw can_s on)) one.alike
    split.1 end in
    record { order = h ∷ rest.order; last = rest.last; leads = rw can rest.leads; is_end = rest.is_end }

pub each_can_end : EachCanEnd
each_can_end setup watched tables good visited enough from s coded begins can order u leads =
    let settled = each_settles setup watched tables good visited enough from s coded begins order u leads in
    let there = settled.0 in
    let way = there.settles in
    let a = there.state in
    let ends = can a there.reached in
    let coded_there = coded_local setup tables good way.order u way.there settled.1 way.local in
    let coded_a = coded_alike setup watched tables way.there a way.alike coded_there in
    let fitting : FitsOn setup tables a = λ more z on.
    (each_settles setup watched tables good visited enough there.reached.place a coded_a (record {
      state = a;
      at = there.reached.at;
      settles = record { order = []; there = a; local = refl; alike = self_alike watched tables a };
    }) more z on).2 in
    let rest = ends_alike setup watched tables good ends.order a way.there ends.last coded_a fitting
    (flip watched tables way.there a way.alike) ends.leads ends.is_end in
    record {
      order = way.order ++ rest.order;
      last = rest.last;
      leads = path_on setup way.order rest.order u way.there
          (local_leads setup tables way.order u way.there way.local)
          ∙ rest.leads;
      is_end = rest.is_end;
    }
