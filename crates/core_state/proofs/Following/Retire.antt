-- Which rule a retirement or a refetch breaks.
use Rattle.std.specs.Prelude.{◌≡◌, ℕ, ◌<◌, length, Bool, true, false, not, List, [], ◌∷◌, ◌++◌, map, Option, Some, None}
use Rattle.std.proofs.Common.{◌∙◌, refl, sym, ap, subst, inl, inr, arith}
use Rattle.std.proofs.{lemmas.Bool.cases_Bool, lemmas.Option.none-some, lemmas.Bool.Decides.nat_tests}
use Rattle.events.specs.{declared.effect.Effect.Effect, declared.effect.Outcome.Outcome, declared.event.Event.Event}
use Rattle.events.specs.declared.event.Event.TheVariants.{Retire, Refetch}
use Rattle.retire_squash.specs.{declared.active.Active.Active, declared.active.Stage.Stage}
use Rattle.retire_squash.specs.declared.active.Stage.TheVariants as stages
use Rattle.smt_model.specs.{Basics.holds_of, Basics.first, Comparisons.same_effect}
use Rattle.smt_model.specs.{Jobs.is_actor, Setup.Setup, Picture.Picture, Picture.picture, Flights.flight}
use Rattle.smt_model.specs.Fates.{Fate, fate, fetching, is, is_in_flight, Completed}
use Rattle.smt_model.specs.Rules.{first_failing, refused, is_first, is_fresh, of_fetched, effect_now}
use Rattle.smt_model.proofs.{Fates.Numbers.at_hart, Fates.Moves.same_number-is}
use Rattle.core_parts.specs.{Agree.HartAgrees, Agree.IsActive, Agree.IsStage}
use Rattle.core_steps.specs.{Retirement.CanRetire}
use Rattle.core_parts.specs.Place.{InActiveList}
use Rattle.core_state.specs.{Refusals.outcome_at, Refusals.rules_of_oldest}
use Rattle.core_state.specs.{State.IsCore, State.view_of, View.CoreView}
use Rattle.core_parts.specs.declared.hart.HartState.{HartState}
use Rattle.core_state.specs.{declared.state.State.TheInside.Inside}
use Rattle.core_state.proofs.Following.Tests.{refused-is, holds, fails}
use Rattle.core_state.proofs.Steps.Retire.{Look.fetched_of, State.Says, State.effect_in}

not_completed_if_gone : (f : Fate) → is_in_flight f ≡ false → is f Completed ≡ false
not_completed_if_gone f gone = grind (arith, nat_tests)

-- What a stage says of a fate.
not_completed : (p : Picture) (s : ℕ) (at : Stage) → IsStage p s at → outcome_at at ≡ None
    → is (p.fate s) Completed ≡ false
not_completed p s stages.Renamed is_it none = rw is_it refl
not_completed p s stages.Issued is_it none = rw is_it refl
not_completed p s (stages.Completed outcome) is_it none = absurd (none-some outcome (sym none))

completes : (p : Picture) (s : ℕ) (at : Stage) (o : Outcome) → IsStage p s at → outcome_at at ≡ Some o
    → (p.fate s ≡ Completed) × (p.completion s ≡ Some o)
completes p s stages.Renamed o is_it some = absurd (none-some o some)
completes p s stages.Issued o is_it some = absurd (none-some o some)
completes p s (stages.Completed outcome) o is_it some = (is_it.0, is_it.1 ∙ some)

-- ---- The rules that both have

module _ (setup : Setup) (past : List Event) (actor s : ℕ) where
  abbrev oldest : Bool
  oldest = of_fetched past s (λ f. is_first s (flight past f.hart))

  abbrev behind_fate : List (ℕ × Bool)
  behind_fate = (3, oldest) ∷ []

  abbrev behind_actor : List (ℕ × Bool)
  behind_actor = (2, is (fate past s) Completed) ∷ behind_fate

  abbrev tested : Option ℕ
  tested = first_failing (rules_of_oldest setup past actor s)

  pub no_actor : is_actor setup actor ≡ false → tested ≡ Some 1
  no_actor none = fails 1 (is_actor setup actor) behind_actor none

  not_there : is_actor setup actor ≡ true → is (fate past s) Completed ≡ false → tested ≡ Some 2
  not_there one elsewhere =
      holds 1 (is_actor setup actor) behind_actor one ∙ fails 2 (is (fate past s) Completed) behind_fate elsewhere

  pub gone : is_actor setup actor ≡ true → is_in_flight (fate past s) ≡ false → tested ≡ Some 2
  gone one none = not_there one (not_completed_if_gone (fate past s) none)

  module _ (h : ℕ) (x : Active) (placed : InActiveList setup past h s x) (one : is_actor setup actor ≡ true) where
    stands : IsActive (picture setup past) h x × (x.seq ≡ s)
    stands = (placed.active, placed.number)

    pub waits : outcome_at x.stage ≡ None → tested ≡ Some 2
    waits none =
        not_there one (subst (λ n. is (fate past n) Completed ≡ false) stands.1
        (not_completed (picture setup past) x.seq x.stage stands.0.stage none))

    module _ (o : Outcome) (done : outcome_at x.stage ≡ Some o) (y : HartState) (b : Bool)
        (agrees : HartAgrees (picture setup past) h y) (b_is : b ≡ is_first s (map (λ z. z.seq) y.active)) where
      ended : (fate past x.seq ≡ Completed) × ((picture setup past).completion x.seq ≡ Some o)
      ended = completes (picture setup past) x.seq x.stage o stands.0.stage done

      fated : is (fate past s) Completed ≡ true
      fated = subst (λ n. is (fate past n) Completed ≡ true) stands.1 (rw ended.0 refl)

      oldest_is : oldest ≡ b
      oldest_is =
          at_hart past (λ g. is_first s (flight past g)) h s placed.of_hart
          ∙ (ap (is_first s) (sym agrees.active) ∙ sym b_is)

      tested_is : tested ≡ first_failing ((3, oldest) ∷ [])
      tested_is =
          holds 1 (is_actor setup actor) behind_actor one
          ∙ holds 2 (is (fate past s) Completed) behind_fate fated

      pub not_oldest : b ≡ false → tested ≡ Some 3
      not_oldest other = tested_is ∙ fails 3 oldest [] (oldest_is ∙ other)

      pub none_breaks : b ≡ true → tested ≡ None
      none_breaks this = tested_is ∙ holds 3 oldest [] (oldest_is ∙ this)

      pub can_retire : b ≡ true → CanRetire (picture setup past) h x o
      can_retire this = record {
        oldest = same_number-is (first (flight past h)) (Some s) (ap (is_first s) (sym agrees.active) ∙ (sym b_is ∙ this))
            ∙ ap Some (sym stands.1);
        is_active = stands.0;
        completed = ended.0;
        outcome = ended.1;
      }

-- ---- And those that one of them has behind these

broken_first : (xs ys : List (ℕ × Bool)) (n : ℕ) → first_failing xs ≡ Some n → first_failing (xs ++ ys) ≡ Some n
broken_first [] ys n breaks = absurd (none-some n breaks)
broken_first (rule ∷ xs) ys n breaks = elim (cases_Bool rule.1) [
  | inl t ↦ rw t (broken_first xs ys n (rw t at breaks))
  | inr f ↦ rw f (rw f at breaks)
]

none_first : (xs ys : List (ℕ × Bool)) → first_failing xs ≡ None → first_failing (xs ++ ys) ≡ first_failing ys
none_first [] ys none = refl
none_first (rule ∷ xs) ys none = elim (cases_Bool rule.1) [
  | inl t ↦ rw t (none_first xs ys (rw t at none))
  | inr f ↦ absurd (none-some rule.0 (sym (rw f at none)))
]

module _ (setup : Setup) (past : List Event) (actor s : ℕ) where
  abbrev both_rules : List (ℕ × Bool)
  both_rules = rules_of_oldest setup past actor s

  abbrev fresh : Bool
  fresh = of_fetched past s (is_fresh setup past)

  abbrev stale : Bool
  stale = of_fetched past s (λ f. not (is_fresh setup past f))

  abbrev says : Effect → Bool
  says effect = of_fetched past s (λ f. same_effect effect (effect_now setup past s f))

  pub retire_broken : (effect : Effect) (n : ℕ) → first_failing both_rules ≡ Some n
      → refused setup past (Retire actor s effect) ≡ Some n
  retire_broken effect n breaks =
      refused-is setup past (Retire actor s effect)
      ∙ broken_first both_rules ((4, says effect) ∷ (5, fresh) ∷ []) n breaks

  pub refetch_broken : (n : ℕ) → first_failing both_rules ≡ Some n → refused setup past (Refetch actor s) ≡ Some n
  refetch_broken n breaks =
      refused-is setup past (Refetch actor s) ∙ broken_first both_rules ((4, stale) ∷ []) n breaks

  module _ (h : ℕ) (x : Active) (placed : InActiveList setup past h s x) (none : first_failing both_rules ≡ None)
      (f : Bool) (f_is : f ≡ is_fresh setup past (fetched_of h x)) where
    fetched : fetching past s ≡ Some (fetched_of h x)
    fetched = ap (fetching past) (sym placed.number) ∙ placed.active.fetched

    fresh_is : fresh ≡ f
    fresh_is = ap (holds_of (is_fresh setup past)) fetched ∙ sym f_is

    stale_is : stale ≡ not f
    stale_is = ap (holds_of (λ g. not (is_fresh setup past g))) fetched ∙ ap not (sym f_is)

    pub retire_tells : (effect now : Effect) (c : Bool) → now ≡ effect_now setup past x.seq (fetched_of h x)
        → c ≡ same_effect effect now
        → refused setup past (Retire actor s effect) ≡ first_failing ((4, c) ∷ (5, f) ∷ [])
    retire_tells effect now c now_is c_is =
        let says_is : says effect ≡ c =
        ap (holds_of (λ g. same_effect effect (effect_now setup past s g))) fetched
        ∙ (ap (λ n. same_effect effect (effect_now setup past n (fetched_of h x))) (sym placed.number)
        ∙ (ap (same_effect effect) (sym now_is) ∙ sym c_is)) in
        refused-is setup past (Retire actor s effect)
        ∙ (none_first both_rules ((4, says effect) ∷ (5, fresh) ∷ []) none
        ∙ rw (says_is, fresh_is) refl)

    pub refetch_tells : refused setup past (Refetch actor s) ≡ first_failing ((4, not f) ∷ [])
    refetch_tells =
        refused-is setup past (Refetch actor s)
        ∙ (none_first both_rules ((4, stale) ∷ []) none ∙ rw stale_is refl)

pub effect_view : (i : Inside) (core : IsCore i) (v : CoreView) → view_of i ≡ v → (h : ℕ) (x : Active) (o : Outcome)
    (s : ℕ) (effect : Effect) → h < length i.parts.harts.items → x.seq ≡ s
    → CanRetire (picture v.setup v.past) h x o → Says i h s x.op o effect
    → effect ≡ effect_now v.setup v.past x.seq (fetched_of h x)
effect_view i core v at h x o s effect inside number can says =
    subst (λ u. effect ≡ effect_now u.setup u.past x.seq (fetched_of h x)) at
    (effect_in i h x o effect core inside (subst (λ u. CanRetire (picture u.setup u.past) h x o) (sym at) can)
    (subst (λ n. Says i h n x.op o effect) (sym number) says))
