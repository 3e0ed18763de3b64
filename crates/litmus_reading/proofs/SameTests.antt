-- A test that says the same as one that makes sense makes sense.
use Rattle.std.proofs.Common.{◌≡◌, ℕ, zero, suc, ◌+◌, ◌*◌, ◌<◌, ◌≤◌, List, [], ◌∷◌, length, get_or, All, refl, ap, ◌∙◌, subst, arith}
use Rattle.std.specs.Prelude.{slice_get, sum_by}
use Rattle.std.specs.List.{AllZip}
use Rattle.std.proofs.lemmas.List.Elements.{AllZip-get_or, length_all_zip}
use Rattle.std.proofs.lemmas.List.Sums.{sum_by-cons}
use Rattle.watched_outcomes.specs.Watching.{bytes_of}
use Rattle.litmus_tests.specs.declared.value.Value.{Value}
use Rattle.litmus_tests.specs.declared.number_type.NumberType.{NumberType}
use Rattle.litmus_tests.specs.declared.step.LitmusStep.{LitmusStep}
use Rattle.litmus_tests.specs.declared.location.Location.{Location}
use Rattle.litmus_tests.specs.declared.condition.{Observed.Observed, Term.Term}
use Rattle.litmus_tests.specs.declared.condition.Observed.TheVariants as observed
use Rattle.litmus_tests.specs.declared.condition.Condition.{Condition, Always, Holds, Not', Both', Either', Implies', Equivalent'}
use Rattle.litmus_tests.specs.declared.test.{LitmusTest.LitmusTest, RegisterStart.RegisterStart, Thread.Thread}
use Rattle.litmus_tests.specs.Limits.{most_steps}
use Rattle.litmus_tests.specs.Locations.{type_in, type_of}
use Rattle.litmus_tests.specs.WellFormed.{step_length, thread_length, IsCondition, IsLocation, IsObserved, IsStart, IsStep, IsTerm, IsThread, IsValue, IsWellFormed}
use Rattle.litmus_reading.specs.Grammar.{IsSame}
use Rattle.litmus_reading.specs.Same.{IsSameLocation, IsSameTest, IsSameThread}

-- what holds of each of the one list holds of each of the other
carried : {A : Type 0} (R : A → A → Type 0) (P : A → Type 0) → ((x y : A) → R x y → P x → P y) → (xs ys : List A)
    → AllZip R xs ys → All P xs → All P ys
carried R P on xs ys same all k d inside =
    let long = length_all_zip R xs ys same in
    let within : k < length xs = omega (arith, long, inside) in
    on (get_or xs k d) (get_or ys k d) (AllZip-get_or R xs ys k d d same within) (all k d within)

same_sum : {A : Type 0} (R : A → A → Type 0) (f : A → ℕ) → ((x y : A) → R x y → f x ≡ f y) → (xs ys : List A)
    → AllZip R xs ys → sum_by f xs ≡ sum_by f ys
same_sum R f on [] [] same = refl
same_sum R f on [] (y ∷ ys) same = absurd same
same_sum R f on (x ∷ xs) [] same = absurd same
same_sum R f on (x ∷ xs) (y ∷ ys) same =
    let first = on x y same.0 in
    let others = same_sum R f on xs ys same.1 in
    let one = sum_by-cons f x xs in
    let other = sum_by-cons f y ys in
    omega (arith, first, others, one, other)

same_location : (words : ℕ) (one other : Location) → IsSameLocation one other → IsLocation words one
    → IsLocation words other
same_location words one other same it =
    subst (λ (byte : ℕ). byte + bytes_of other.number_type.width ≤ 4 * words) same.byte
    (subst (λ (t : NumberType). one.byte + bytes_of t.width ≤ 4 * words) same.number_type it)

same_thread : (words : ℕ) (one other : Thread) → IsSameThread one other → IsThread words one → IsThread words other
same_thread words one other same it = record {
  starts = subst (λ (t : List RegisterStart). All (IsStart words) t) same.starts it.starts;
  few = subst (λ (t : List RegisterStart). length t ≤ 31) same.starts it.few;
  steps = subst (λ (t : List LitmusStep). All (IsStep (length t)) t) same.steps it.steps;
  short = subst (λ (t : List LitmusStep). length t ≤ most_steps) same.steps it.short;
}

same_length : (one other : Thread) → IsSameThread one other → thread_length one ≡ thread_length other
same_length one other same =
    let starts = ap (λ (t : List RegisterStart). length t) same.starts in
    let steps = ap (λ (t : List LitmusStep). sum_by step_length t) same.steps in
    omega (arith, starts, steps)

-- the types of what is looked at
same_at : (locations others : List Location) (index : ℕ) → AllZip IsSameLocation locations others
    → type_in (slice_get locations index) ≡ type_in (slice_get others index)
same_at [] [] index same = refl
same_at [] (other ∷ others) index same = absurd same
same_at (location ∷ locations) [] index same = absurd same
same_at (location ∷ locations) (other ∷ others) zero same = same.0.number_type
same_at (location ∷ locations) (other ∷ others) (suc index) same = same_at locations others index same.1

same_type : (locations others : List Location) (one : Observed) → AllZip IsSameLocation locations others
    → type_of locations one ≡ type_of others one
same_type locations others (observed.Register hart register) same = refl
same_type locations others (observed.Location index) same = same_at locations others index same

module _ (words : ℕ) (locations others : List Location) (watched : List Observed)
    (same : AllZip IsSameLocation locations others) where
  same_term : (one other : Term) → one ≡ other → IsTerm words locations watched one → IsTerm words others watched other
  same_term one other is it =
      subst (λ (t : Term). IsTerm words others watched t) is
      (it.0, it.1, it.2 ∙ ap (λ (t : NumberType). t.width) (same_type locations others one.observed same))

  same_condition : (one other : Condition) → IsSame one other → IsCondition words locations watched one
      → IsCondition words others watched other
  same_condition Always Always is it = tt
  same_condition (Holds term) (Holds other) is it = same_term term other is it
  same_condition (Not' p inner) (Not' q other) is it = same_condition inner other is it
  same_condition (Both' p a q b) (Both' r c s d) is it = (same_condition a c is.0 it.0, same_condition b d is.1 it.1)
  same_condition (Either' p a q b) (Either' r c s d) is it =
      (same_condition a c is.0 it.0, same_condition b d is.1 it.1)
  same_condition (Implies' p a q b) (Implies' r c s d) is it =
      (same_condition a c is.0 it.0, same_condition b d is.1 it.1)
  same_condition (Equivalent' p a q b) (Equivalent' r c s d) is it =
      (same_condition a c is.0 it.0, same_condition b d is.1 it.1)
  same_condition one other is it = absurd is

-- with as many words, and the same things that are looked at
carried_condition : (one other : LitmusTest) (first second : Condition) → IsSameTest one other → IsSame first second
    → IsCondition (length one.words.items) one.locations.items one.observed.items first
    → IsCondition (length other.words.items) other.locations.items other.observed.items second
carried_condition one other first second same is it =
    subst (λ (t : List Value). IsCondition (length t) other.locations.items other.observed.items second) same.words
    (subst (λ (t : List Observed). IsCondition (length one.words.items) other.locations.items t second) same.observed
    (same_condition (length one.words.items) one.locations.items other.locations.items one.observed.items same.locations
    first second is it))

pub well_formed_same : (one other : LitmusTest) → IsSameTest one other → IsWellFormed one → IsWellFormed other
well_formed_same one other same it =
    let harts = length_all_zip IsSameThread one.threads.items other.threads.items same.threads in
    let places = length_all_zip IsSameLocation one.locations.items other.locations.items same.locations in
    let sums = same_sum IsSameThread thread_length same_length one.threads.items other.threads.items same.threads in
    let short = it.short in
    record {
      harts = (subst (λ (n : ℕ). 1 ≤ n) harts it.harts.0, omega (arith, harts, it.harts.1));
      words = subst (λ (t : List Value). length t ≤ 64) same.words it.words;
      initials = subst (λ (t : List Value). All (IsValue (length t)) t) same.words it.initials;
      locations = subst (λ (t : List Value). All (IsLocation (length t)) other.locations.items) same.words
          (carried IsSameLocation (IsLocation (length one.words.items)) (same_location (length one.words.items))
          one.locations.items other.locations.items same.locations it.locations);
      threads = subst (λ (t : List Value). All (IsThread (length t)) other.threads.items) same.words
          (carried IsSameThread (IsThread (length one.words.items)) (same_thread (length one.words.items))
          one.threads.items other.threads.items same.threads it.threads);
      short = omega (arith, sums, short);
      condition = carried_condition one other one.condition other.condition same same.condition it.condition;
      filter = carried_condition one other one.filter other.filter same same.filter it.filter;
      observed = subst (λ (t : List Observed). All (IsObserved (length other.threads.items) (length other.locations.items)) t)
          same.observed
          (subst (λ (n : ℕ). All (IsObserved n (length other.locations.items)) one.observed.items) harts
          (subst (λ (n : ℕ). All (IsObserved (length one.threads.items) n) one.observed.items) places it.observed));
      few = subst (λ (t : List Observed). length t ≤ 64) same.observed it.few;
    }
