-- The state that shows how a condition comes to hold: the shortest so far, its line, and its story.
use Rattle.std.proofs.Common.{◌≡◌, ◌⊎◌, ℕ, zero, suc, ◌+◌, ◌<◌, ◌≤◌, Bool, true, false, ◌&&◌, List, [], ◌∷◌, length, take}
use Rattle.std.proofs.Common.{refl, sym, ap, subst, ◌∙◌, arith, slice_get, Option, Some, None, IfSome, filter, inl, inr}
use Rattle.std.proofs.lemmas.Option.{same_Some, slice_get_within}
use Rattle.std.proofs.lemmas.List.Sums.{count_by_more_yes, count_by_more_no, length-filter}
use Rattle.std.specs.{Int.from_bool}
use Rattle.std.proofs.lemmas.{Bool.cases_Bool}
use Rattle.text_fields.proofs.Appending.{member}
use Rattle.elf_image.specs.Image.{ProgramImage}
use Rattle.core_state.specs.Setup.{setup_of}
use Rattle.outcomes.specs.{Found.Told, Told.order_listed}
use Rattle.litmus_tests.specs.declared.test.LitmusTest.{LitmusTest}
use Rattle.litmus_files.specs.File.{test_file}
use Rattle.litmus_text.specs.{State.told_line, States.holds_of, States.passes}
use Rattle.sim_inputs.specs.{declared.settings.Settings.Settings, declared.line.LitmusCommand.LitmusCommand}
use Rattle.symbols.specs.Tables.{AreNamesOf, Table}
use Rattle.std.proofs.Common.{option_map, count_by, get_or}
use Rattle.plain_commands.specs.{StateOrders.state_plan, WrittenOrders.IsStoryOf}
use Rattle.plain_commands.specs.ShownStates.{IsHowTold, IsShortest, IsShortestAt, IsStateShown, IsStateStory, is_shown, shows}
use Rattle.plain_commands.specs.declared.shown_states.Shortest.{Shortest}

less_or_same : (m n : ℕ) → m < n + 1 → (m < n) ⊎ (m ≡ n)
less_or_same m n below = grind arith

pub left_of : (a b : Bool) → (a && b) ≡ true → a ≡ true
left_of true b is = refl
left_of false b is = cc

pub is_state_shown : (test : LitmusTest) (told : Told) → is_shown test told ≡ true → passes test told ≡ true
is_state_shown test told is = left_of (passes test told) (shows test.quantifier (holds_of test told)) is

-- What is so of each outcome before a place, and of the one there, is so of each before the next place.
module _ (listed : List Told) (P : Told → Type 0) (place : ℕ) where
  pub one_further : ((j : ℕ) (other : Told) → j < place → slice_get listed j ≡ Some other → P other)
      → ((other : Told) → slice_get listed place ≡ Some other → P other)
      → (j : ℕ) (other : Told) → j < place + 1 → slice_get listed j ≡ Some other → P other
  one_further before here j other below at = elim (less_or_same j place below) [
    | inl less ↦ before j other less at
    | inr same ↦ here other (subst (λ k. slice_get listed k ≡ Some other) same at)
  ]

module _ (test : LitmusTest) (listed : List Told) (place : ℕ) where
  none_here : (shown : Bool) → ((told : Told) → slice_get listed place ≡ Some told → shown ≡ is_shown test told)
      → shown ≡ false → (other : Told) → slice_get listed place ≡ Some other → is_shown test other ≡ false
  none_here shown is none other at = sym (is other at) ∙ none

  -- The outcome at the place isn't shown.
  pub as_before : (shown : Bool) (shortest : Option Shortest)
      → ((told : Told) → slice_get listed place ≡ Some told → shown ≡ is_shown test told) → shown ≡ false
      → IsShortest test listed place shortest → IsShortest test listed (place + 1) shortest
  as_before shown None is none before =
      one_further listed (λ other. is_shown test other ≡ false) place before (none_here shown is none)
  as_before shown (Some shortest) is none before = record {
    told = before.told;
    stands = before.stands;
    shown = before.shown;
    steps = before.steps;
    first = before.first;
    least = λ j other below at passed. one_further listed
        (λ other. is_shown test other ≡ true → shortest.steps ≤ length other.order) place
        (λ j other below at passed. before.least j other below at passed)
        (λ other at passed. absurd (cc (none_here shown is none other at, passed))) j other below at passed;
  }

  -- It is shown, and the first that is; or it has fewer steps.
  pub the_first : (told : Told) (steps : ℕ) → slice_get listed place ≡ Some told → is_shown test told ≡ true
      → steps ≡ length told.order → IsShortest test listed place None
      → IsShortestAt test listed (place + 1) (record { index = place; steps = steps })
  the_first told steps stands shown long none = record {
    told = told;
    stands = stands;
    shown = shown;
    steps = long;
    first = λ j other below at passed. absurd (cc (none j other below at, passed));
    least = λ j other below at passed. one_further listed
        (λ other. is_shown test other ≡ true → steps ≤ length other.order) place
        (λ j other below at passed. absurd (cc (none j other below at, passed)))
        (λ other at passed. let same = ap (λ (t : Told). length t.order) (same_Some _ _ (sym stands ∙ at)) in
        omega (arith, long, same)) j other below at passed;
  }

  pub a_shorter : (told : Told) (steps : ℕ) (before : Shortest) → slice_get listed place ≡ Some told
      → is_shown test told ≡ true → steps ≡ length told.order → steps < before.steps
      → IsShortestAt test listed place before
      → IsShortestAt test listed (place + 1) (record { index = place; steps = steps })
  a_shorter told steps before stands shown long less so_far = record {
    told = told;
    stands = stands;
    shown = shown;
    steps = long;
    first = λ j other below at passed. let least = so_far.least j other below at passed in omega (arith, least, less);
    least = λ j other below at passed. one_further listed
        (λ other. is_shown test other ≡ true → steps ≤ length other.order) place
        (λ j other below at passed. let least = so_far.least j other below at passed in omega (arith, least, less))
        (λ other at passed. let same = ap (λ (t : Told). length t.order) (same_Some _ _ (sym stands ∙ at)) in
        omega (arith, long, same)) j other below at passed;
  }

  pub no_shorter : (told : Told) (steps : ℕ) (before : Shortest) → slice_get listed place ≡ Some told
      → steps ≡ length told.order → before.steps ≤ steps → IsShortestAt test listed place before
      → IsShortestAt test listed (place + 1) before
  no_shorter told steps before stands long more so_far = record {
    told = so_far.told;
    stands = so_far.stands;
    shown = so_far.shown;
    steps = so_far.steps;
    first = so_far.first;
    least = λ j other below at passed. one_further listed
        (λ other. is_shown test other ≡ true → before.steps ≤ length other.order) place
        (λ j other below at passed. so_far.least j other below at passed)
        (λ other at passed. let same = ap (λ (t : Told). length t.order) (same_Some _ _ (sym stands ∙ at)) in
        omega (arith, long, same, more)) j other below at passed;
  }

  -- So it is of what stands at the place.
  module _ (shortest : Option Shortest) (steps : ℕ) (shown : Bool) (within : place < length listed)
      (is : (told : Told) → slice_get listed place ≡ Some told → shown ≡ is_shown test told) (passed : shown ≡ true)
      (long : (told : Told) → slice_get listed place ≡ Some told → steps ≡ length told.order) where
    pub from_none : shortest ≡ None → IsShortest test listed place shortest
        → IsShortestAt test listed (place + 1) (record { index = place; steps = steps })
    from_none none so_far =
        let one = member listed place within in
        the_first one.0 steps one.1 (sym (is one.0 one.1) ∙ passed) (long one.0 one.1)
        (subst (λ (s : Option Shortest). IsShortest test listed place s) none so_far)

    pub from_some : (before : Shortest) → shortest ≡ Some before → steps < before.steps
        → IsShortest test listed place shortest
        → IsShortestAt test listed (place + 1) (record { index = place; steps = steps })
    from_some before some less so_far =
        let one = member listed place within in
        a_shorter one.0 steps before one.1 (sym (is one.0 one.1) ∙ passed) (long one.0 one.1) less
        (subst (λ (s : Option Shortest). IsShortest test listed place s) some so_far)

  -- The loop is over.
  pub of_all : (shortest : Option Shortest) → length listed ≤ place → IsShortest test listed place shortest
      → IsShortest test listed (length listed) shortest
  of_all None over is = λ j other below at. is j other (omega (arith, below, over)) at
  of_all (Some shortest) over is = record {
    told = is.told;
    stands = is.stands;
    shown = is.shown;
    steps = is.steps;
    first = is.first;
    least = λ j other below at passed. is.least j other (omega (arith, below, over)) at passed;
  }

  pub inside : (shortest : Option Shortest) → IsShortest test listed place shortest
      → IfSome shortest (λ found. found.index < length listed)
  inside None is = tt
  inside (Some found) is = slice_get_within _ _ _ is.stands

-- It begins.
pub none_before : (test : LitmusTest) (listed : List Told) → IsShortest test listed 0 None
none_before test listed = λ j other below at. absurd (omega (arith, below))

-- ---- The number of its line

-- A turn of the loop that counts them.
module _ (p : Told → Bool) (listed : List Told) (i : ℕ) (b : Bool) (inside : i < length listed)
    (is : (told : Told) → slice_get listed i ≡ Some told → b ≡ p told) where
  here : (answer : Bool) → b ≡ answer → (d : Told) → p (get_or listed i d) ≡ answer
  here answer found d =
      let one = member listed i inside in ap p (one.2 d) ∙ sym (is one.0 one.1) ∙ found

  pub counted : (before more : ℕ) → more ≡ from_bool b → (before ≡ count_by p (take i listed)) × (before ≤ i)
      → (before + more ≡ count_by p (take (i + 1) listed)) × (before + more ≤ i + 1)
  counted before more is_more so_far =
      let one = member listed i inside in elim (cases_Bool b) [
        | inl counts ↦
            let some : more ≡ 1 = is_more ∙ ap from_bool counts in
            rw some (
              ap (λ k. k + 1) so_far.0 ∙ sym (count_by_more_yes p listed i one.0 inside (here true counts one.0)),
              omega (arith, so_far.1),
            )
        | inr fails ↦
            let none : more ≡ 0 = is_more ∙ ap from_bool fails in
            let same : before + 0 ≡ before = omega arith in
            rw (none, same) (
              so_far.0 ∙ sym (count_by_more_no p listed i one.0 inside (here false fails one.0)),
              omega (arith, so_far.1),
            )
      ]

-- A member that passes stands behind as many as pass before it.
behind : (p : Told → Bool) (y : Told) (ys : List Told) (i : ℕ) (x : Told) (b : Bool) → p y ≡ b
    → slice_get (filter p ys) (length (filter p (take i ys))) ≡ Some x
    → slice_get (filter p (y ∷ ys)) (length (filter p (take (suc i) (y ∷ ys)))) ≡ Some x
behind p y ys i x true is rest = rw is rest
behind p y ys i x false is rest = rw is rest

pub stands_behind : (p : Told → Bool) (xs : List Told) (i : ℕ) (x : Told) → slice_get xs i ≡ Some x → p x ≡ true
    → slice_get (filter p xs) (length (filter p (take i xs))) ≡ Some x
stands_behind p [] i x at passed = absurd (cc at)
stands_behind p (y ∷ ys) zero x at passed =
    let same : y ≡ x = same_Some _ _ at in
    let first : p y ≡ true = ap p same ∙ passed in
    rw first (ap Some same)
stands_behind p (y ∷ ys) (suc i) x at passed = behind p y ys i x (p y) refl (stands_behind p ys i x at passed)

-- As many stand before it as were counted.
pub line_is : (p : Told → Bool) (xs : List Told) (i before : ℕ) (x : Told) → before ≡ count_by p (take i xs)
    → slice_get xs i ≡ Some x → p x ≡ true → slice_get (filter p xs) before ≡ Some x
line_is p xs i before x counted at passed =
    let same : before ≡ length (filter p (take i xs)) = counted ∙ sym (length-filter p (take i xs)) in
    ap (λ k. slice_get (filter p xs) k) same ∙ stands_behind p xs i x at passed

-- ---- Its story

module _ (settings : Settings) (image : ProgramImage) (test : LitmusTest) (command : LitmusCommand) (listed : List Told)
    (index : ℕ) (file : List ℕ) (names : Table) (order line story : List ℕ) where
  pub state_told : file ≡ test_file test image → AreNamesOf file names → order_listed listed index ≡ Some order
      → ((told : Told) → slice_get listed index ≡ Some told → line ≡ told_line test told)
      → IsStoryOf (setup_of image settings.config) (state_plan settings command names) order (Some line) story
      → (told : Told) → slice_get listed index ≡ Some told → IsStateStory settings image test command told story
  state_told is_file named ordered lined is told stood =
      let same_order : told.order ≡ order =
      same_Some _ _ (sym (ap (option_map (λ (t : Told). t.order)) stood) ∙ ordered) in
      record {
        names = names;
        named = subst (λ (f : List ℕ). AreNamesOf f names) is_file named;
        is = rw (same_order, sym (lined told stood)) is;
      }

-- ---- What is told

module _ (settings : Settings) (image : ProgramImage) (test : LitmusTest) (command : LitmusCommand) (listed : List Told)
  where
    pub how_told : (found : Option Shortest) (shortest : Shortest) (text : List ℕ) → found ≡ Some shortest
        → IsShortest test listed (length listed) found
        → ((told : Told) → slice_get listed shortest.index ≡ Some told → passes test told ≡ true
        → IsStateShown settings image test command listed told text)
        → IsHowTold settings image test command listed text
    how_told found shortest text some is shown =
        let at : IsShortestAt test listed (length listed) shortest =
        subst (λ (s : Option Shortest). IsShortest test listed (length listed) s) some is in
        inl (record {
          shortest = shortest;
          is_shortest = at;
          shown = shown at.told at.stands (is_state_shown test at.told at.shown);
        })
