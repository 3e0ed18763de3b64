-- The final state with a number, among all outcomes; and what is written of its order.
use Rattle.std.proofs.Common.{◌≡◌, ◌⊎◌, ℕ, suc, ◌+◌, ◌-◌, ◌<◌, ◌≤◌, Bool, true, false, List, [], ◌∷◌, length, drop, get_or}
use Rattle.std.proofs.Common.{refl, sym, ap, subst, ◌∙◌, arith, slice_get, Option, Some, None, drop-cons, add-one, inl, inr}
use Rattle.std.proofs.lemmas.List.{drop_all}
use Rattle.text_fields.proofs.Appending.{member}
use Rattle.elf_image.specs.Image.{ProgramImage}
use Rattle.outcomes.specs.{Found.Told}
use Rattle.litmus_tests.specs.declared.test.LitmusTest.{LitmusTest}
use Rattle.litmus_text.specs.States.{passes, told_in}
use Rattle.sim_inputs.specs.{declared.settings.Settings.Settings, declared.line.LitmusCommand.LitmusCommand}
use Rattle.event_text.specs.Sinking.{HasPut}
use Rattle.litmus_files.specs.File.{test_file}
use Rattle.litmus_text.specs.State.{told_line}
use Rattle.sim_inputs.specs.TestOrders.{order_asked}
use Rattle.symbols.specs.Tables.{AreNamesOf, Table}
use Rattle.outcomes.specs.Told.{order_listed}
use Rattle.std.proofs.lemmas.Option.{same_Some}
use Rattle.std.proofs.Common.{Result, Ok, Err, OnOk, option_map}
use Rattle.command_parts.specs.declared.refused.Refused.{Refused}
use Rattle.plain_commands.specs.StateOrders.{HasWrittenState, IsStateWritten, state_plan}
use Rattle.plain_commands.specs.WrittenOrders.{HasPutOrder}

-- ---- The turns of the loop that looks for it

-- The outcomes from a place on have as many final states before the one that is wanted.
pub record IsLeft (test : LitmusTest) (listed : List Told) (state i left : ℕ) : Type 0 where
  pub same : slice_get (told_in test listed) state ≡ slice_get (told_in test (drop i listed)) left
  pub many : length (told_in test listed) + left ≡ state + length (told_in test (drop i listed))

pub none_left : (test : LitmusTest) (listed : List Told) (state : ℕ) → IsLeft test listed state 0 state
none_left test listed state = record { same = refl; many = omega arith }

pub lacks : (test : LitmusTest) (listed : List Told) (state i left : ℕ) → length listed ≤ i
    → IsLeft test listed state i left → length (told_in test listed) ≤ state
lacks test listed state i left over is =
    let none : length (told_in test (drop i listed)) ≡ 0 = rw (drop_all i listed over) refl in
    let many = is.many in omega (arith, none, many)

module _ (test : LitmusTest) (listed : List Told) (state i n left : ℕ) (b : Bool) (below : i < n)
    (count : n ≡ length listed) (asked : (told : Told) → slice_get listed i ≡ Some told → b ≡ passes test told)
    (is : IsLeft test listed state i left) where
  within : i < length listed
  within = omega (arith, below, count)

  here : Told
  here = (member listed i within).0

  stands : slice_get listed i ≡ Some here
  unfolding here
  stands = (member listed i within).1

  first : drop i listed ≡ here ∷ drop (i + 1) listed
  unfolding here
  first =
      rw (add-one, drop-cons listed i here, within)
      (ap (λ (told : Told). told ∷ drop (suc i) listed) ((member listed i within).2 here))

  told_from : (answer : Bool) → b ≡ answer → passes test here ≡ answer
  told_from answer found = sym (asked here stands) ∙ found

  pub found_here : b ≡ true → left ≡ 0
      → (i < length listed) × (slice_get listed i ≡ slice_get (told_in test listed) state)
  found_here found none =
      let passed = told_from true found in
      let next : slice_get (told_in test (drop i listed)) 0 ≡ Some here = rw (first, passed) refl in
      let last : slice_get (told_in test (drop i listed)) left ≡ Some here =
      ap (λ k. slice_get (told_in test (drop i listed)) k) none ∙ next in
      (within, stands ∙ sym (is.same ∙ last))

  pub one_less : b ≡ true → (k : ℕ) → left ≡ suc k → IsLeft test listed state (i + 1) k
  one_less found k more =
      let passed = told_from true found in
      let rest : slice_get (told_in test (drop i listed)) left ≡ slice_get (told_in test (drop (i + 1) listed)) k =
      rw (more, first, passed) refl in
      let longer : length (told_in test (drop i listed)) ≡ suc (length (told_in test (drop (i + 1) listed))) =
      rw (first, passed) refl in
      let many = is.many in
      record { same = is.same ∙ rest; many = omega (arith, many, longer, more) }

  pub as_many : b ≡ false → IsLeft test listed state (i + 1) left
  as_many missed =
      let fails = told_from false missed in
      let rest : told_in test (drop i listed) ≡ told_in test (drop (i + 1) listed) = rw (first, fails) refl in
      record {
        same = is.same ∙ ap (λ xs. slice_get xs left) rest;
        many = is.many ∙ ap (λ (xs : List Told). state + length xs) rest;
      }

pub less_one : (left k : ℕ) → (left ≡ 0 → ⊥) → k ≡ left - 1 → left ≡ suc k
less_one left k some is = omega (arith, some, is)

-- ---- What is written

pub state_written : (settings : Settings) (image : ProgramImage) (test : LitmusTest) (command : LitmusCommand)
    (Put : List ℕ → Type 0) (listed : List Told) (index number : ℕ)
    → (index < length listed) × (slice_get listed index ≡ slice_get (told_in test listed) (number - 1))
    → ((told : Told) → slice_get listed index ≡ Some told → IsStateWritten settings image test command Put told)
    → HasWrittenState settings image test command Put (Some number) listed
state_written settings image test command Put listed index number found written =
    let one = member listed index found.0 in
    (one.0, sym found.1 ∙ one.1, written one.0 one.1)

-- The order of an outcome, and its line, as they were put.
module _ {S : Type 0} (written : S → Option (List ℕ)) (has_failed : S → Bool) (old new : S) (settings : Settings)
    (image : ProgramImage) (test : LitmusTest) (command : LitmusCommand) (listed : List Told) (index : ℕ)
    (file : List ℕ) (names : Table) (order line : List ℕ) where
  pub state_put : (answer : Result (Unit {0}) Refused) → file ≡ test_file test image → AreNamesOf file names
      → order_listed listed index ≡ Some order
      → ((told : Told) → slice_get listed index ≡ Some told → line ≡ told_line test told)
      → OnOk answer (HasPutOrder written has_failed old new settings image (order_asked command)
      (state_plan settings command names) (Some order) (Some line))
      → OnOk answer ((told : Told) → slice_get listed index ≡ Some told
      → IsStateWritten settings image test command (HasPut written has_failed old new) told)
  state_put (Ok done) is_file named ordered lined put = λ told stood.
      let same_order : told.order ≡ order =
      same_Some _ _ (sym (ap (option_map (λ (t : Told). t.order)) stood) ∙ ordered) in
      record {
        names = names;
        named = subst (λ (f : List ℕ). AreNamesOf f names) is_file named;
        text = put.text;
        is = rw (same_order, sym (lined told stood)) put.is;
        put = put.put;
      }
  state_put (Err why) is_file named ordered lined put = tt

-- Where no order is wanted nothing is said, and where one is it was written.
pub none_written : (settings : Settings) (image : ProgramImage) (test : LitmusTest) (command : LitmusCommand)
    (Put : List ℕ → Type 0) (listed : List Told) (asked : Option ℕ) → asked ≡ None
    → HasWrittenState settings image test command Put asked listed
none_written settings image test command Put listed asked none = rw none tt

pub one_written : (settings : Settings) (image : ProgramImage) (test : LitmusTest) (command : LitmusCommand)
    (Put : List ℕ → Type 0) (listed : List Told) (asked : Option ℕ) (number : ℕ) → asked ≡ Some number
    → HasWrittenState settings image test command Put (Some number) listed
    → HasWrittenState settings image test command Put asked listed
one_written settings image test command Put listed asked number is written = rw is written
