-- A litmus test: what is refused of it, and what it comes to, behind a configuration.
use Rattle.std.specs.Prelude.{◌≡◌, ◌⊎◌, ℕ, Bool, true, false, List, Option, Some, None, Result, Ok, Err, IfOk, OnOk}
use Rattle.std.specs.Prelude.{length, is_some, if◌then◌else◌}
use Rattle.std.proofs.Common.{refl, sym, subst, ◌∙◌}
use mathlib.Core.Logic.{inl, inr}
use Rattle.std.specs.Io.KnownBytes.{Appends}
use Rattle.elf_image.specs.Image.{ProgramImage}
use Rattle.outcome_text.specs.Listing.{incomplete_text}
use Rattle.outcomes.specs.{Found.Found, Found.InEachSetup, Found.IsExactList}
use Rattle.watched_outcomes.specs.{declared.watch.Watch.Watch}
use Rattle.outcomes.specs.{Found.CoversCores, Found.IsOnce, Refusals.IsBeyond}
use Rattle.searches.specs.declared.extent.Extent.{Extent}
use Rattle.searches.specs.declared.extent.Extent.TheVariants.{Beyond, First}
use Rattle.litmus_tests.specs.declared.test.LitmusTest.{LitmusTest}
use Rattle.litmus_files.specs.File.{test_file}
use Rattle.sim_inputs.specs.declared.line.LitmusCommand.{LitmusCommand}
use Rattle.command_parts.specs.declared.refused.Refused.{Refused}
use Rattle.std.proofs.lemmas.Bool.{true≢false}
use Rattle.smt_model.specs.Setup.{Setup}
use Rattle.event_text.specs.Sinking.{HasPut}
use Rattle.outcomes.specs.{Found.Told}
use Rattle.sim_inputs.specs.{declared.settings.Settings.Settings, Files.written_for_test, Files.written_order}
use Rattle.sim_inputs.specs.TestOrders.{order_asked}
use Rattle.command_parts.specs.declared.refused.Refused.TheVariants as reasons
use Rattle.plain_commands.specs.Litmus.{TestComesTo, IsSearched, IsStateTold, IsTestRefusal, IsTold, IsWrittenRefusal}
use Rattle.plain_commands.specs.Litmus.{KeepsImage}
use Rattle.plain_commands.specs.{Outcomes.IsWant, StateOrders.HasWrittenState, StateOrders.state_asked}

-- A search that isn't whole, and doesn't end with a first outcome, is beyond its budget.
pub beyond_of : (found : Found) (extent : Extent) → extent ≡ found.extent → (found.extent ≡ First → ⊥)
    → (extent ≡ Beyond) ⊎ (extent ≡ First) → found.extent ≡ Beyond
beyond_of found extent is none (inl beyond) = sym is ∙ beyond
beyond_of found extent is none (inr first) = absurd (none (sym is ∙ first))

-- Where no file is written, none has the image, a picture or an order.
no_files : {A : Type 0} (image svg order : Option A)
    → is_some (if is_some image then image else (if is_some svg then svg else order)) ≡ false
    → (is_some image ≡ false) × (is_some svg ≡ false) × (is_some order ≡ false)
no_files None None order none = (refl, refl, none)
no_files None (Some name) order none = absurd (true≢false none)
no_files (Some name) svg order none = absurd (true≢false none)

pub unwritten : (command : LitmusCommand) → is_some (written_for_test command) ≡ false
    → (is_some command.image ≡ false) × (is_some command.svg ≡ false) × (state_asked command ≡ None)
unwritten command none =
    let files = no_files command.image command.svg (written_order (order_asked command)) none in
    (files.0, files.1, rw files.2 refl)

-- Where no state is named, the order of none is asked for.
pub none_asked : (command : LitmusCommand) → is_some command.outcome ≡ false → state_asked command ≡ None
none_asked command none = either _ command.outcome none
  where
    either : (b : Bool) (outcome : Option ℕ) → is_some outcome ≡ false → (if b then outcome else None) ≡ None
    either true None none = refl
    either false None none = refl
    either b (Some number) none = absurd (true≢false none)

pub not_both : (b : Bool) (P : Type 0) → b ≡ false → b ≡ true → P
not_both b P off on = absurd (cc)

-- ---- What is refused

module _ (test : LitmusTest) (settings : Settings) (command : LitmusCommand) where
  pub want_refused : (why : Refused) → IsWant why → IsTestRefusal test settings command why
  want_refused reasons.Memory is = inl tt
  want_refused reasons.Output is = inl tt
  want_refused _ is = absurd is

  pub written_refused : (image : ProgramImage) (watch : Watch) → IsSearched test image watch → (found : Found)
      → InEachSetup image (length test.threads.items) (λ setup. IsExactList setup watch found) → IsOnce found
      → (why : Refused) → IsWrittenRefusal settings image test command found.listed why
      → IsTestRefusal test settings command why
  written_refused image watch searched found all once why (inl is) = inl is
  written_refused image watch searched found all once why (inr is) = inr (record {
    image = image;
    watch = watch;
    searched = searched;
    found = found;
    all = all;
    once = once;
    holds = is;
  })

-- ---- What it comes to

-- The image that was put into a file is in it where nothing was put behind that.
pub image_kept : {S : Type 0} (written : S → Option (List ℕ)) (has_failed : S → Bool) (old between new : S)
    (test : LitmusTest) (command : LitmusCommand) (image : ProgramImage)
    → (is_some command.image ≡ true → HasPut written has_failed old between (test_file test image))
    → (is_some command.svg ≡ false → state_asked command ≡ None → new ≡ between)
    → KeepsImage test command image (HasPut written has_failed old new)
image_kept {S} written has_failed old between new test command image put left is undrawn unordered =
    subst (λ (s : S). HasPut written has_failed old s (test_file test image))
    (sym (left undrawn (none_asked command unordered))) (put is)

-- What a search of so many harts finds is so for as many as the test has.
pub of_harts : (image : ProgramImage) (harts count : ℕ) (P : Setup → Type 0) → harts ≡ count
    → InEachSetup image harts P → InEachSetup image count P
of_harts image harts count P same all = subst (λ n. InEachSetup image n P) same all

module _ (test : LitmusTest) (settings : Settings) (command : LitmusCommand) (image : ProgramImage) (watch : Watch)
    (harts : ℕ) (count : harts ≡ length test.threads.items) (searched : IsSearched test image watch)
    (Put : List ℕ → Type 0) (is_kept : KeepsImage test command image Put) (old new : Option (List ℕ)) where
  pub all_told : (found : Found) → InEachSetup image harts (λ setup. IsExactList setup watch found)
      → InEachSetup image harts (λ setup. CoversCores setup watch found) → IsOnce found
      → (answer : Result ℕ Refused) → OnOk answer (IsTold settings image test command found old new)
      → (is_some command.image ≡ false → OnOk answer (IsStateTold settings image test command Put found.listed))
      → IfOk answer (λ status. status ≡ 0) → IfOk answer (TestComesTo test settings command Put old new)
  all_told found all cores once (Ok status) told written zero = inl (record {
    image = image;
    watch = watch;
    searched = searched;
    kept = is_kept;
    found = found;
    all = of_harts image harts _ (λ setup. IsExactList setup watch found) count all;
    cores = of_harts image harts _ (λ setup. CoversCores setup watch found) count cores;
    once = once;
    told = told;
    written = written;
    zero = zero;
  })
  all_told found all cores once (Err why) told written zero = tt

  pub more_told : IsBeyond image harts command.states
      → Appends old new (incomplete_text command.states) → TestComesTo test settings command Put old new 3
  more_told beyond printed = inr (record {
    image = image;
    watch = watch;
    searched = searched;
    kept = is_kept;
    beyond = subst (λ n. IsBeyond image n command.states) count beyond;
    printed = printed;
    three = refl;
  })

-- What was written behind a file that is as it was, and before one that stays.
pub same_file : {S : Type 0} (written : S → Option (List ℕ)) (has_failed : S → Bool) (old lent left new : S)
    (settings : Settings) (image : ProgramImage) (test : LitmusTest) (command : LitmusCommand) (listed : List Told)
    → lent ≡ old → left ≡ new
    → HasWrittenState settings image test command (HasPut written has_failed lent left) (state_asked command) listed
    → HasWrittenState settings image test command (HasPut written has_failed old new) (state_asked command) listed
same_file {S} written has_failed old lent left new settings image test command listed was stays is =
    subst (λ (s : S). HasWrittenState settings image test command (HasPut written has_failed old s) (state_asked command)
    listed) stays
    (subst (λ (s : S). HasWrittenState settings image test command (HasPut written has_failed s left)
    (state_asked command) listed) was is)

pub state_told : {S : Type 0} (written : S → Option (List ℕ)) (has_failed : S → Bool) (old lent new : S)
    (settings : Settings) (image : ProgramImage) (test : LitmusTest) (command : LitmusCommand) (listed : List Told)
    → (is_some command.image ≡ false → lent ≡ old) → (answer : Result ℕ Refused)
    → OnOk answer (IsStateTold settings image test command (HasPut written has_failed lent new) listed)
    → is_some command.image ≡ false
    → OnOk answer (IsStateTold settings image test command (HasPut written has_failed old new) listed)
state_told written has_failed old lent new settings image test command listed was (Ok status) told none =
    λ undrawn. same_file written has_failed old lent new new settings image test command listed (was none) refl
    (told undrawn)
state_told written has_failed old lent new settings image test command listed was (Err why) told none = tt

-- What is written and then printed, by what is written and what stays.
pub written_told : {S : Type 0} (written : S → Option (List ℕ)) (has_failed : S → Bool) (old left new : S)
    (settings : Settings) (image : ProgramImage) (test : LitmusTest) (command : LitmusCommand) (listed : List Told)
    → HasWrittenState settings image test command (HasPut written has_failed old left) (state_asked command) listed
    → (is_some command.svg ≡ false → new ≡ left)
    → IsStateTold settings image test command (HasPut written has_failed old new) listed
written_told written has_failed old left new settings image test command listed is stays undrawn =
    same_file written has_failed old old left new settings image test command listed refl (sym (stays undrawn)) is
