-- The story of a core: what is told of its retirements, and what may be refused of it.
use Rattle.std.specs.Prelude.{◌≡◌, ◌⊎◌, ℕ, ◌<◌, ◌≤◌, false, List, Option, Some, reverse}
use Rattle.std.proofs.Common.{refl, sym, subst, arith}
use Rattle.std.proofs.lemmas.Bool.Decides.{nat_tests}
use mathlib.Core.Logic.{inl, inr}
use Rattle.std.specs.Io.KnownBytes.{Appends}
use Rattle.elf_image.specs.Image.{ProgramImage}
use Rattle.numbers.specs.Sizes.{most_harts}
use Rattle.core_state.specs.View.{CoreView}
use Rattle.sc_machine.specs.Steps.{are_harts}
use Rattle.sc_machine.specs.declared.refused.Stopped.{Stopped}
use Rattle.plain_run.specs.Orders.{IsStoppedAt, OfEachSetup}
use Rattle.history_check.specs.Rerun.{IsRetirementOrder}
use Rattle.address_labels.specs.Labels.{Marks}
use Rattle.plain_commands.specs.Plain.{IsStoryRefusal, told_text}
use Rattle.command_parts.specs.declared.refused.Refused.{Refused}
use Rattle.command_parts.specs.declared.refused.Refused.TheVariants.{Image, Config, Harts, Script, Order, Step, Memory}
use Rattle.command_parts.specs.declared.refused.Refused.TheVariants.{File, Output, Thread, Trace, Version, Event}
use Rattle.command_parts.specs.declared.refused.Refused.TheVariants.{NoUnit, Limit, NoHart, Prediction, Register}
use Rattle.command_parts.specs.declared.refused.Refused.TheVariants.{Picture, Lines, NamesNothing, NamesSeveral}
use Rattle.command_parts.specs.declared.refused.Refused.TheVariants.{NeverFetched, Turned, Watch, Condition}
use Rattle.command_parts.specs.declared.refused.Refused.TheVariants.{ManyWatched, NoWord, NoOutcome, NotStuck}
use Rattle.command_parts.specs.declared.refused.Refused.TheVariants.{LongStory, NoAnswer, Litmus, NothingToDraw}
use Rattle.core_commands.specs.Account.{story_of}
use Rattle.core_commands.specs.Wanted.{StoryRows}

-- A core has harts, and not too many.
some_harts : (harts : ℕ) → 0 < harts → harts ≤ most_harts → are_harts harts ≡ false → ⊥
some_harts harts some few none = absurd (grind (arith, nat_tests, some, few, none))

-- The plain machine stops at no step of a core's order, which is of its image and its harts.
no_stop : (core : CoreView) (image : ProgramImage) (harts : ℕ) (listed : List ℕ) (index : ℕ) (why : Stopped)
    → core.setup.image ≡ image → core.setup.harts ≡ harts → IsRetirementOrder core listed
    → IsStoppedAt image harts listed index why → ⊥
no_stop core image harts listed index why of_image of_harts is stopped =
    is.unstopped index why
    (subst (λ (n : ℕ). IsStoppedAt core.setup.image n listed index why) (sym of_harts)
    (subst (λ (i : ProgramImage). IsStoppedAt i harts listed index why) (sym of_image) stopped))

-- So nothing is refused of its story but memory and the output.
module _ (core : CoreView) (image : ProgramImage) (harts : ℕ) (listed : List ℕ) (of_image : core.setup.image ≡ image)
    (of_harts : core.setup.harts ≡ harts) (some : 0 < harts) (few : harts ≤ most_harts)
    (is : IsRetirementOrder core listed) where
  pub story_refusal : (reason : Refused) → IsStoryRefusal image harts listed reason
      → (reason ≡ Memory) ⊎ (reason ≡ Output)
  story_refusal Config none = absurd (some_harts harts some few none)
  story_refusal (Step index why) stopped =
      absurd (no_stop core image harts listed index why of_image of_harts is stopped)
  story_refusal Memory so = inl refl
  story_refusal Output so = inr refl
  story_refusal (Image number) never = absurd never
  story_refusal Harts never = absurd never
  story_refusal (Script number) never = absurd never
  story_refusal (Order index) never = absurd never
  story_refusal (Trace line rule) never = absurd never
  story_refusal Version never = absurd never
  story_refusal (Event index rule) never = absurd never
  story_refusal (Prediction index) never = absurd never
  story_refusal (Register index) never = absurd never
  story_refusal (NoUnit kind) never = absurd never
  story_refusal (Limit least) never = absurd never
  story_refusal (NoHart hart) never = absurd never
  story_refusal (Lines number fault) never = absurd never
  story_refusal (NamesNothing option) never = absurd never
  story_refusal (NamesSeveral option) never = absurd never
  story_refusal (NeverFetched option) never = absurd never
  story_refusal (Turned from to) never = absurd never
  story_refusal (Picture last) never = absurd never
  story_refusal (Watch why) never = absurd never
  story_refusal (Condition why) never = absurd never
  story_refusal ManyWatched never = absurd never
  story_refusal (NoWord address) never = absurd never
  story_refusal (NoOutcome number) never = absurd never
  story_refusal NotStuck never = absurd never
  story_refusal NoAnswer never = absurd never
  story_refusal LongStory never = absurd never
  story_refusal (Litmus place fault) never = absurd never
  story_refusal NothingToDraw never = absurd never
  story_refusal Thread never = absurd never
  story_refusal File never = absurd never

  -- What is told of the order is the story of the core.
  pub story_is_told : (told : Option StoryRows) (rows : StoryRows) (marks : Marks) (columns : ℕ)
      (old new : Option (List ℕ)) → told ≡ Some rows → columns ≡ core.setup.harts
      → OfEachSetup image harts (λ setup. Appends old new (told_text
      (Some (record { harts = columns; all = rows.all; names = rows.names; marks = marks })) setup (reverse listed)))
      → Appends old new (story_of told marks core)
  story_is_told told rows marks columns old new wanted same tells =
      let own = tells core.setup of_image of_harts in
      let of_columns = subst (λ (n : ℕ). Appends old new (told_text
      (Some (record { harts = n; all = rows.all; names = rows.names; marks = marks })) core.setup (reverse listed)))
      same own in
      let of_core = subst (λ (hs : List ℕ). Appends old new (told_text
      (Some (record { harts = core.setup.harts; all = rows.all; names = rows.names; marks = marks })) core.setup hs))
      is.reversed of_columns in
      subst (λ (t : Option StoryRows). Appends old new (story_of t marks core)) (sym wanted) of_core
