-- The picture of the story of an order. (This project's own choice.)
use Rattle.std.specs.Prelude.{◌≡◌, ℕ, Bool, true, false, List, reverse, Option, Some, None}
use Rattle.event_text.specs.Sinking.{HasPut}
use Rattle.elf_image.specs.Image.{ProgramImage}
use Rattle.plain_run.specs.Orders.{IsStoppedAt, OfEachSetup}
use Rattle.sc_machine.specs.{Steps.are_harts}
use Rattle.smt_model.specs.Setup.{Setup}
use Rattle.story_text.specs.Text.{Plan as StoryPlan}
use Rattle.story_pictures.specs.{Form.Plan, Order.HasManyRows, Order.rows_told, Picture.picture_text}
use Rattle.story_pictures.specs.declared.{form.Theme.Theme, order.Undrawn.Undrawn}
use Rattle.story_pictures.specs.declared.order.Undrawn.TheVariants as undrawn
use Rattle.command_parts.specs.{declared.refused.Refused.Refused}
use Rattle.command_parts.specs.declared.refused.Refused.TheVariants as reasons

-- A picture of an order that was found has what its story has, and at its foot what stands behind the story's text; where
-- the order ends in a stuck state, that is marked.
abbrev pub picture_plan : StoryPlan → List ℕ → Theme → Plan
picture_plan plan foot theme = record {
  harts = plan.harts;
  names = plan.names;
  marks = plan.marks;
  is_stuck = true;
  foot = foot;
  theme = theme;
}

-- The text is the picture of the order's story.
abbrev pub IsPictureOf : Plan → Setup → List ℕ → List ℕ → Type 0
IsPictureOf plan setup order text = text ≡ picture_text plan (rows_told setup (reverse order))

-- Why there is none: the machine refuses the order, or there are too many rows.
abbrev pub HasLongStory : ProgramImage → ℕ → List ℕ → Type 0
HasLongStory image harts order = OfEachSetup image harts (λ setup. HasManyRows setup order)

abbrev pub undrawn_for : Undrawn → Refused
undrawn_for (undrawn.Step at) = reasons.Step at.index at.why
undrawn_for undrawn.Many = reasons.LongStory
undrawn_for undrawn.Memory = reasons.Memory

abbrev pub IsDrawingRefusal : ProgramImage → ℕ → List ℕ → Refused → Type 0
IsDrawingRefusal image harts order reasons.Config = are_harts harts ≡ false
IsDrawingRefusal image harts order (reasons.Step index why) = IsStoppedAt image harts order index why
IsDrawingRefusal image harts order reasons.LongStory = HasLongStory image harts order
IsDrawingRefusal image harts order reasons.Memory = Unit {0}
IsDrawingRefusal image harts order _ = ⊥

-- The picture is in the file, where one is wanted; else the file is what it was.
pub record IsPicturePut {S : Type 0} (written : S → Option (List ℕ)) (has_failed : S → Bool) (old new : S)
    (image : ProgramImage) (harts : ℕ) (plan : Plan) (order : List ℕ) : Type 0 where
  pub text : List ℕ
  pub is : OfEachSetup image harts (λ setup. IsPictureOf plan setup order text)
  pub put : HasPut written has_failed old new text

abbrev pub HasPutPicture : {S : Type 0} → (S → Option (List ℕ)) → (S → Bool) → S → S → ProgramImage → ℕ → Option Plan
    → List ℕ → Type 0
HasPutPicture written has_failed old new image harts None order = new ≡ old
HasPutPicture written has_failed old new image harts (Some plan) order =
    IsPicturePut written has_failed old new image harts plan order

-- What is refused as it is put there.
abbrev pub IsPuttingRefusal : ProgramImage → ℕ → List ℕ → Bool → Refused → Type 0
IsPuttingRefusal image harts order is_drawn reasons.Config = are_harts harts ≡ false
IsPuttingRefusal image harts order is_drawn (reasons.Step index why) = IsStoppedAt image harts order index why
IsPuttingRefusal image harts order is_drawn reasons.LongStory = (is_drawn ≡ true) × HasLongStory image harts order
IsPuttingRefusal image harts order is_drawn reasons.Memory = Unit {0}
IsPuttingRefusal image harts order is_drawn reasons.Output = Unit {0}
IsPuttingRefusal image harts order is_drawn _ = ⊥
