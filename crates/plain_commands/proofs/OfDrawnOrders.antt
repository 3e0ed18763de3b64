-- The picture of an order: why there is none.
use Rattle.std.specs.Prelude.{◌≡◌, ℕ, Bool, true, List, length}
use Rattle.elf_image.specs.Image.{ProgramImage}
use Rattle.sc_machine.specs.{Machine.Machine, Steps.IsNew}
use Rattle.story_pictures.specs.Order.{IsUndrawn}
use Rattle.story_pictures.specs.declared.order.Undrawn.{Undrawn}
use Rattle.story_pictures.specs.declared.order.Undrawn.TheVariants as undrawn
use Rattle.command_parts.specs.declared.refused.Refused.{Refused}
use Rattle.command_parts.specs.declared.refused.Refused.TheVariants as reasons
use Rattle.plain_commands.specs.DrawnOrders.{IsDrawingRefusal, IsPuttingRefusal, undrawn_for}
use Rattle.plain_commands.specs.Plain.{IsMachineRefusal}
use Rattle.plain_commands.proofs.OfPlain.{stopped_at}

pub drawing_refusal : (image : ProgramImage) (harts : ℕ) (order : List ℕ) (first : Machine) (why : Undrawn)
    → IsNew image harts (length order) first → IsUndrawn order first why
    → IsDrawingRefusal image harts order (undrawn_for why)
drawing_refusal image harts order first (undrawn.Step at) new is = stopped_at image harts order first at new is
drawing_refusal image harts order first undrawn.Many new is =
    λ setup of_image of_harts. is setup (new.agrees setup of_image of_harts)
drawing_refusal image harts order first undrawn.Memory new is = tt

-- What is refused of a picture that is wanted is refused as it is put into its file.
pub putting_refusal : (image : ProgramImage) (harts : ℕ) (order : List ℕ) (is_drawn : Bool) → is_drawn ≡ true
    → (why : Refused) → IsDrawingRefusal image harts order why → IsPuttingRefusal image harts order is_drawn why
putting_refusal image harts order is_drawn wanted reasons.Config is = is
putting_refusal image harts order is_drawn wanted (reasons.Step index stopped) is = is
putting_refusal image harts order is_drawn wanted reasons.LongStory is = (wanted, is)
putting_refusal image harts order is_drawn wanted reasons.Memory is = tt
putting_refusal image harts order is_drawn wanted _ is = absurd is

-- What stands at the foot of a picture is refused where its rows are.
pub closing_refusal : (image : ProgramImage) (harts : ℕ) (order : List ℕ) (why : Refused)
    → IsMachineRefusal image harts order why → IsDrawingRefusal image harts order why
closing_refusal image harts order reasons.Config is = is
closing_refusal image harts order (reasons.Step index stopped) is = is
closing_refusal image harts order reasons.Memory is = tt
closing_refusal image harts order _ is = absurd is
