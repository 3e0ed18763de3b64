-- What is said of a script and of an order. (This project's own choice.)
use Rattle.std.specs.Prelude.{ℕ, List, ◌++◌, Option, Some, None, IfSome, IfNone, codes}
use Rattle.std.specs.Fmt.{decimal}
use Rattle.elf_image.specs.Image.{ProgramImage}
use Rattle.sc_machine.specs.Refusals.{number_of}
use Rattle.plain_run.specs.Orders.{OfEachSetup, HasLeft, IsStoppedAt}
use Rattle.plain_run.specs.Left.{Left}
use Rattle.scripts.specs.{declared.actions.ScriptWord.ScriptWord}
use Rattle.scripts.specs.Script.{IsScript, IsFirstMisspelled}
use Rattle.scripts.specs.Order.{IsOrder, IsFirstNoHart}
use Rattle.explanations.specs.Explained.{Begins}
use Rattle.explained_words.specs.{declared.script.ScriptExplained.ScriptExplained}
use Rattle.explained_words.specs.{declared.order.OrderExplained.OrderExplained}
use Rattle.explained_words.specs.declared.order.OrderFault.{OrderFault}
use Rattle.explained_words.specs.declared.order.OrderFault.TheVariants as fault

-- The first line of what is said of a script that is refused at this word, from 1, or at none.
abbrev pub refused_script : ℕ → List ℕ
refused_script number = codes "script refused " ++ (decimal number ++ codes "\n")

abbrev pub script_head : Option ℕ → List ℕ
script_head None = codes "script accepted\n"
script_head (Some number) = refused_script number

-- What is said of a script: that it is accepted, where all of its words say something, and else that it is
-- refused, and the first word that says nothing.
pub record IsScriptExplained (script : List ℕ) (said : ScriptExplained) : Type 0 where
  pub accepted : IfNone said.refused ((words : List ScriptWord) × IsScript script words)
  pub refused : IfSome said.refused (IsFirstMisspelled script)
  pub begins : Begins (script_head said.refused) said.text.items

-- The place of the word of a fault, from 0, and the number of its reason.
abbrev pub place_of : OrderFault → ℕ
place_of (fault.Word index) = index
place_of (fault.Step index why) = index

abbrev pub reason_of : OrderFault → ℕ
reason_of (fault.Word index) = 4
reason_of (fault.Step index why) = number_of why

-- The first line of what is said of an order that is refused for this fault, or for none.
abbrev pub refused_order : OrderFault → List ℕ
refused_order why =
    codes "order refused " ++ (decimal (place_of why) ++ (codes " " ++ (decimal (reason_of why) ++ codes "\n")))

abbrev pub order_head : Option OrderFault → List ℕ
order_head None = codes "order accepted\n"
order_head (Some why) = refused_order why

-- The fault is the first of an order: a word that is no number, or else a step that the plain machine of this
-- image doesn't make.
abbrev pub IsOrderFault : ProgramImage → ℕ → List ℕ → OrderFault → Type 0
IsOrderFault image harts text (fault.Word index) = IsFirstNoHart text index
IsOrderFault image harts text (fault.Step index why) =
    (order : List ℕ) × IsOrder text order × IsStoppedAt image harts order index why

-- All words are harts, and the plain machine makes all their steps.
abbrev pub IsFollowed : ProgramImage → ℕ → List ℕ → Type 0
IsFollowed image harts text = (order : List ℕ) × IsOrder text order
    × ((left : Left) × OfEachSetup image harts (λ setup. HasLeft setup order left))

-- What is said of an order: that it is accepted, where the plain machine follows it, and else that it is
-- refused, and the first fault.
pub record IsOrderExplained (image : ProgramImage) (harts : ℕ) (text : List ℕ) (said : OrderExplained) : Type 0 where
  pub accepted : IfNone said.refused (IsFollowed image harts text)
  pub refused : IfSome said.refused (IsOrderFault image harts text)
  pub begins : Begins (order_head said.refused) said.text.items
