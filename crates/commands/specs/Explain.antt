-- The command `explain`: why a configuration or an image is refused, or what is in it. (This
-- project's own choice.)
use Rattle.std.specs.Prelude.{◌≡◌, ℕ, List, [], ◌++◌, Option, None, Ok, Err, IfSome, codes}
use Rattle.elf_image.specs.{declared.refusal.LoadRefused.LoadRefused, Refusal.reason_number}
use Rattle.text_fields.specs.{Printing.Prints}
use Rattle.elf_image.specs.Image.{ProgramImage}
use Rattle.scripts.specs.{declared.actions.ScriptWord.ScriptWord}
use Rattle.scripts.specs.Script.{IsScript, IsFirstMisspelled}
use Rattle.sim_inputs.specs.{declared.settings.Settings.Settings, declared.line.Beside.Beside}
use Rattle.sim_inputs.specs.Configuration.{with_harts}
use Rattle.sim_inputs.specs.declared.line.Beside.TheVariants as beside
use Rattle.sim_inputs.specs.declared.explained.fault.NumberKey.TheVariants as key
use Rattle.sim_inputs.specs.Explained.{default_of}
use Rattle.explanations.specs.Explained.{Begins, IsAccepted, IsRefusedBy, IsImageTold}
use Rattle.explanations.specs.{ConfigRefusal.IsConfigRefusedText, ImageRefusal.IsImageRefusedText}
use Rattle.explanations.specs.ConfigText.{accepted_config}
use Rattle.core_commands.specs.{Check.AreHistory, Check.OfEvents, Judgement.IsJudgementRefusal}
use Rattle.explained_words.specs.Explained.{IsOrderFault, IsFollowed, script_head, order_head}
use Rattle.explained_words.specs.declared.order.OrderFault.TheVariants as fault
use Rattle.command_parts.specs.{declared.refused.Refused.Refused}
use Rattle.command_parts.specs.declared.refused.Refused.TheVariants.{Image, Config, Script, Order, Step, Memory, File}
use Rattle.command_parts.specs.declared.refused.Refused.TheVariants.{Output}
use Rattle.command_parts.specs.declared.refused.Unread.TheVariants as unread
use Rattle.command_parts.specs.Refused.{IsFirstFailed}
use Rattle.command_parts.specs.Inputs.{Read, OfFile, OfSettings, IsNoConfiguration}

-- When each refusal comes: as for every other command, the configuration's before the image's. Of
-- memory and of the output nothing is said.
abbrev pub IsExplainRefusal : List ℕ → Read → Refused → Type 0
IsExplainRefusal config image (Image number) = OfSettings (Ok config)
    (λ settings. OfFile image (λ file. IsFirstFailed file settings.ram number))
IsExplainRefusal config image Config = IsNoConfiguration config
IsExplainRefusal config image Memory = Unit {0}
IsExplainRefusal config image File = OfSettings (Ok config) (λ settings. image ≡ Err unread.File)
IsExplainRefusal config image Output = Unit {0}
IsExplainRefusal config image _ = ⊥

-- No more than memory or the output is refused.
abbrev pub IsWritingRefusal : Refused → Type 0
IsWritingRefusal Memory = Unit {0}
IsWritingRefusal Output = Unit {0}
IsWritingRefusal _ = ⊥

-- A text says which settings a configuration makes, with so many harts where that is given, and behind that all that
-- there is to say of the file of an image that is accepted.
pub record TellsBoth (harts : Option ℕ) (settings : Settings) (file text : List ℕ) : Type 0 where
  pub said : List ℕ
  pub accepted : IsAccepted file settings.ram said
  pub whole : text ≡ accepted_config (with_harts harts settings) ++ said

-- Or behind that all that is said of an image that fails the check of this number.
pub record TellsCheck (harts : Option ℕ) (settings : Settings) (file : List ℕ) (number : ℕ) (text : List ℕ)
    : Type 0 where
  pub check : LoadRefused
  pub has_number : number ≡ reason_number check
  pub said : List ℕ
  pub is_said : IsImageRefusedText file settings.ram check said
  pub whole : text ≡ accepted_config (with_harts harts settings) ++ said

-- Of an image beside a configuration that is refused: all that is said of it with the memory that there is without one;
-- nothing where it can't be read.
pub record TellsWithout (file text : List ℕ) : Type 0 where
  pub check : Option LoadRefused
  pub fails : IfSome check (IsRefusedBy file (default_of key.Ram))
  pub said : List ℕ
  pub is_said : IsImageTold file (default_of key.Ram) check said
  pub whole : text ≡ codes "the image without a configuration:\n" ++ said

abbrev pub IsBehindRefused : Read → List ℕ → Type 0
IsBehindRefused (Ok file) text = TellsWithout file text
IsBehindRefused (Err unread.File) text = text ≡ []
IsBehindRefused (Err unread.Memory) text = ⊥

-- Which fault a configuration has, and that behind it.
pub record TellsFault (config : List ℕ) (image : Read) (text : List ℕ) : Type 0 where
  pub first : List ℕ
  pub is_first : IsConfigRefusedText config first
  pub behind : List ℕ
  pub is_behind : IsBehindRefused image behind
  pub whole : text ≡ first ++ behind

-- What was printed before a refusal: why the configuration is refused, and what there is to say of the image without
-- it; or which settings it makes, and why the image is refused.
abbrev pub IsExplanationOf : Option ℕ → List ℕ → Read → Refused → Option (List ℕ) → Option (List ℕ) → Type 0
IsExplanationOf harts config image (Image number) old new = OfSettings (Ok config)
    (λ settings. OfFile image (λ file. Prints old new (TellsCheck harts settings file number)))
IsExplanationOf harts config image Config old new = Prints old new (TellsFault config image)
IsExplanationOf harts config image reason old new = Unit {0}

-- What the command comes to: both are accepted, it says what is in them, and the exit status is 0.
pub record ExplainComesTo (harts : Option ℕ) (config image : Read) (old new : Option (List ℕ)) (exit_status : ℕ)
    : Type 0 where
  pub printed : OfSettings config (λ settings. OfFile image (λ file. Prints old new (TellsBoth harts settings file)))
  pub zero : exit_status ≡ 0

-- ---- Beside them

-- When each refusal comes of a text beside an image that is accepted: of a script its first word that says
-- nothing, of an order its first word that the plain machine doesn't follow, of a trace as by `check`. Of memory and
-- of the output nothing is said.
abbrev pub IsScriptFault : List ℕ → Refused → Type 0
IsScriptFault script (Script number) = IsFirstMisspelled script number
IsScriptFault script Memory = Unit {0}
IsScriptFault script Output = Unit {0}
IsScriptFault script _ = ⊥

abbrev pub IsFaultOfOrder : Settings → ProgramImage → List ℕ → Refused → Type 0
IsFaultOfOrder settings image order (Order index) =
    IsOrderFault image settings.config.harts order (fault.Word index)
IsFaultOfOrder settings image order (Step index why) =
    IsOrderFault image settings.config.harts order (fault.Step index why)
IsFaultOfOrder settings image order Memory = Unit {0}
IsFaultOfOrder settings image order Output = Unit {0}
IsFaultOfOrder settings image order _ = ⊥

abbrev pub IsBesideFault : Beside → Settings → ProgramImage → List ℕ → Refused → Type 0
IsBesideFault (beside.Script name) settings image text reason = IsScriptFault text reason
IsBesideFault (beside.Order name) settings image text reason = IsFaultOfOrder settings image text reason
IsBesideFault (beside.Trace name) settings image text reason = IsJudgementRefusal settings image text reason

-- The text is accepted: all words of a script say something; the plain machine follows an order; the events of a
-- trace are a history of the core that it is of.
abbrev pub IsTextAccepted : Beside → Settings → ProgramImage → List ℕ → Type 0
IsTextAccepted (beside.Script name) settings image text = (words : List ScriptWord) × IsScript text words
IsTextAccepted (beside.Order name) settings image text = IsFollowed image settings.config.harts text
IsTextAccepted (beside.Trace name) settings image text = OfEvents settings image text AreHistory

-- The line that says so.
abbrev pub accepted_line : Beside → List ℕ
accepted_line (beside.Script name) = script_head None
accepted_line (beside.Order name) = order_head None
accepted_line (beside.Trace name) = codes "trace accepted\n"

-- Of a text that is accepted: it was told behind all else that was printed.
pub record TellsBeside (told : Beside) (settings : Settings) (image : ProgramImage) (text : List ℕ)
    (old new : Option (List ℕ)) : Type 0 where
  pub accepted : IsTextAccepted told settings image text
  pub printed : Prints old new (Begins (accepted_line told))
