-- The command `explain`: what is printed in parts, and which refusal of a line it is.
use Rattle.std.specs.Prelude.{◌≡◌, ℕ, ◌++◌, List, [], Option, Some, None, Ok, Err}
use Rattle.std.specs.Prelude.{codes}
use Rattle.std.proofs.Common.{refl, sym, ap, ◌∙◌, append_assoc, subst, IfSome}
use Rattle.std.proofs.lemmas.List.{append-nil}
use mathlib.Core.Logic.{inl, inr}
use Rattle.std.specs.Io.KnownBytes.{Appends}
use Rattle.text_fields.specs.{Printing.Prints}
use Rattle.elf_image.specs.{declared.refusal.LoadRefused.LoadRefused, Refusal.reason_number, Loaded.IsImageOf}
use Rattle.elf_image.specs.Image.{ProgramImage}
use Rattle.explanations.specs.Explained.{IsRefusedBy, IsAccepted, IsConfigTold, IsImageTold}
use Rattle.explanations.specs.{ConfigRefusal.IsConfigRefusedText, ImageRefusal.IsImageRefusedText}
use Rattle.sim_inputs.specs.declared.explained.fault.NumberKey.TheVariants as key
use Rattle.sim_inputs.specs.Explained.{default_of}
use Rattle.sim_inputs.specs.{declared.settings.Settings.Settings}
use Rattle.sim_inputs.specs.{Configuration.IsConfiguration, Configuration.with_harts, declared.line.Beside.Beside}
use Rattle.sim_inputs.specs.declared.line.Beside.TheVariants as beside
use Rattle.command_parts.specs.declared.refused.Refused.{Refused}
use Rattle.command_parts.specs.declared.refused.Refused.TheVariants.{Image, Config, Harts, Script, Order, Step}
use Rattle.command_parts.specs.declared.refused.Refused.TheVariants.{Memory, File}
use Rattle.command_parts.specs.declared.refused.Refused.TheVariants.{Output, Thread, Trace, Version, Event, NoUnit}
use Rattle.command_parts.specs.declared.refused.Refused.TheVariants.{Limit, NoHart}
use Rattle.command_parts.specs.declared.refused.Refused.TheVariants.{Prediction, Register, Picture}
use Rattle.command_parts.specs.declared.refused.Refused.TheVariants.{Lines, NamesNothing, NamesSeveral, NeverFetched}
use Rattle.command_parts.specs.declared.refused.Refused.TheVariants.{Turned}
use Rattle.command_parts.specs.declared.refused.Refused.TheVariants.{Watch, Condition, ManyWatched, NoWord}
use Rattle.command_parts.specs.declared.refused.Refused.TheVariants.{NoOutcome, NotStuck, NoAnswer, Litmus}
use Rattle.command_parts.specs.declared.refused.Refused.TheVariants.{NothingToDraw, LongStory}
use Rattle.command_parts.specs.declared.refused.Unread.TheVariants as unread
use Rattle.command_parts.specs.Refused.{IsImageRefusal, PassesAll}
use Rattle.command_parts.specs.Inputs.{Read, OfProgram, BehindFile, IsConfigRefusal}
use Rattle.commands.specs.Explain.{IsExplainRefusal, ExplainComesTo, TellsBoth, TellsCheck}
use Rattle.commands.specs.Explain.{IsBehindRefused, TellsFault, TellsWithout}
use Rattle.commands.specs.Explain.{IsBesideFault}
use Rattle.commands.specs.Perform.{ExplainLineComesTo, IsExplainLineRefusal, HasToldBeside}
use Rattle.core_commands.specs.Judgement.{IsJudgementRefusal}
use Rattle.commands.proofs.OfLine.{accepted_of}

-- ---- What is printed

appended : (old mid new : Option (List ℕ)) (a b : List ℕ) → Appends old mid a → Appends mid new b
    → Appends old new (a ++ b)
appended None mid new a b first second = tt
appended (Some xs) None new a b first second = absurd first
appended (Some xs) (Some ys) None a b first second = absurd second
appended (Some xs) (Some ys) (Some zs) a b first second =
    second ∙ ap (λ us. us ++ b) first ∙ append_assoc xs a b

-- what is said of a configuration, and then of an image
pub prints_both : (old mid new : Option (List ℕ)) (harts : Option ℕ) (config : List ℕ) (settings : Settings)
    (file : List ℕ) → Prints old mid (IsConfigTold harts config (Some settings))
    → Prints mid new (IsAccepted file settings.ram)
    → Prints old new (TellsBoth harts settings file)
prints_both old mid new harts config settings file (a, is_a, first) (b, is_b, second) = (
  a ++ b,
  record { said = b; accepted = is_b; whole = ap (λ t. t ++ b) is_a },
  appended old mid new a b first second,
)

-- or why that is refused
pub prints_check : (old mid new : Option (List ℕ)) (harts : Option ℕ)
    (config : List ℕ) (settings : Settings) (file : List ℕ)
    (number : ℕ) (check : LoadRefused) → number ≡ reason_number check
    → Prints old mid (IsConfigTold harts config (Some settings))
    → Prints mid new (IsImageRefusedText file settings.ram check)
    → Prints old new (TellsCheck harts settings file number)
prints_check old mid new harts config settings file number check same (a, is_a, first) (b, is_b, second) = (
  a ++ b,
  record { check = check; has_number = same; said = b; is_said = is_b; whole = ap (λ t. t ++ b) is_a },
  appended old mid new a b first second,
)

-- which fault a configuration has, and behind it what is said of the image
pub prints_fault : (old mid new : Option (List ℕ)) (config : List ℕ) (image : Read)
    → Prints old mid (IsConfigRefusedText config) → Prints mid new (IsBehindRefused image)
    → Prints old new (TellsFault config image)
prints_fault old mid new config image (a, is_a, first) (b, is_b, second) = (
  a ++ b,
  record { first = a; is_first = is_a; behind = b; is_behind = is_b; whole = refl },
  appended old mid new a b first second,
)

-- the line before the image, and then what is said of it
pub prints_without : (old mid new : Option (List ℕ)) (file : List ℕ) (ram : ℕ) (check : Option LoadRefused)
    → ram ≡ default_of key.Ram → IfSome check (IsRefusedBy file ram)
    → Appends old mid (codes "the image without a configuration:\n") → Prints mid new (IsImageTold file ram check)
    → Prints old new (TellsWithout file)
prints_without old mid new file ram check usual fails first (b, is_b, second) = (
  codes "the image without a configuration:\n" ++ b,
  record {
    check = check;
    fails = subst (λ (n : ℕ). IfSome check (IsRefusedBy file n)) usual fails;
    said = b;
    is_said = subst (λ (n : ℕ). IsImageTold file n check b) usual is_b;
    whole = refl;
  },
  appended old mid new _ b first second,
)

nothing : (old : Option (List ℕ)) → Appends old old []
nothing None = tt
nothing (Some xs) = sym (append-nil xs)

pub prints_nothing : (old : Option (List ℕ)) (image : Read) → image ≡ Err unread.File
    → Prints old old (IsBehindRefused image)
prints_nothing old image unread =
    subst (λ (read : Read). Prints old old (IsBehindRefused read)) (sym unread) ([], refl, nothing old)

-- what is said of a configuration, and of an image, once it is known which it is
pub accepted_line : (harts : Option ℕ) (config : List ℕ) (found : Option Settings) (settings : Settings)
    (old mid : Option (List ℕ)) → found ≡ Some settings → Prints old mid (IsConfigTold harts config found)
    → Prints old mid (IsConfigTold harts config (Some settings))
accepted_line harts config found settings old mid is told =
    subst (λ (f : Option Settings). Prints old mid (IsConfigTold harts config f)) is told

pub refused_config : (harts : Option ℕ) (config : List ℕ) (found : Option Settings) (old mid : Option (List ℕ))
    → found ≡ None → Prints old mid (IsConfigTold harts config found) → Prints old mid (IsConfigRefusedText config)
refused_config harts config found old mid is told =
    subst (λ (f : Option Settings). Prints old mid (IsConfigTold harts config f)) is told

pub accepted_image_line : (file : List ℕ) (ram : ℕ) (found : Option LoadRefused) (old mid : Option (List ℕ))
    → found ≡ None → Prints old mid (IsImageTold file ram found) → Prints old mid (IsAccepted file ram)
accepted_image_line file ram found old mid is told =
    subst (λ (f : Option LoadRefused). Prints old mid (IsImageTold file ram f)) is told

pub refused_image : (file : List ℕ) (ram : ℕ) (found : Option LoadRefused) (check : LoadRefused)
    (old mid : Option (List ℕ)) → found ≡ Some check → Prints old mid (IsImageTold file ram found)
    → Prints old mid (IsImageRefusedText file ram check)
refused_image file ram found check old mid is told =
    subst (λ (f : Option LoadRefused). Prints old mid (IsImageTold file ram f)) is told

-- and what is so of it
pub configured : (found : Option Settings) (settings : Settings) (config : List ℕ) → found ≡ Some settings
    → IfSome found (IsConfiguration config) → IsConfiguration config settings
configured found settings config is has =
    subst (λ (f : Option Settings). IfSome f (IsConfiguration config)) is has

-- ---- Of a line

-- What a configuration is refused for, where its settings are made again.
pub config_refusal : (config : List ℕ) (image : Read) (reason : Refused) → IsConfigRefusal config reason
    → IsExplainRefusal config image reason
config_refusal config image (Image number) is = absurd is
config_refusal config image Config is = is
config_refusal config image Harts is = absurd is
config_refusal config image (Script number) is = absurd is
config_refusal config image (Order index) is = absurd is
config_refusal config image (Step index why) is = absurd is
config_refusal config image (Trace line rule) is = absurd is
config_refusal config image Version is = absurd is
config_refusal config image (Event index rule) is = absurd is
config_refusal config image (Prediction index) is = absurd is
config_refusal config image (Register index) is = absurd is
config_refusal config image (NoUnit kind) is = absurd is
config_refusal config image (Limit least) is = absurd is
config_refusal config image (NoHart hart) is = absurd is
config_refusal config image (Lines number fault) is = absurd is
config_refusal config image (NamesNothing option) is = absurd is
config_refusal config image (NamesSeveral option) is = absurd is
config_refusal config image (NeverFetched option) is = absurd is
config_refusal config image (Turned from to) is = absurd is
config_refusal config image (Picture last) is = absurd is
config_refusal config image (Watch why) is = absurd is
config_refusal config image (Litmus place fault) is = absurd is
config_refusal config image NothingToDraw is = absurd is
config_refusal config image (Condition why) is = absurd is
config_refusal config image ManyWatched is = absurd is
config_refusal config image (NoWord address) is = absurd is
config_refusal config image (NoOutcome number) is = absurd is
config_refusal config image NotStuck is = absurd is
config_refusal config image LongStory is = absurd is
config_refusal config image NoAnswer is = absurd is
config_refusal config image Memory is = tt
config_refusal config image Thread is = absurd is
config_refusal config image File is = absurd is
config_refusal config image Output is = absurd is

-- And an image, behind it.
pub loaded_refusal : (config : List ℕ) (settings : Settings) (file : List ℕ) (reason : Refused)
    → IsConfiguration config settings → IsImageRefusal file settings.ram reason
    → IsExplainRefusal config (Ok file) reason
loaded_refusal config settings file (Image number) configured is = (settings, configured, is)
loaded_refusal config settings file Config configured is = absurd is
loaded_refusal config settings file Harts configured is = absurd is
loaded_refusal config settings file (Script number) configured is = absurd is
loaded_refusal config settings file (Order index) configured is = absurd is
loaded_refusal config settings file (Step index why) configured is = absurd is
loaded_refusal config settings file (Trace line rule) configured is = absurd is
loaded_refusal config settings file Version configured is = absurd is
loaded_refusal config settings file (Event index rule) configured is = absurd is
loaded_refusal config settings file (Prediction index) configured is = absurd is
loaded_refusal config settings file (Register index) configured is = absurd is
loaded_refusal config settings file (NoUnit kind) configured is = absurd is
loaded_refusal config settings file (Limit least) configured is = absurd is
loaded_refusal config settings file (NoHart hart) configured is = absurd is
loaded_refusal config settings file (Lines number fault) configured is = absurd is
loaded_refusal config settings file (NamesNothing option) configured is = absurd is
loaded_refusal config settings file (NamesSeveral option) configured is = absurd is
loaded_refusal config settings file (NeverFetched option) configured is = absurd is
loaded_refusal config settings file (Turned from to) configured is = absurd is
loaded_refusal config settings file (Picture last) configured is = absurd is
loaded_refusal config settings file (Watch why) configured is = absurd is
loaded_refusal config settings file (Litmus place fault) configured is = absurd is
loaded_refusal config settings file NothingToDraw configured is = absurd is
loaded_refusal config settings file (Condition why) configured is = absurd is
loaded_refusal config settings file ManyWatched configured is = absurd is
loaded_refusal config settings file (NoWord address) configured is = absurd is
loaded_refusal config settings file (NoOutcome number) configured is = absurd is
loaded_refusal config settings file NotStuck configured is = absurd is
loaded_refusal config settings file LongStory configured is = absurd is
loaded_refusal config settings file NoAnswer configured is = absurd is
loaded_refusal config settings file Memory configured is = tt
loaded_refusal config settings file Thread configured is = absurd is
loaded_refusal config settings file File configured is = absurd is
loaded_refusal config settings file Output configured is = absurd is

never_harts : (settings : Settings) (program : ProgramImage) (text : List ℕ)
    → IsJudgementRefusal settings program text Harts → ⊥
never_harts settings program text (inl (why, same)) = cc
never_harts settings program text (inr is) = is

-- The text beside an image that is accepted: what is refused of it, and of its harts. It is never refused for those.
pub no_harts_beside : (told : Beside) (settings : Settings) (program : ProgramImage) (second : Read)
    → BehindFile second (IsBesideFault told settings program) Harts → ⊥
no_harts_beside (beside.Script name) settings program (Ok text) is = is
no_harts_beside (beside.Order name) settings program (Ok text) is = is
no_harts_beside (beside.Trace name) settings program (Ok text) is = never_harts settings program text is
no_harts_beside told settings program (Err unread.File) is = cc
no_harts_beside told settings program (Err unread.Memory) is = cc

pub beside_refusal : (harts : Option ℕ) (told : Beside) (config : List ℕ) (own : Settings) (file : List ℕ)
    (program : ProgramImage) (second : Read) (reason : Refused) → IsConfiguration config own
    → PassesAll file own.ram → IsImageOf file own.ram program
    → BehindFile second (IsBesideFault told (with_harts harts own) program) reason
    → IsExplainLineRefusal harts (Some told) (Ok config) (Ok file) second reason
beside_refusal harts told config own file program second Harts configured passes loaded is =
    absurd (no_harts_beside told (with_harts harts own) program second is)
beside_refusal harts told config own file program second reason configured passes loaded is =
    inr (own, configured, (passes, program, loaded, is))

-- Nothing is told beside it; or something is.
pub alone_comes_to : (harts : Option ℕ) (config : List ℕ) (image second : Read) (old new : Option (List ℕ))
    (status : ℕ) → ExplainComesTo harts (Ok config) image old new status
    → ExplainLineComesTo harts None (Ok config) image second old new status
alone_comes_to harts config (Ok file) second old new status told = (
  told.printed.0,
  told.printed.1,
  (
    told.printed.2.1.accepted.passes,
    told.printed.2.1.accepted.image,
    told.printed.2.1.accepted.is_image,
    (accepted_of config told.printed.0 told.printed.1, (new, told, refl)),
  ),
)
alone_comes_to harts config (Err why) second old new status told = absurd told.printed.2

pub both_come_to : (harts : Option ℕ) (told : Beside) (config : List ℕ) (image second : Read)
    (old mid new : Option (List ℕ)) (status : ℕ)
    → ExplainComesTo harts (Ok config) image old mid status
    → OfProgram (Ok config) image
    (λ settings program. HasToldBeside harts (Some told) settings program second mid new)
    → ExplainLineComesTo harts (Some told) (Ok config) image second old new status
both_come_to harts told config (Ok file) second old mid new status first then = (
  then.0,
  then.1,
  (then.2.0, then.2.1, then.2.2, (accepted_of config then.0 then.1, (mid, first, then.2.3))),
)
both_come_to harts told config (Err why) second old mid new status first then = absurd then.2
