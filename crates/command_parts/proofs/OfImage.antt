-- What is refused behind an image's file.
use Rattle.std.specs.Prelude.{ℕ, List}
use Rattle.command_parts.specs.declared.refused.Refused.{Refused}
use Rattle.command_parts.specs.declared.refused.Refused.TheVariants.{Image, Config, Harts, Script, Order, Step, Memory, File}
use Rattle.command_parts.specs.declared.refused.Refused.TheVariants.{Output, Thread, Trace, Version, Event, NoUnit, Limit, NoHart}
use Rattle.command_parts.specs.declared.refused.Refused.TheVariants.{Prediction, Register, Picture}
use Rattle.command_parts.specs.declared.refused.Refused.TheVariants.{Lines, NamesNothing, NamesSeveral, NeverFetched, Turned}
use Rattle.command_parts.specs.declared.refused.Refused.TheVariants.{Watch, Condition, ManyWatched, NoWord}
use Rattle.command_parts.specs.declared.refused.Refused.TheVariants.{NoOutcome, NotStuck, NoAnswer, Litmus}
use Rattle.command_parts.specs.declared.refused.Refused.TheVariants.{NothingToDraw, LongStory}
use Rattle.command_parts.specs.Refused.{PassesAll, BehindImage}

-- What is refused of what comes behind it, where that never refuses the image.
pub refusal_behind : (file : List ℕ) (ram : ℕ) (P : Refused → Type 0) (reason : Refused)
    → ((number : ℕ) → P (Image number) → ⊥) → PassesAll file ram → P reason → BehindImage file ram P reason
refusal_behind file ram P (Image number) never passes is = absurd (never number is)
refusal_behind file ram P Config never passes is = (passes, is)
refusal_behind file ram P Harts never passes is = (passes, is)
refusal_behind file ram P (Script number) never passes is = (passes, is)
refusal_behind file ram P (Order index) never passes is = (passes, is)
refusal_behind file ram P (Step index why) never passes is = (passes, is)
refusal_behind file ram P (Trace line rule) never passes is = (passes, is)
refusal_behind file ram P Version never passes is = (passes, is)
refusal_behind file ram P (Event index rule) never passes is = (passes, is)
refusal_behind file ram P (Prediction index) never passes is = (passes, is)
refusal_behind file ram P (Register index) never passes is = (passes, is)
refusal_behind file ram P (NoUnit kind) never passes is = (passes, is)
refusal_behind file ram P (Limit least) never passes is = (passes, is)
refusal_behind file ram P (NoHart hart) never passes is = (passes, is)
refusal_behind file ram P (Lines number fault) never passes is = (passes, is)
refusal_behind file ram P (NamesNothing option) never passes is = (passes, is)
refusal_behind file ram P (NamesSeveral option) never passes is = (passes, is)
refusal_behind file ram P (NeverFetched option) never passes is = (passes, is)
refusal_behind file ram P (Turned from to) never passes is = (passes, is)
refusal_behind file ram P (Picture last) never passes is = (passes, is)
refusal_behind file ram P LongStory never passes is = (passes, is)
refusal_behind file ram P (Watch why) never passes is = (passes, is)
refusal_behind file ram P (Condition why) never passes is = (passes, is)
refusal_behind file ram P ManyWatched never passes is = (passes, is)
refusal_behind file ram P (NoWord address) never passes is = (passes, is)
refusal_behind file ram P (NoOutcome number) never passes is = (passes, is)
refusal_behind file ram P NotStuck never passes is = (passes, is)
refusal_behind file ram P NoAnswer never passes is = (passes, is)
refusal_behind file ram P (Litmus place fault) never passes is = (passes, is)
refusal_behind file ram P NothingToDraw never passes is = (passes, is)
refusal_behind file ram P Memory never passes is = tt
refusal_behind file ram P Thread never passes is = (passes, is)
refusal_behind file ram P File never passes is = (passes, is)
refusal_behind file ram P Output never passes is = (passes, is)
