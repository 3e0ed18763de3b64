-- What holds of each core that is shown.
use Rattle.core_parts.specs.{Agree.PartsAgree, declared.parts.Parts.Parts}
use Rattle.core_state.specs.View.{CoreView}
use Rattle.smt_laws.specs.Sequential.{IsSequential}
use Rattle.smt_model.specs.{Picture.picture, Rules.is_legal}

-- There are parts that agree with the history of a core, each with what the history says of it.
abbrev pub HasParts : CoreView → Type 0
HasParts core = (parts : Parts) × PartsAgree (picture core.setup core.past) parts

-- Its history is one that the rules allow, and it has parts that agree with this history. What it
-- has retired is a run of the plain machine, which ends with its records, registers, memory,
-- reservations, output and statuses.
pub record Shown (core : CoreView) : Type 0 where
  pub legal : is_legal core.setup core.past
  pub agrees : HasParts core
  pub sequential : IsSequential core.setup core.past
