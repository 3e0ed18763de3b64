-- What steps and turns of the machine come to, between a contract and its proof.
use Rattle.std.specs.Prelude.{◌≡◌, ℕ, ◌+◌, Bool, List, Option, Some, length, reverse}
use Rattle.std.specs.{Prelude.replicate, Io.KnownBytes.Appends}
use Rattle.smt_model.specs.{Setup.Setup, Plain.Run, Plain.start}
use Rattle.sc_machine.specs.{Machine.Machine, Machine.Agrees, Steps.run_on}
use Rattle.address_labels.specs.Labels.{Marks}
use Rattle.report_lines.specs.Lines.{records_text}
use Rattle.rounds.specs.declared.rules.Rounds.{Rounds}
use Rattle.rounds.specs.{Turns.Turn, Rounds.AreRounds}

-- The hart has made so many steps behind a run. What was printed of the run before is printed of
-- this one now.
pub record HasMade (setup : Setup) (before : Run) (hart made : ℕ) (wanted : Bool) (marks : Marks)
    (old new : Option (List ℕ)) (m : Machine) : Type 0 where
  pub after : Run
  pub runs : run_on setup (replicate made hart) before ≡ Some after
  pub agrees : Agrees setup after.state m
  pub count : length after.records ≡ length before.records + made
  pub printed : (origin : Option (List ℕ))
      → Appends origin old (records_text wanted marks (reverse before.records))
      → Appends origin new (records_text wanted marks (reverse after.records))

-- The machine stands at the start of some setup.
abbrev pub IsAtAStart : Machine → Type 0
IsAtAStart m = (setup : Setup) × Agrees setup (start setup) m

-- It is so of every setup at whose start the machine stands.
abbrev pub OfEachStart : Machine → (Setup → Type 0) → Type 0
OfEachStart m P = (setup : Setup) → Agrees setup (start setup) m → P setup

-- There are rounds of so many steps, with which the machine agrees, and whose records are printed.
pub record HaveMade (setup : Setup) (rounds : Rounds) (wanted : Bool) (marks : Marks) (old new : Option (List ℕ))
    (made : ℕ) (m : Machine) : Type 0 where
  pub turns : List Turn
  pub ran : Run
  pub are : AreRounds setup rounds turns ran
  pub count : made ≡ length ran.records
  pub agrees : Agrees setup ran.state m
  pub printed : Appends old new (records_text wanted marks (reverse ran.records))
