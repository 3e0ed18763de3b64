-- What a step of the machine comes to, in the words of the definitions' machine.
use Rattle.std.specs.Prelude.{◌≡◌, ℕ, zero, suc, ◌<◌, true, false, List, [], ◌++◌, replicate, length}
use Rattle.std.specs.Prelude.{Option, Some, None, slice_index, slice_index_or}
use Rattle.numbers.specs.Sizes.{most_harts}
use Rattle.smt_model.specs.{Setup.Setup, Plain.Plain, Plain.start}
use Rattle.outcome_laws.specs.{Paths.can_step, Paths.stepped, Local.fits, Search.Settles}
use Rattle.searches.specs.declared.step.Step.{Step}
use Rattle.condensed_machine.specs.{Resting.is_watched, Machine.Program, Machine.tables_of, Machine.Machine}
use Rattle.condensed_machine.specs.{Machine.InEachSetup, Decoded.state_of, Decoded.Knows}
use Rattle.condensed_machine.specs.declared.begun.Begun.{Begun}
use Rattle.condensed_machine.specs.declared.{state.State.State, way.Way.Way}

-- These local steps lead from s to a state that is alike to t.
pub record SettlesBy (setup : Setup) (p : Program) (order : List ℕ) (s t : Plain) : Type 0 where
  pub settles : Settles setup (is_watched p.watched) (tables_of p) s t
  pub by : settles.order ≡ order

-- The order of harts in turn, each as often as it is told.
abbrev pub turns : List ℕ → ℕ → List ℕ
turns ways zero = []
turns ways (suc h) = turns ways h ++ replicate (slice_index ways h) h

-- The row in which no hart makes a turn.
abbrev pub no_turns : List ℕ
no_turns = replicate most_harts 0

-- The local steps behind a step of hart h: its own, and then those of the others in turn, as often as their row says.
abbrev pub local_steps : List (List ℕ) → ℕ → ℕ → Way → List ℕ
local_steps rows harts h way = replicate way.own h ++ turns (slice_index_or rows way.others []) harts

-- Hart h can step, its step fits the tables, and after it and so many local ones of its own the state is the next,
-- which the machine knows.
pub record MakesMove (setup : Setup) (m : Machine) (s : State) (h steps : ℕ) (t : State) : Type 0 where
  pub can : can_step setup h (state_of m s) ≡ true
  pub fits : fits setup (tables_of m.program) h (state_of m s) ≡ true
  pub leads : SettlesBy setup m.program (replicate steps h) (stepped setup h (state_of m s)) (state_of m t)
  pub knows : Knows m t

-- Hart h can step, its step fits the tables, and after it and its local ones and those of others the state is the next,
-- which the machine knows.
pub record MakesStep (setup : Setup) (m : Machine) (s : State) (h : ℕ) (step : Step State Way) : Type 0 where
  pub can : can_step setup h (state_of m s) ≡ true
  pub fits : fits setup (tables_of m.program) h (state_of m s) ≡ true
  pub row : step.way.others < length m.rows
  pub leads : SettlesBy setup m.program (local_steps m.rows m.program.harts h step.way)
      (stepped setup h (state_of m s)) (state_of m step.state)
  pub knows : Knows m step.state

-- Hart h has no step, or this one.
abbrev pub Steps : Machine → State → ℕ → Option (Step State Way) → Type 0
Steps m s h None = InEachSetup m.program (λ setup. can_step setup h (state_of m s) ≡ false)
Steps m s h (Some step) = InEachSetup m.program (λ setup. MakesStep setup m s h step)

-- The start has settled: each hart in turn has gone on by so many local steps of its own.
pub record HasBegun (m : Machine) (begun : Begun) : Type 0 where
  pub leads : InEachSetup m.program (λ setup.
      SettlesBy setup m.program (turns begun.ways m.program.harts) (start setup) (state_of m begun.state))
