-- When a hart makes no step.
use Rattle.std.specs.Prelude.{ℕ, not, ◌&&◌, nat_lt, nat_le, if◌then◌else◌, length, is_some, Option}
use Rattle.std.specs.Prelude.{Some, None}
use Rattle.smt_model.specs.{Setup.Setup, Plain.Plain, Plain.is_going_status, Plain.effect_at}
use Rattle.sc_machine.specs.declared.refused.Stopped.{Stopped}
use Rattle.sc_machine.specs.declared.refused.Stopped.TheVariants.{NotGoing, OutputFull, NoHart}

abbrev pub number_of : Stopped → ℕ
number_of NotGoing = 1
number_of OutputFull = 2
number_of NoHart = 3

-- Why hart h makes no step in a state with room for so many bytes, where it makes none: it isn't
-- there, it isn't going, or its instruction puts a byte out and the output is full.
abbrev pub refusal : Setup → ℕ → Plain → ℕ → Option Stopped
refusal setup room s h =
    if not (nat_lt h setup.harts) then Some NoHart
    else (if not (is_going_status (s.statuses h)) then Some NotGoing
    else (if is_some (effect_at setup s h).out && nat_le room (length s.output)
    then Some OutputFull else None))
