-- Harts that go on in turns. (This project's own choice.)
use Rattle.std.specs.Prelude.{ℕ, zero, suc, ◌&&◌, nat_lt, if◌then◌else◌, Bool}
use Rattle.smt_model.specs.{Setup.Setup, Plain.Plain, Plain.after, Plain.op_at_pc, Plain.computes, Plain.effect_at}
use Rattle.smt_model.specs.{Plain.is_going_status}
use Rattle.sc_machine.specs.{Machine.Machine, Machine.Agrees}

-- Hart h's next step.
abbrev pub stepping : Setup → ℕ → Plain → Plain
stepping setup h s = after s h (op_at_pc setup s h) (computes setup s h).addr (effect_at setup s h)

-- It makes one where it is there and goes.
abbrev pub goes : Setup → Plain → ℕ → Bool
goes setup s h = nat_lt h setup.harts && is_going_status (s.statuses h)

abbrev pub stepped : Setup → ℕ → Plain → Plain
stepped setup h s = if goes setup s h then stepping setup h s else s

-- Each hart below this one makes a step, by rising number.
unfoldable pub up_to : Setup → ℕ → Plain → Plain
up_to setup zero s = s
up_to setup (suc h) s = stepped setup h (up_to setup h s)

-- Each hart does: a turn; and so many turns.
abbrev pub turn : Setup → Plain → Plain
turn setup s = up_to setup setup.harts s

unfoldable pub turns : Setup → ℕ → Plain → Plain
turns setup zero s = s
turns setup (suc n) s = turn setup (turns setup n s)

-- A machine in a turn, whose harts below `from` have made their steps: those below `to` have made theirs now.
abbrev pub GoesUpTo : ℕ → ℕ → Machine → Machine → Type 0
GoesUpTo from to old new =
    (setup : Setup) (s : Plain) → Agrees setup (up_to setup from s) old → Agrees setup (up_to setup to s) new
