-- Reservations: one aligned word a hart. [what they cover and how they end: this project's choice]
use Rattle.std.specs.Prelude.{ℕ, ◌-◌, ◌%◌, Bool, ◌==◌, if◌then◌else◌, Option, Some, None}
use Rattle.smt_model.specs.{Words.Op, Words.Effect, Words.Written, Basics.same_number}
use Rattle.smt_model.specs.{Nexts.is_last}
use Rattle.smt_model.specs.Kinds.{Kind, Reserving, Conditional, kind_of}

abbrev pub word_of_address : ℕ → ℕ
word_of_address addr = addr - addr % 4

-- The reservation is on the word at this address.
abbrev pub holds_word : Option ℕ → ℕ → Bool
holds_word held addr = same_number held (Some addr)

-- A write of any hart ends every reservation on the word that it touches.
abbrev pub reservation_after_write : Option Written → Option ℕ → Option ℕ
reservation_after_write None held = held
reservation_after_write (Some w) None = None
reservation_after_write (Some w) (Some addr) =
    if word_of_address addr == word_of_address w.addr then None else Some addr

-- What the instruction itself does with its hart's reservation: LR sets it, SC ends it.
abbrev pub own_reservation : Kind → ℕ → Option ℕ → Option ℕ
own_reservation Reserving addr held = Some addr
own_reservation Conditional addr held = None
own_reservation _ addr held = held

-- A hart's reservation after an instruction with this effect has retired; `own`: it was the hart's.
abbrev pub reservation_after : Op → ℕ → Effect → Bool → Option ℕ → Option ℕ
reservation_after op addr x own held =
    if is_last x.next then held
    else reservation_after_write x.write
    (if own then own_reservation (kind_of op) addr held else held)
