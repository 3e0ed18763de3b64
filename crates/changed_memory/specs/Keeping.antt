-- What an instruction leaves as it is.
use Rattle.std.specs.Prelude.{◌≡◌, ℕ, Bool, true, false, Option, None}
use Rattle.smt_model.specs.Words.{Op, Effect}
use Rattle.smt_model.specs.Kinds.{Kind, Reserving, Conditional}
use Rattle.smt_model.specs.Reservations.{reservation_after}

-- LR and SC change their hart's reservation.
abbrev pub reserves : Kind → Bool
reserves Reserving = true
reserves Conditional = true
reserves _ = false

-- An instruction with this effect changes nothing that harts share: no byte of memory, no
-- reservation of any hart, and it puts no byte out.
pub record KeepsShared (op : Op) (x : Effect) : Type 0 where
  pub write : x.write ≡ None
  pub reserved : (addr : ℕ) (own : Bool) (held : Option ℕ)
      → reservation_after op addr x own held ≡ held
  pub out : x.out ≡ None
