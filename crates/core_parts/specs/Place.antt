-- Where an instruction is: in one of its hart's latches, or in its active list.
use Rattle.std.specs.Prelude.{◌≡◌, ℕ, ◌<◌, ◌==◌, true, List, find, Option}
use Rattle.events.specs.declared.event.Event.{Event}
use Rattle.retire_squash.specs.declared.active.Active.{Active}
use Rattle.smt_model.specs.{Picture.picture, Setup.Setup}
use Rattle.smt_model.specs.Fates.{fate, is_of, InDecode, InRename}
use Rattle.core_parts.specs.{Agree.IsActive, Agree.IsSlot, declared.slot.Slot.Slot}

-- ---- In the parts' words

abbrev pub slot_in : List Slot → ℕ → Option Slot
slot_in slots s = find (λ x. x.seq == s) slots

abbrev pub member_in : List Active → ℕ → Option Active
member_in active s = find (λ a. a.seq == s) active

-- ---- In the history's words

-- Instruction s is in the decode latch of hart h, a hart of the core.
pub record InDecodeLatch (setup : Setup) (past : List Event) (h s : ℕ) : Type 0 where
  pub inside : h < setup.harts
  pub of_hart : is_of past h s ≡ true
  pub fated : fate past s ≡ InDecode

-- Instruction s is in the rename latch of hart h, a hart of the core, in this slot.
pub record InRenameLatch (setup : Setup) (past : List Event) (h s : ℕ) (x : Slot) : Type 0 where
  pub inside : h < setup.harts
  pub of_hart : is_of past h s ≡ true
  pub fated : fate past s ≡ InRename
  pub slot : IsSlot (picture setup past) h x
  pub number : x.seq ≡ s

-- Instruction s is this member of the active list of hart h, a hart of the core.
pub record InActiveList (setup : Setup) (past : List Event) (h s : ℕ) (x : Active) : Type 0 where
  pub inside : h < setup.harts
  pub of_hart : is_of past h s ≡ true
  pub active : IsActive (picture setup past) h x
  pub number : x.seq ≡ s
