-- What a decode takes, and what it changes in its hart.
use Rattle.std.specs.Prelude.{◌≡◌, ℕ, ◌<◌, [], ◌∷◌, ◌++◌, length, Some}
use Rattle.numbers.specs.Sizes.{latch_room}
use Rattle.smt_model.specs.{Basics.first, Picture.Picture, Steps.IsDecode}
use Rattle.core_parts.specs.{declared.slot.Slot.Slot, declared.hart.HartState.HartState}

-- Number s is the oldest in hart h's decode latch, and the rename latch has room for it.
pub record CanDecode (p : Picture) (h s : ℕ) : Type 0 where
  pub oldest : first (p.in_decode h) ≡ Some s
  pub room : length (p.in_rename h) < latch_room

-- A decode of hart h that can be made.
pub record Decodes (p q : Picture) (h : ℕ) : Type 0 where
  pub number : ℕ
  pub can : CanDecode p h number
  pub is : IsDecode p q h number

-- The oldest of the hart's decode latch has gone to the end of its rename latch.
pub record IsDecoded (old new : HartState) : Type 0 where
  pub slot : Slot
  pub decode_latch : old.decode_latch.items ≡ slot ∷ new.decode_latch.items
  pub rename_latch : new.rename_latch.items ≡ old.rename_latch.items ++ slot ∷ []
  pub active : new.active ≡ old.active
  pub maps : new.maps ≡ old.maps
  pub icount : new.icount ≡ old.icount
  pub fetch_pc : new.fetch_pc ≡ old.fetch_pc
  pub status : new.status ≡ old.status
