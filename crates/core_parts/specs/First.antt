-- A core before its first event.
use Rattle.std.specs.Prelude.{◌≡◌, ℕ, ◌+◌, ◌-◌, ◌*◌, ◌/◌, ◌%◌, ◌<◌, ◌&&◌, nat_le, nat_lt, if◌then◌else◌, List, []}
use Rattle.std.specs.Prelude.{Option, Some, None, length, slice_index_or}
use Rattle.numbers.specs.Sizes.{most_registers}
use Rattle.numbers.specs.Layout.{first_extra}
use Rattle.elf_image.specs.Image.{ProgramImage}
use Rattle.rename_map.specs.Maps.{lookup, committed_of}
use Rattle.smt_model.specs.{declared.config.Status.TheVariants.Going, Picture.picture}
use Rattle.smt_model.specs.{Registers.first_register, Setup.Setup, Setup.first_number}
use Rattle.core_parts.specs.{Agree.PartsAgree, declared.hart.HartState.HartState}
use Rattle.core_parts.specs.{declared.parts.Parts.Parts}

-- Hart h as it begins: nothing in it, its registers in its own physical ones, and it goes from the
-- entry.
pub record IsNew (h entry : ℕ) (x : HartState) : Type 0 where
  pub decode_latch : x.decode_latch.items ≡ []
  pub rename_latch : x.rename_latch.items ≡ []
  pub active : x.active ≡ []
  pub icount : x.icount ≡ 0
  pub speculative : (r : ℕ) → 0 < r → r < 32 → lookup x.maps r ≡ first_register h r
  pub committed : (r : ℕ) → 0 < r → r < 32 → committed_of x.maps r ≡ first_register h r
  pub kept : x.maps.kept ≡ []
  pub fetch_pc : x.fetch_pc ≡ entry
  pub status : x.status ≡ Going

-- What physical register x holds once hart h's registers below r have their first numbers.
abbrev pub first_values_below : ℕ → ℕ → ℕ → ℕ → Option ℕ → Option ℕ
first_values_below r harts h x before =
    if nat_le (first_extra h) x && nat_lt (x + 1) (first_extra h + r)
    then Some (first_number harts h (x - first_extra h + 1)) else before

-- What it holds once all of hart h's registers have their first numbers.
abbrev pub first_values : ℕ → ℕ → ℕ → Option ℕ → Option ℕ
first_values harts h x before = first_values_below 32 harts h x before

-- Each hart is as it begins.
abbrev pub AreNew : ℕ → List HartState → Type 0
AreNew entry harts = (h : ℕ) (d : HartState) → h < length harts → IsNew h entry (slice_index_or harts h d)

-- The registers of the harts below `some` have their first numbers, and no other has a number.
abbrev pub AreFirst : ℕ → ℕ → List (Option ℕ) → Type 0
AreFirst harts some values = (x : ℕ) (d : Option ℕ) → x < most_registers
    → slice_index_or values x d
    ≡ (if nat_lt x (31 * some) then Some (first_number harts (x / 31) (x % 31 + 1)) else None)

-- The parts agree with the empty history of every setup of these sizes and this image.
abbrev pub BeginsAs : ℕ → ℕ → ProgramImage → Parts → Type 0
BeginsAs harts extra image parts =
    (setup : Setup) → setup.harts ≡ harts → setup.extra ≡ extra → setup.image ≡ image
    → PartsAgree (picture setup []) parts
