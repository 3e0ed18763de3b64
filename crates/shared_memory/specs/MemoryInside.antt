-- How a memory keeps its parts.
use Rattle.std.specs.Prelude.{◌≡◌, ℕ, ◌%◌, ◌≤◌, length, slice_index_or, None}
use Rattle.std.specs.Vec.{vec_capacity}
use Rattle.numbers.specs.Sizes.{most_harts}
use Rattle.shared_memory.specs.{Contents.Contents, declared.memory.Memory.TheInside.Inside}

-- what callers see of it
abbrev pub contents_of : Inside → Contents
contents_of a = record { image = a.image; bytes = a.bytes.items; reserved = a.reserved }

-- whole pages of RAM are laid, from its first on, and there is room for all of it; no hart from `reach`
-- on has a reservation
pub record IsSound (a : Inside) : Type 0 where
  pub whole : a.image.ram % 4096 ≡ 0
  pub within : length a.bytes.items ≤ a.image.ram
  pub pages : length a.bytes.items % 4096 ≡ 0
  pub room : a.image.ram ≤ vec_capacity a.bytes
  pub few : a.reach ≤ most_harts
  pub none : (h : ℕ) → a.reach ≤ h → slice_index_or a.reserved h None ≡ None
