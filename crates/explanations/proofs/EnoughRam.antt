-- How much RAM has room for all segments.
use Rattle.std.proofs.Common.{◌≡◌, ℕ, ◌+◌, ◌-◌, ◌*◌, ◌/◌, ◌%◌, ◌^◌, ◌<◌}
use Rattle.std.proofs.Common.{◌≤◌, List, length, get_or, arith, ap, subst, sym, ◌∙◌, max}
use Rattle.std.proofs.lemmas.List.{get_or_default}
use Rattle.std.proofs.Math.Nat.{eq-or-lt_of_le}
use mathlib.Core.Logic.{inl, inr}
use Rattle.elf_image.specs.{Image.ram_start, Image.IsRamSize}
use Rattle.elf_image.specs.declared.program_header.ProgramHeader.{ProgramHeader}
use Rattle.explanations.specs.ImageRefusal.{AreWithin, IsHighest, IsLeastRam, HasNone}

-- The segments before a place end at so many bytes, and no fewer would do for all.
pub record IsHighestSoFar (headers : List ProgramHeader) (count bytes : ℕ) : Type 0 where
  pub some : 1 ≤ bytes
  pub bound : bytes ≤ 2 ^ 33
  pub within : (k : ℕ) (d : ProgramHeader) → k < count → k < length headers
      → (ram_start ≤ (get_or headers k d).address)
      × ((get_or headers k d).address + (get_or headers k d).memory_size ≤ ram_start + bytes)
  pub least : (other : ℕ) → 1 ≤ other → AreWithin headers other → bytes ≤ other

-- a turn
pub higher : (headers : List ProgramHeader) (i bytes end : ℕ) (d : ProgramHeader) → i < length headers
    → IsHighestSoFar headers i bytes → ram_start ≤ (get_or headers i d).address
    → end ≡ (get_or headers i d).address + (get_or headers i d).memory_size - ram_start → end ≤ 2 ^ 33
    → (more : ℕ) → more ≡ max bytes end → IsHighestSoFar headers (i + 1) more
higher headers i bytes end d inside so begins is below more most = record {
  some = omega (arith, so.some, most);
  bound = omega (arith, so.bound, below, most);
  within = λ k e before within.
      elim (eq-or-lt_of_le {n = k} {m = i} (omega (arith, before))) [
        | inl same ↦
            let one : get_or headers k e ≡ get_or headers i d =
            ap (λ j. get_or headers j e) same ∙ get_or_default headers i e d inside in
            subst (λ (h : ProgramHeader). (ram_start ≤ h.address)
            × (h.address + h.memory_size ≤ ram_start + more)) (sym one)
            (begins, omega (arith, begins, is, most))
        | inr less ↦
            let old = so.within k e less within in (old.0, omega (arith, old.1, most))
      ];
  least = λ other some all.
      let all_bytes = so.least other some all in
      let here = all i d inside in
      omega (arith, all_bytes, here.1, is, most, begins);
}

-- a segment before RAM
pub begins_before : (headers : List ProgramHeader) (i : ℕ) (d : ProgramHeader) → i < length headers
    → (get_or headers i d).address < ram_start → HasNone headers
begins_before headers i d inside before other size all =
    let here = all i d inside in omega (arith, here.0, before)

-- in whole pages
pub in_pages : (headers : List ProgramHeader) (bytes pages : ℕ) → IsHighest headers bytes
    → pages % 4096 ≡ 0 → bytes ≤ pages → pages < bytes + 4096 → pages ≤ 16777216 → IsLeastRam headers pages
in_pages headers bytes pages highest whole enough tight most = record {
  size = (whole, omega (arith, whole, enough, highest.some), most);
  within = λ k d inside. let here = highest.within k d inside in (here.0, omega (arith, here.1, enough));
  least = λ other size all.
      let least = highest.least other (omega (arith, size.1)) all in
      omega (arith, least, size.0, whole, tight);
}

pub too_many : (headers : List ProgramHeader) (bytes pages : ℕ) → IsHighest headers bytes
    → pages % 4096 ≡ 0 → pages < bytes + 4096 → 16777216 < pages → HasNone headers
too_many headers bytes pages highest whole tight most other size all =
    let least = highest.least other (omega (arith, size.1)) all in
    omega (arith, least, size.0, size.2, whole, tight, most)
