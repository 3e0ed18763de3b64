-- All segments of an image end at or before the end of the last.
use Rattle.std.proofs.Common.{◌≡◌, ℕ, ◌+◌, ◌-◌, ◌<◌, ◌≤◌, length, get_or, ap, subst, sym, ◌∙◌, arith}
use Rattle.std.proofs.Math.Nat.{eq-or-lt_of_le}
use Rattle.std.proofs.lemmas.List.{get_or_default}
use mathlib.Core.Logic.{inl, inr}
use Rattle.elf_image.specs.Image.{ProgramImage, ProgramSegment, IsWellFormed}

abbrev pub end_of : ProgramSegment → ℕ
end_of segment = segment.address + length segment.bytes

starts_before : (s t : ProgramSegment) → end_of s ≤ t.address → end_of s ≤ end_of t
starts_before s t before = omega (arith, before)

pub ends : (image : ProgramImage) (last : ProgramSegment) → IsWellFormed image
    → last ≡ get_or image.segments (length image.segments - 1) last → (k : ℕ) (d : ProgramSegment)
    → k < length image.segments → end_of (get_or image.segments k d) ≤ end_of last
ends image last well is k d inside =
    let n : ℕ = length image.segments - 1 in
    let below : n < length image.segments = omega arith in
    elim (eq-or-lt_of_le {n = k} {m = n} (omega arith)) [
      | inl same ↦
          let one : get_or image.segments k d ≡ last =
          get_or_default image.segments k d last inside ∙ (ap (λ i. get_or image.segments i last) same ∙ sym is) in
          omega (arith, ap end_of one)
      | inr less ↦
          let before = well.rising k n last less below in
          let one : get_or image.segments k d ≡ get_or image.segments k last =
          get_or_default image.segments k d last inside in
          let there : end_of (get_or image.segments k last) ≤ end_of (get_or image.segments n last) =
          starts_before (get_or image.segments k last) (get_or image.segments n last) before in
          omega (arith, ap end_of one, ap end_of is, there)
    ]
