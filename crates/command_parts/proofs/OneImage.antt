-- A file that passes the checks is loaded as one image.
use Rattle.std.specs.Prelude.{◌≡◌, ◌⊎◌, ℕ, ◌+◌, ◌<◌, ◌≤◌, AllPairs, IsPermutation, List, length}
use Rattle.std.specs.List.Sorted.{IsNonDecreasingBy}
use Rattle.std.proofs.Common.{get_or, sym, ap, ◌∙◌, inl, inr, arith}
use Rattle.std.proofs.lemmas.List.Sorted.{IsPermutation-sym, IsPermutation-trans}
use Rattle.elf_image.specs.declared.refusal.LoadRefused.TheVariants.{WrongMemorySize, SegmentsOverlap}
use Rattle.elf_image.specs.Image.{ProgramImage}
use Rattle.elf_image.specs.{Layout.loadable, Loaded.IsImageOf, Loaded.image_from}
use Rattle.elf_image.proofs.{Pairs.AllPairs-permutation}
use Rattle.elf_image.proofs.{Rising.AreRising, Rising.same_order}
use Rattle.command_parts.specs.Refused.{PassesAll}

apart_differ : (a m b n : ℕ) → 0 < m → 0 < n → (a + m ≤ b) ⊎ (b + n ≤ a) → a ≡ b → ⊥
apart_differ a m b n some other (inl before) same = omega (arith, some, before, same)
apart_differ a m b n some other (inr behind) same = omega (arith, other, behind, same)

below : (a b : ℕ) → a ≤ b → (a ≡ b → ⊥) → a < b
below a b less differs = omega (arith, differs)

-- Things of some size that lie apart have one order by their addresses.
one_order : {X : Type 0} (xs ys zs : List X) (address size : X → ℕ)
    → ((k : ℕ) (d : X) → k < length xs → 0 < size (get_or xs k d))
    → AllPairs (λ (g : X) (h : X). (address g + size g ≤ address h) ⊎ (address h + size h ≤ address g)) xs
    → IsPermutation xs ys → IsPermutation xs zs → IsNonDecreasingBy address ys → IsNonDecreasingBy address zs
    → zs ≡ ys
one_order {X} xs ys zs address size some apart to_ys to_zs up_ys up_zs =
    let differ : AllPairs (λ (g : X) (h : X). address g ≡ address h → ⊥) xs =
    λ i j d less inside.
    apart_differ (address (get_or xs i d)) (size (get_or xs i d)) (address (get_or xs j d)) (size (get_or xs j d))
    (some i d (omega (arith, less, inside))) (some j d inside) (apart i j d less inside) in
    let differ_ys : AllPairs (λ (g : X) (h : X). address g ≡ address h → ⊥) ys =
    AllPairs-permutation (λ (g : X) (h : X). address g ≡ address h → ⊥) (λ g h differs same. differs (sym same)) xs ys
    to_ys differ in
    let rises : AreRising address ys =
    λ i j d less inside. below (address (get_or ys i d)) (address (get_or ys j d))
    (up_ys i j d (omega (arith, less)) inside) (differ_ys i j d less inside) in
    same_order address ys zs rises (IsPermutation-trans ys xs zs (IsPermutation-sym xs ys to_ys) to_zs) up_zs

pub one_image : (file : List ℕ) (ram : ℕ) (a b : ProgramImage) → PassesAll file ram → IsImageOf file ram a
    → IsImageOf file ram b → a ≡ b
one_image file ram a b passes is_a is_b =
    let same = one_order (loadable file) is_a.order is_b.order (λ h. h.address) (λ h. h.memory_size)
    (λ k d inside. (passes WrongMemorySize k d inside).0) (passes SegmentsOverlap) is_a.all is_b.all is_a.rising
    is_b.rising in
    is_a.same ∙ (ap (image_from file ram) (sym same) ∙ sym is_b.same)
