-- One more program header of the table.
use Rattle.std.proofs.Common.{◌≡◌, ℕ, suc, ◌+◌, ◌-◌, ◌*◌, ◌<◌, ◌≤◌, false, List, [], ◌∷◌, ◌++◌, length, refl, ◌∙◌, ap}
use Rattle.std.proofs.Common.{arith, cond, length-append}
use Rattle.std.specs.Prelude.{◌==◌}
use Rattle.elf_image.specs.declared.program_header.ProgramHeader.{ProgramHeader}
use Rattle.elf_image.specs.Layout.{header_at, headers_from, loadable_from, is_loadable}

first_of_more : (file : List ℕ) (place n : ℕ) → loadable_from file place (suc n)
    ≡ cond (is_loadable (header_at file place)) (header_at file place ∷ loadable_from file (place + 32) n)
    (loadable_from file (place + 32) n)
unfolding loadable_from headers_from
first_of_more file place n = refl

at_index : (file : List ℕ) (place i count : ℕ) → i < count → loadable_from file (place + 32 * i) (count - i)
    ≡ cond (is_loadable (header_at file (place + 32 * i)))
    (header_at file (place + 32 * i) ∷ loadable_from file (place + 32 * (i + 1)) (count - (i + 1)))
    (loadable_from file (place + 32 * (i + 1)) (count - (i + 1)))
at_index file place i count below =
    let left : count - i ≡ suc (count - (i + 1)) = omega arith in
    let next : place + 32 * (i + 1) ≡ place + 32 * i + 32 = omega arith in
    rw (left, next) (first_of_more file (place + 32 * i) (count - (i + 1)))

pub loadable_with : (file : List ℕ) (place i count : ℕ) (h : ProgramHeader) → i < count
    → h ≡ header_at file (place + 32 * i) → h.kind ≡ 1
    → loadable_from file (place + 32 * i) (count - i) ≡ h ∷ loadable_from file (place + 32 * (i + 1)) (count - (i + 1))
loadable_with file place i count h below is kind = at_index file place i count below ∙ grind (arith)

pub loadable_without : (file : List ℕ) (place i count : ℕ) (h : ProgramHeader) → i < count
    → h ≡ header_at file (place + 32 * i) → (h.kind == 1) ≡ false
    → loadable_from file (place + 32 * i) (count - i) ≡ loadable_from file (place + 32 * (i + 1)) (count - (i + 1))
loadable_without file place i count h below is kind = at_index file place i count below ∙ rw (← is, kind) refl

none_left : (file : List ℕ) (place : ℕ) → loadable_from file place 0 ≡ []
unfolding loadable_from headers_from
none_left file place = refl

pub loadable_none : (file : List ℕ) (place i count : ℕ) → count ≤ i
    → loadable_from file (place + 32 * i) (count - i) ≡ []
loadable_none file place i count past =
    let done : count - i ≡ 0 = omega arith in rw done (none_left file (place + 32 * i))

-- A full list and one more element are too many.
pub one_too_many : {X : Type 0} (items rest all : List X) (x : X) → length items ≡ 8 → items ++ (x ∷ rest) ≡ all
    → 8 < length all
one_too_many items rest all x full whole = omega (arith, ap length whole, length-append items (x ∷ rest))
