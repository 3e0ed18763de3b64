-- Fields joined by single spaces.

use Rattle.std.proofs.Common.{ℕ, List, [], ◌∷◌, ◌++◌, refl}
use Rattle.text_fields.specs.Splitting.{Lacks}
use Rattle.text_fields.proofs.LacksLaws.{Lacks-append}

-- fields, apart by one space
abbrev pub joined : List (List ℕ) → List ℕ
joined [] = []
joined (f ∷ []) = f
joined (f ∷ g ∷ fs) = f ++ 32 ∷ joined (g ∷ fs)

-- none of them has this byte
abbrev pub AllLack : ℕ → List (List ℕ) → Type 0
AllLack byte [] = Unit {0}
AllLack byte (f ∷ fs) = Lacks byte f × AllLack byte fs

-- nor have they then when they are joined, but for the space
pub Lacks-joined : (byte : ℕ) (fs : List (List ℕ)) → Lacks byte (32 ∷ []) → AllLack byte fs → Lacks byte (joined fs)
Lacks-joined byte [] other lack = refl
Lacks-joined byte (f ∷ []) other lack = lack.0
Lacks-joined byte (f ∷ g ∷ fs) other lack =
    Lacks-append byte f (32 ∷ joined (g ∷ fs)) lack.0
    (Lacks-append byte (32 ∷ []) (joined (g ∷ fs)) other (Lacks-joined byte (g ∷ fs) other lack.1))
