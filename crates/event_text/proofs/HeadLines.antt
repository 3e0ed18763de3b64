-- The lines of a head, as they are appended.

use Rattle.std.proofs.Common.{◌≡◌, ℕ, List, [], ◌∷◌, ◌++◌, append_assoc}

pub head_spelled : (old a b c d e f : List ℕ) (words harts extra queue roles : List ℕ) → a ≡ old ++ words
    → b ≡ a ++ 32 ∷ harts → c ≡ b ++ 32 ∷ extra → d ≡ c ++ 32 ∷ queue → e ≡ d ++ roles → f ≡ e ++ 10 ∷ []
    → f ≡ old ++ (words ++ (32 ∷ harts) ++ (32 ∷ extra) ++ (32 ∷ queue) ++ roles ++ 10 ∷ [])
head_spelled old a b c d e f words harts extra queue roles is1 is2 is3 is4 is5 is6 =
    rw (is6, is5, is4, is3, is2, is1) (simp append_assoc)
