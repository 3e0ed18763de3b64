-- What was appended in pieces.
use Rattle.std.specs.Prelude.{◌≡◌, ℕ, List, ◌++◌}
use Rattle.text_fields.proofs.Appending.{appended_twice}

pub four_pieces : (old one two three new a b c d : List ℕ) → one ≡ old ++ a → two ≡ one ++ b → three ≡ two ++ c
    → new ≡ three ++ d → new ≡ old ++ (a ++ (b ++ (c ++ d)))
four_pieces old one two three new a b c d first second third fourth =
    appended_twice old one new a (b ++ (c ++ d)) first
    (appended_twice one two new b (c ++ d) second (appended_twice two three new c d third fourth))
