-- Where the lines of a foot end, a byte after another.
use Rattle.std.proofs.Common.{◌≡◌, ◌∙◌, ℕ, ◌+◌, ◌<◌, List, [], ◌∷◌, ◌++◌, get_or, ap, sym, refl, length, take, true, false}
use Rattle.std.proofs.lemmas.List.{take_more}
use Rattle.std.proofs.lemmas.List.Sums.{fold-append}
use Rattle.story_pictures.specs.Foot.{caret_behind, character_text, ends_line, fills_line, line_start, next_caret}
use Rattle.story_pictures.specs.Foot.{next_line, piece_text}
use Rattle.story_pictures.specs.declared.foot.Caret.{Caret}

pub caret_more : (text : List ℕ) (i : ℕ) (d : ℕ) (caret next : Caret) → i < length text
    → caret ≡ caret_behind (take i text) → next ≡ next_caret caret (get_or text i d)
    → next ≡ caret_behind (take (i + 1) text)
caret_more text i d caret next inside so_far is =
    is ∙ ap (λ c. next_caret c (get_or text i d)) so_far
    ∙ sym (ap caret_behind (take_more text i d inside)
    ∙ fold-append next_caret line_start (take i text) (get_or text i d ∷ []))

-- A byte before which a full line ends.
pub full_piece : (text : List ℕ) (i byte : ℕ) (caret : Caret) → ends_line byte caret ≡ false
    → fills_line byte caret ≡ true
    → piece_text text i byte caret ≡ next_line ++ character_text text i byte
full_piece text i byte caret goes_on full = rw (goes_on, full) refl
