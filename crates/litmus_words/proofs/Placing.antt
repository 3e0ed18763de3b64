-- Columns, a byte at a time.
use Rattle.std.proofs.Common.{◌≡◌, ℕ, ◌+◌, ◌<◌, List, [], ◌∷◌, ◌++◌, length, take, get_or}
use Rattle.std.proofs.Common.{refl, sym, ap, subst, ◌∙◌, inl, inr, arith, append_assoc, append-nil, length-append}
use Rattle.std.proofs.Common.{eq-eqb}
use Rattle.std.proofs.lemmas.Bool.{ne_eqb}
use Rattle.std.proofs.lemmas.List.{take_more}
use Rattle.std.proofs.lemmas.List.Elements.{All-nil, All-push}
use Rattle.std.proofs.lemmas.List.Sums.{count_by_more_yes, count_by_more_no}
use Rattle.litmus_words.specs.Places.{IsColumnBehind, IsLineBehind, is_line_end}

pub none_yet : IsColumnBehind [] 1
none_yet = record {
  lines = [];
  begun = [];
  cut = refl;
  ends = inl refl;
  alone = All-nil (λ (byte : ℕ). byte ≡ 10 → ⊥);
  counted = refl;
}

behind_line_end : (before : List ℕ) → IsColumnBehind (before ++ 10 ∷ []) 1
behind_line_end before = record {
  lines = before ++ 10 ∷ [];
  begun = [];
  cut = sym (append-nil (before ++ 10 ∷ []));
  ends = inr (before, refl);
  alone = All-nil (λ (byte : ℕ). byte ≡ 10 → ⊥);
  counted = refl;
}

behind_other : (before : List ℕ) (byte column : ℕ) → (byte ≡ 10 → ⊥) → IsColumnBehind before column
    → IsColumnBehind (before ++ byte ∷ []) (column + 1)
behind_other before byte column other h = record {
  lines = h.lines;
  begun = h.begun ++ byte ∷ [];
  cut = ap (λ (t : List ℕ). t ++ byte ∷ []) h.cut ∙ append_assoc h.lines h.begun (byte ∷ []);
  ends = h.ends;
  alone = All-push (λ (b : ℕ). b ≡ 10 → ⊥) h.begun byte h.alone other;
  counted =
      let long = length-append h.begun (byte ∷ []) in
      let counted = h.counted in omega (arith, long, counted);
}

pub column_at_line_end : (text : List ℕ) (i d : ℕ) → i < length text → get_or text i d ≡ 10
    → IsColumnBehind (take (i + 1) text) 1
column_at_line_end text i d inside is =
    subst (λ (t : List ℕ). IsColumnBehind t 1)
    (sym (take_more text i d inside ∙ ap (λ (b : ℕ). take i text ++ b ∷ []) is)) (behind_line_end (take i text))

pub column_at_other : (text : List ℕ) (i d column : ℕ) → i < length text → (get_or text i d ≡ 10 → ⊥)
    → IsColumnBehind (take i text) column → IsColumnBehind (take (i + 1) text) (column + 1)
column_at_other text i d column inside other h =
    subst (λ (t : List ℕ). IsColumnBehind t (column + 1)) (sym (take_more text i d inside))
    (behind_other (take i text) (get_or text i d) column other h)

pub line_at_line_end : (text : List ℕ) (i d line : ℕ) → i < length text → get_or text i d ≡ 10
    → IsLineBehind (take i text) line → IsLineBehind (take (i + 1) text) (line + 1)
line_at_line_end text i d line inside is h =
    let more = count_by_more_yes is_line_end text i d inside (eq-eqb (get_or text i d) 10 is) in ap (λ (n : ℕ). n + 1) (h ∙ sym more)

pub line_at_other : (text : List ℕ) (i d line : ℕ) → i < length text → (get_or text i d ≡ 10 → ⊥)
    → IsLineBehind (take i text) line → IsLineBehind (take (i + 1) text) line
line_at_other text i d line inside other h =
    let same = count_by_more_no is_line_end text i d inside (ne_eqb (get_or text i d) 10 other) in h ∙ ap (λ (n : ℕ). n + 1) (sym same)
