-- Rows and cells, by cuts at their marks.
use Rattle.std.proofs.Common.{◌≡◌, ◌≢◌, ℕ, zero, suc, ◌+◌, ◌-◌, ◌<◌, Bool, true, false, if◌then◌else◌, List, [], ◌∷◌, ◌++◌, length, map, get_or, drop}
use Rattle.std.proofs.Common.{refl, sym, ap, ◌∙◌, subst, inl, inr, arith, true≢false, pos_of_ne-zero}
use Rattle.std.specs.Prelude.{slice_index_or}
use Rattle.std.proofs.lemmas.List.Elements.{All-head, All-tail}
use Rattle.litmus_words.specs.declared.word.Word.{Word}
use Rattle.litmus_words.specs.declared.word.Token.{Token}
use Rattle.litmus_words.specs.declared.word.Token.TheVariants.{Mark as mark_token}
use Rattle.litmus_words.specs.declared.word.Mark.{Mark}
use Rattle.litmus_words.specs.declared.word.Mark.TheVariants as mark
use Rattle.litmus_words.specs.Cuts.{IsCut, LacksMark}
use Rattle.litmus_reading.proofs.Naming.{drop_here}
use Rattle.litmus_reading.specs.Rows.{is_bar, is_semicolon, onto_first, ended_by, parted_by, cell_at, column_of}

pub is_false : (b : Bool) → (b ≡ true → ⊥) → b ≡ false
is_false true n = absurd (n refl)
is_false false n = refl

bar_is : (token : Token) → is_bar token ≡ true → token ≡ mark_token mark.Bar
bar_is (mark_token mark.Bar) e = refl
bar_is token e = absurd (true≢false (sym e))

semicolon_is : (token : Token) → is_semicolon token ≡ true → token ≡ mark_token mark.Semicolon
semicolon_is (mark_token mark.Semicolon) e = refl
semicolon_is token e = absurd (true≢false (sym e))

module _ (p : Token → Bool) (m : Mark) (is : (token : Token) → p token ≡ true → token ≡ mark_token m)
    (there : p (mark_token m) ≡ true) where
  on : (word : Word) → word.token ≡ mark_token m → p word.token ≡ true
  on word e = ap p e ∙ there

  off : (word : Word) (words : List Word) → LacksMark m (word ∷ words) → p word.token ≡ false
  off word words lacks = is_false (p word.token) (λ e.
      All-head (λ (one : Word). one.token ≢ mark_token m) word words lacks (is word.token e))

  tail : (word : Word) (words : List Word) → LacksMark m (word ∷ words) → LacksMark m words
  tail word words lacks = All-tail (λ (one : Word). one.token ≢ mark_token m) word words lacks

  one_part : (words : List Word) → LacksMark m words → parted_by p words ≡ words ∷ []
  one_part [] lacks = refl
  one_part (word ∷ words) lacks =
      subst (λ (b : Bool). (if b then [] ∷ parted_by p words else onto_first word (parted_by p words))
      ≡ (word ∷ words) ∷ []) (sym (off word words lacks))
      (ap (onto_first word) (one_part words (tail word words lacks)))

  first_part : (before : List Word) (stop : Word) (behind : List Word) → LacksMark m before
      → stop.token ≡ mark_token m → parted_by p (before ++ stop ∷ behind) ≡ before ∷ parted_by p behind
  first_part [] stop behind lacks e =
      subst (λ (b : Bool). (if b then [] ∷ parted_by p behind else onto_first stop (parted_by p behind))
      ≡ [] ∷ parted_by p behind) (sym (on stop e)) refl
  first_part (word ∷ words) stop behind lacks e =
      subst (λ (b : Bool). (if b then [] ∷ parted_by p (words ++ stop ∷ behind)
      else onto_first word (parted_by p (words ++ stop ∷ behind))) ≡ (word ∷ words) ∷ parted_by p behind)
      (sym (off word words lacks))
      (ap (onto_first word) (first_part words stop behind (tail word words lacks) e))

  one_ended : (word : Word) (words : List Word) → LacksMark m (word ∷ words)
      → ended_by p (word ∷ words) ≡ (word ∷ words) ∷ []
  one_ended word [] lacks =
      subst (λ (b : Bool). (if b then [] ∷ [] else onto_first word []) ≡ (word ∷ []) ∷ [])
      (sym (off word [] lacks)) refl
  one_ended word (next ∷ words) lacks =
      subst (λ (b : Bool). (if b then [] ∷ ended_by p (next ∷ words) else onto_first word (ended_by p (next ∷ words)))
      ≡ (word ∷ next ∷ words) ∷ []) (sym (off word (next ∷ words) lacks))
      (ap (onto_first word) (one_ended next words (tail word (next ∷ words) lacks)))

  first_ended : (before : List Word) (stop : Word) (behind : List Word) → LacksMark m before
      → stop.token ≡ mark_token m → ended_by p (before ++ stop ∷ behind) ≡ before ∷ ended_by p behind
  first_ended [] stop behind lacks e =
      subst (λ (b : Bool). (if b then [] ∷ ended_by p behind else onto_first stop (ended_by p behind))
      ≡ [] ∷ ended_by p behind) (sym (on stop e)) refl
  first_ended (word ∷ words) stop behind lacks e =
      subst (λ (b : Bool). (if b then [] ∷ ended_by p (words ++ stop ∷ behind)
      else onto_first word (ended_by p (words ++ stop ∷ behind))) ≡ (word ∷ words) ∷ ended_by p behind)
      (sym (off word words lacks))
      (ap (onto_first word) (first_ended words stop behind (tail word words lacks) e))

  ended_cut : (words before behind : List Word) → 0 < length words → IsCut words m before behind → LacksMark m before
      → ended_by p words ≡ before ∷ ended_by p behind
  ended_cut [] before behind some cut lacks = absurd (omega (arith, some))
  ended_cut (word ∷ words) before behind some (inl whole) lacks =
      one_ended word words (subst (LacksMark m) (sym whole.0) lacks)
      ∙ (λ k. whole.0 k ∷ ended_by p (sym whole.1 k))
  ended_cut (word ∷ words) before behind some (inr cut) lacks =
      ap (ended_by p) cut.1 ∙ first_ended before cut.0 behind lacks cut.2

-- a part stands there at least
onto_length : (word : Word) (parts : List (List Word)) → 0 < length parts
    → length (onto_first word parts) ≡ length parts
onto_length word [] some = absurd (omega (arith, some))
onto_length word (part ∷ parts) some = refl

part_more : (word : Word) (parts : List (List Word)) (b : Bool) → 0 < length parts
    → 0 < length (if b then [] ∷ parts else onto_first word parts)
part_more word parts true some = omega arith
part_more word parts false some = let same = onto_length word parts some in omega (arith, some, same)

some_part : (p : Token → Bool) (words : List Word) → 0 < length (parted_by p words)
some_part p [] = omega arith
some_part p (word ∷ words) = part_more word (parted_by p words) (p word.token) (some_part p words)

pub bar_column : (word : Word) (words : List Word) → word.token ≡ mark_token mark.Bar
    → length (parted_by is_bar (word ∷ words)) ≡ length (parted_by is_bar words) + 1
bar_column word words is =
    let none : List Word = [] in
    let plus : length (none ∷ parted_by is_bar words) ≡ length (parted_by is_bar words) + 1 = omega arith in
    ap (λ (b : Bool). length (if b then [] ∷ parted_by is_bar words else onto_first word (parted_by is_bar words)))
    (ap is_bar is) ∙ plus

pub same_column : (word : Word) (words : List Word) → word.token ≢ mark_token mark.Bar
    → length (parted_by is_bar (word ∷ words)) ≡ length (parted_by is_bar words)
same_column word words other =
    ap (λ (b : Bool). length (if b then [] ∷ parted_by is_bar words else onto_first word (parted_by is_bar words)))
    (is_false (is_bar word.token) (λ e. other (bar_is word.token e)))
    ∙ onto_length word (parted_by is_bar words) (some_part is_bar words)

pub same_columns : (word : Word) (words : List Word) → word.token ≢ mark_token mark.Bar
    → length (parted_by is_bar (word ∷ words)) ≡ length (parted_by is_bar words) + 0
same_columns word words other =
    let same = same_column word words other in omega (arith, same)

pub columns_more : (row : List Word) (i columns n total : ℕ) (d : Word) → i < length row
    → ((words : List Word) → length (parted_by is_bar (get_or row i d ∷ words)) ≡ length (parted_by is_bar words) + n)
    → columns + length (parted_by is_bar (drop i row)) ≡ total
    → columns + n + length (parted_by is_bar (drop (i + 1) row)) ≡ total
columns_more row i columns n total d inside parts so_far =
    let here : length (parted_by is_bar (drop i row)) ≡ length (parted_by is_bar (drop (i + 1) row)) + n =
    ap (λ (t : List Word). length (parted_by is_bar t)) (drop_here row i d inside) ∙ parts (drop (i + 1) row) in
    omega (arith, here, so_far)

abbrev no_words : List Word
no_words = []

past_all : (n : ℕ) → slice_index_or ([] ∷ []) n no_words ≡ []
past_all zero = refl
past_all (suc n) = refl

pub first_cell : (words before behind : List Word) → IsCut words mark.Bar before behind → LacksMark mark.Bar before
    → before ≡ cell_at 0 words
first_cell words before behind (inl whole) lacks =
    sym whole.0 ∙ ap (λ (parts : List (List Word)). slice_index_or parts 0 [])
    (sym (one_part is_bar mark.Bar bar_is refl words (subst (LacksMark mark.Bar) (sym whole.0) lacks)))
first_cell words before behind (inr cut) lacks =
    sym (ap (λ (parts : List (List Word)). slice_index_or parts 0 [])
    (ap (parted_by is_bar) cut.1 ∙ first_part is_bar mark.Bar bar_is refl before cut.0 behind lacks cut.2))

later_cell : (n : ℕ) (words before behind : List Word) → IsCut words mark.Bar before behind → LacksMark mark.Bar before
    → cell_at n behind ≡ cell_at (suc n) words
later_cell n words before behind (inl whole) lacks =
    ap (cell_at n) whole.1 ∙ past_all n ∙ sym (ap (λ (parts : List (List Word)). slice_index_or parts (suc n) [])
    (one_part is_bar mark.Bar bar_is refl words (subst (LacksMark mark.Bar) (sym whole.0) lacks)))
later_cell n words before behind (inr cut) lacks =
    sym (ap (λ (parts : List (List Word)). slice_index_or parts (suc n) [])
    (ap (parted_by is_bar) cut.1 ∙ first_part is_bar mark.Bar bar_is refl before cut.0 behind lacks cut.2))

pub next_cell : (hart : ℕ) (words before behind : List Word) → (hart ≡ 0 → ⊥) → IsCut words mark.Bar before behind
    → LacksMark mark.Bar before → cell_at (hart - 1) behind ≡ cell_at hart words
next_cell hart words before behind some cut lacks =
    later_cell (hart - 1) words before behind cut lacks
    ∙ (let more : 0 < hart = pos_of_ne-zero some in ap (λ (n : ℕ). cell_at n words) (omega (arith, more)))

pub next_row : (hart : ℕ) (rest row behind : List Word) → 0 < length rest → IsCut rest mark.Semicolon row behind
    → LacksMark mark.Semicolon row → column_of hart rest ≡ cell_at hart row ∷ column_of hart behind
next_row hart rest row behind some cut lacks =
    ap (map (cell_at hart)) (ended_cut is_semicolon mark.Semicolon semicolon_is refl rest row behind some cut lacks)

pub entry_cut : (rest entry behind : List Word) → 0 < length rest → IsCut rest mark.Semicolon entry behind
    → LacksMark mark.Semicolon entry → ended_by is_semicolon rest ≡ entry ∷ ended_by is_semicolon behind
entry_cut rest entry behind some cut lacks =
    ended_cut is_semicolon mark.Semicolon semicolon_is refl rest entry behind some cut lacks

pub row_ended : (row : List Word) (stop : Word) (behind : List Word) → LacksMark mark.Semicolon row
    → stop.token ≡ mark_token mark.Semicolon
    → ended_by is_semicolon (row ++ stop ∷ behind) ≡ row ∷ ended_by is_semicolon behind
row_ended row stop behind lacks e = first_ended is_semicolon mark.Semicolon semicolon_is refl row stop behind lacks e
