-- The lines that are kept: with one more, without the last, and all in range.
use Rattle.std.specs.Prelude.{◌≡◌, ℕ, ◌+◌, ◌-◌, ◌<◌, List, [], ◌∷◌, ◌++◌, length, take, drop, get_or, All, Vec}
use Rattle.std.proofs.Common.{sym, ap, subst, ◌∙◌, arith, length-append}
use Rattle.std.proofs.Math.Seq.{take-append_seam}
use Rattle.std.proofs.lemmas.List.{map-append, take-map, map_more, take-append-drop, flat_map_more}
use Rattle.std.proofs.lemmas.List.Elements.{All-append, All-take}
use Rattle.std.proofs.lemmas.Grind.{flat_map-append, common_steps}
use Rattle.scripts.specs.{declared.actions.ScriptWord.ScriptWord, Script.IsInRange, Lines.words_in}
use Rattle.core_state.specs.View.{CoreView}
use Rattle.smt_model.specs.Setup.{Setup}
use Rattle.prompts.specs.Kept.{Kept, kept_in, AreInRange, IsAskedAll}

-- ---- In range

pub in_range_before : (n : ℕ) (kept : Kept) → AreInRange kept → AreInRange (take n kept)
in_range_before n kept all =
    let first = words_in (take n kept) in
    let second = words_in (drop n kept) in
    let both : words_in kept ≡ first ++ second =
    ap words_in (sym (take-append-drop n kept))
    ∙ flat_map-append (λ (words : List ScriptWord). words) (take n kept) (drop n kept) in
    let front : take (length first) (words_in kept) ≡ first =
    ap (take (length first)) both ∙ take-append_seam first second in
    subst (All (λ word. IsInRange word.action)) front (All-take (λ (word : ScriptWord). IsInRange word.action) (length first) (words_in kept) all)

one_line : (words : List ScriptWord) → words_in (words ∷ []) ≡ words
one_line words = grind (arith, common_steps)

pub in_range_with : (kept : Kept) (words : List ScriptWord) → AreInRange kept
    → All (λ word. IsInRange word.action) words → AreInRange (kept ++ words ∷ [])
in_range_with kept words all one =
    let both : words_in (kept ++ words ∷ []) ≡ words_in kept ++ words =
    flat_map-append (λ (line : List ScriptWord). line) kept (words ∷ []) ∙ ap (λ l. words_in kept ++ l) (one_line words) in
    subst (All (λ word. IsInRange word.action)) (sym both) (All-append (λ (word : ScriptWord). IsInRange word.action) (words_in kept) words all one)

-- ---- As they are held

module _ {A : Type 0} where
  pub kept_with : (lines : List (Vec ScriptWord A)) (line : Vec ScriptWord A)
      → kept_in (lines ++ line ∷ []) ≡ kept_in lines ++ line.items ∷ []
  kept_with lines line = map-append (λ (v : Vec ScriptWord A). v.items) lines (line ∷ [])

  pub kept_before : (n : ℕ) (lines : List (Vec ScriptWord A)) → kept_in (take n lines) ≡ take n (kept_in lines)
  kept_before n lines = sym (take-map (λ (v : Vec ScriptWord A). v.items) n lines)

  pub kept_count : (lines : List (Vec ScriptWord A)) → length (kept_in lines) ≡ length lines
  kept_count lines = grind (arith, common_steps)

  pub in_range_held : (n : ℕ) (lines : List (Vec ScriptWord A)) → AreInRange (kept_in lines)
      → AreInRange (kept_in (take n lines))
  in_range_held n lines all = subst AreInRange (sym (kept_before n lines)) (in_range_before n (kept_in lines) all)

  pub in_range_pushed : (lines : List (Vec ScriptWord A)) (line : Vec ScriptWord A) → AreInRange (kept_in lines)
      → All (λ word. IsInRange word.action) line.items → AreInRange (kept_in (lines ++ line ∷ []))
  in_range_pushed lines line all one =
      subst AreInRange (sym (kept_with lines line)) (in_range_with (kept_in lines) line.items all one)

  pub in_range_seen : (n : ℕ) (lines seen : List (Vec ScriptWord A)) → seen ≡ lines → AreInRange (kept_in lines)
      → AreInRange (kept_in (take n seen))
  in_range_seen n lines seen same all =
      subst (λ (l : List (Vec ScriptWord A)). AreInRange (kept_in (take n l))) (sym same) (in_range_held n lines all)

  pub truncated : (n : ℕ) (lines seen now : List (Vec ScriptWord A)) → seen ≡ lines → now ≡ take n lines
      → kept_in (take n seen) ≡ kept_in now
  truncated n lines seen now same cut =
      ap (λ (l : List (Vec ScriptWord A)). kept_in (take n l)) same ∙ ap kept_in (sym cut)

  -- a turn of the loop that puts the words of all lines together
  pub words_more : (lines : List (Vec ScriptWord A)) (i : ℕ) (d : Vec ScriptWord A) (words more : List ScriptWord)
      → i < length lines → words ≡ words_in (kept_in (take i lines)) → more ≡ words ++ (get_or lines i d).items
      → more ≡ words_in (kept_in (take (i + 1) lines))
  words_more lines i d words more inside so_far next =
      next ∙ ap (λ l. l ++ (get_or lines i d).items) so_far
      ∙ flat_map_more (λ (line : List ScriptWord). line) [] (kept_in (take i lines)) (get_or lines i d).items
      ∙ ap words_in (sym (map_more (λ (v : Vec ScriptWord A). v.items) lines i d inside))

-- ---- Without the last again

pub popped : {X : Type 0} (xs : List X) (x : X) (old now : List X) → old ≡ xs ++ x ∷ []
    → now ≡ take (length old - 1) old → now ≡ xs
popped xs x old now pushed rest =
    let long : length (xs ++ x ∷ []) - 1 ≡ length xs = simp length-append (omega arith) in
    rest ∙ ap (λ l. take (length l - 1) l) pushed ∙ ap (λ n. take n (xs ++ x ∷ [])) long ∙ take-append_seam xs (x ∷ [])

-- The core that was asked some lines was asked the same lines.
pub asked_before : {P : Type 0} (predicts : P → ℕ → ℕ → ℕ → ℕ → P → Type 0) (before : P) (setup : Setup) (limit : ℕ)
    (kept now : Kept) → kept ≡ now → (core : CoreView) (idle lines : List ℕ)
    → IsAskedAll predicts before setup limit kept core idle lines → IsAskedAll predicts before setup limit now core idle lines
asked_before predicts before setup limit kept now same core idle lines asked =
    subst (λ (k : Kept). IsAskedAll predicts before setup limit k core idle lines) same asked
