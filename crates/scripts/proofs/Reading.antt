-- What has been read of a text, a piece at a time, where each piece spells something.
use Rattle.std.proofs.Common.{◌≡◌, ℕ, ◌+◌, List, [], ◌∷◌, ◌++◌, length, Some, None, refl, arith}
use Rattle.std.specs.List.{All, AllZip}
use Rattle.std.proofs.{lemmas.List.Elements.All-nil, lemmas.List.Elements.All-cons, lemmas.Grind.common_steps}
use Rattle.scripts.specs.declared.actions.ScriptWord.{ScriptWord}
use Rattle.scripts.specs.Script.{pieces, IsInRange, SpellsWord, IsFirstMisspelled}
use Rattle.scripts.specs.Order.{SpellsHart, IsFirstNoHart}

-- the words are those of the text as far as `rest`
pub record IsRead {W : Type 0} (Spells : List ℕ → W → Type 0) (text rest : List ℕ) (words : List W) : Type 0 where
  pub done : List (List ℕ)
  pub parts : pieces text ≡ done ++ pieces rest
  pub spelled : AllZip Spells done words

spelled_push : {W : Type 0} (Spells : List ℕ → W → Type 0) (ps : List (List ℕ)) (ws : List W) (p : List ℕ) (w : W)
    → AllZip Spells ps ws → Spells p w → AllZip Spells (ps ++ p ∷ []) (ws ++ w ∷ [])
spelled_push Spells [] [] p w h s = (s, tt)
spelled_push Spells [] (v ∷ ws) p w h s = absurd h
spelled_push Spells (q ∷ ps) [] p w h s = absurd h
spelled_push Spells (q ∷ ps) (v ∷ ws) p w h s = (h.0, spelled_push Spells ps ws p w h.1 s)

pub read_more : {W : Type 0} (Spells : List ℕ → W → Type 0) (text rest piece more : List ℕ) (words : List W) (w : W)
    → IsRead Spells text rest words → pieces rest ≡ piece ∷ pieces more → Spells piece w
    → IsRead Spells text more (words ++ w ∷ [])
read_more Spells text rest piece more words w h e s = record {
  done = h.done ++ piece ∷ [];
  parts = grind (arith, common_steps, h.parts, e);
  spelled = spelled_push Spells h.done words piece w h.spelled s;
}

same_length : {W : Type 0} (Spells : List ℕ → W → Type 0) (ps : List (List ℕ)) (ws : List W) → AllZip Spells ps ws
    → length ws ≡ length ps
same_length Spells [] [] h = refl
same_length Spells [] (v ∷ ws) h = absurd h
same_length Spells (q ∷ ps) [] h = absurd h
same_length Spells (q ∷ ps) (v ∷ ws) h = grind (arith, common_steps, same_length Spells ps ws h.1)

-- the first piece that spells nothing: counted from 1 in a script, and from 0 in an order
pub misspelled : (text rest piece more : List ℕ) (words : List ScriptWord) (n : ℕ) → IsRead SpellsWord text rest words →
    pieces rest ≡ piece ∷ pieces more → n ≡ length words + 1 → ((w : ScriptWord) → SpellsWord piece w → None ≡ Some w) →
    IsFirstMisspelled text n
misspelled text rest piece more words n h e place none = record {
  before = h.done;
  misspelled = piece;
  after = pieces more;
  parts = rw (h.parts, e) refl;
  place = rw (← same_length SpellsWord h.done words h.spelled) place;
  words = words;
  spelled = h.spelled;
  spells_none = λ w s. let never = none w s in cc;
}

pub no_hart : (text rest piece more harts : List ℕ) (n : ℕ) → IsRead SpellsHart text rest harts →
    pieces rest ≡ piece ∷ pieces more → n ≡ length harts → ((hart : ℕ) → SpellsHart piece hart → None ≡ Some hart) →
    IsFirstNoHart text n
no_hart text rest piece more harts n h e place none = record {
  before = h.done;
  misspelled = piece;
  after = pieces more;
  parts = rw (h.parts, e) refl;
  place = rw (← same_length SpellsHart h.done harts h.spelled) place;
  harts = harts;
  spelled = h.spelled;
  spells_none = λ hart s. let never = none hart s in cc;
}

pub all_in_range : (ps : List (List ℕ)) (ws : List ScriptWord) → AllZip SpellsWord ps ws → All (λ w. IsInRange w.action) ws
all_in_range [] [] h = All-nil (λ w. IsInRange w.action)
all_in_range [] (v ∷ ws) h = absurd h
all_in_range (q ∷ ps) [] h = absurd h
all_in_range (q ∷ ps) (v ∷ ws) h = All-cons (λ w. IsInRange w.action) v ws h.0.in_range (all_in_range ps ws h.1)
