-- A turn of a loop.
use Rattle.std.proofs.Common.{◌≡◌, ℕ, ◌+◌, ◌^◌, ◌<◌, List, [], ◌∷◌, ◌++◌, length, take, get_or}
use Rattle.std.proofs.Common.{sym, ap, subst, ◌∙◌, append-nil, add-one}
use Rattle.std.specs.Prelude.{flat_map}
use Rattle.std.proofs.lemmas.List.{take_more}
use Rattle.std.proofs.lemmas.List.Concat.{flat_map-append}
use Rattle.rv_instr.specs.{declared.instr.Instr.Instr, Table.Spells}
use Rattle.smt_model.specs.Basics.{below}
use Rattle.litmus_images.specs.Image.{SpellEach}

-- over the numbers below some number
pub below_more : {A : Type 0} (f : ℕ → List A) (n : ℕ) → flat_map f (below (n + 1)) ≡ flat_map f (below n) ++ f n
below_more f n =
    ap (λ k. flat_map f (below k)) (add-one n) ∙ flat_map-append f (below n) (n ∷ [])
    ∙ ap (λ l. flat_map f (below n) ++ l) (append-nil (f n))

-- one word more spells one instruction more
pub spelled_more : (words : List ℕ) (code : List Instr) (word : ℕ) (instruction : Instr) → SpellEach words code
    → word < 2 ^ 32 → Spells word instruction → SpellEach (words ++ word ∷ []) (code ++ instruction ∷ [])
spelled_more [] [] word instruction so_far fits spells = (fits, spells, tt)
spelled_more (w ∷ ws) (i ∷ is) word instruction so_far fits spells =
    (so_far.0, so_far.1, spelled_more ws is word instruction so_far.2 fits spells)
spelled_more [] (i ∷ is) word instruction so_far fits spells = absurd so_far
spelled_more (w ∷ ws) [] word instruction so_far fits spells = absurd so_far

pub spelled_turn : (words : List ℕ) (code : List Instr) (i word : ℕ) (d : Instr) → i < length code
    → SpellEach words (take i code) → word < 2 ^ 32 → Spells word (get_or code i d)
    → SpellEach (words ++ word ∷ []) (take (i + 1) code)
spelled_turn words code i word d inside so_far fits spells =
    subst (SpellEach (words ++ word ∷ [])) (sym (take_more code i d inside))
    (spelled_more words (take i code) word (get_or code i d) so_far fits spells)
