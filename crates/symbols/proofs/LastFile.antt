-- The last entry that names a file, by one entry more.
use Rattle.std.proofs.Common.{◌≡◌, ◌+◌, ◌*◌, ℕ, suc, List, ◌∷◌, [], Some, true, false, map, reverse, find, refl, sym, ap, ◌∙◌, arith}
use Rattle.std.proofs.lemmas.List.{reverse-append}
use Rattle.smt_model.specs.Basics.{below}
use Rattle.symbols.specs.declared.symbol.Symbol.{Symbol}
use Rattle.symbols.specs.Symbols.{is_file, symbol_at}
use Rattle.symbols.specs.Parts.{last_file}

from_last : (file : List ℕ) (start k n : ℕ) → n ≡ k + 1
    → last_file file start n
    ≡ find is_file (symbol_at file (start + 16 * k) ∷ map (λ j. symbol_at file (start + 16 * j)) (reverse (below k)))
from_last file start k n is =
    let on : n ≡ suc k = omega (arith, is) in
    ap (λ m. last_file file start m) on
    ∙ ap (λ ks. find is_file (map (λ j. symbol_at file (start + 16 * j)) ks)) (reverse-append (below k) (k ∷ []))

pub ends_here : (file : List ℕ) (start k n : ℕ) (s : Symbol) → n ≡ k + 1 → s ≡ symbol_at file (start + 16 * k)
    → is_file s ≡ true → last_file file start n ≡ Some s
ends_here file start k n s is at passed =
    let passes : is_file (symbol_at file (start + 16 * k)) ≡ true = ap is_file (sym at) ∙ passed in
    from_last file start k n is ∙ (rw passes refl) ∙ ap (λ t. Some t) (sym at)

pub goes_on : (file : List ℕ) (start k n : ℕ) (s : Symbol) → n ≡ k + 1 → s ≡ symbol_at file (start + 16 * k)
    → is_file s ≡ false → last_file file start n ≡ last_file file start k
goes_on file start k n s is at failed =
    let fails : is_file (symbol_at file (start + 16 * k)) ≡ false = ap is_file (sym at) ∙ failed in
    from_last file start k n is ∙ (rw fails refl)
