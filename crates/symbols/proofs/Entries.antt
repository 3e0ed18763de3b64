-- One more entry of a table.
use Rattle.std.proofs.Common.{◌≡◌, ◌+◌, ◌*◌, ℕ, suc, List, [], ◌∷◌, ◌++◌, true, false, if◌then◌else◌}
use Rattle.std.proofs.Common.{refl, sym, ap, ◌∙◌, arith, append-nil}
use Rattle.std.proofs.lemmas.List.{flat_map_more}
use Rattle.smt_model.specs.Basics.{below}
use Rattle.symbols.specs.declared.symbol.Symbol.{Symbol}
use Rattle.symbols.specs.Symbols.{is_name, names_among, symbol_at}

-- What an entry adds to the names.
abbrev added : List ℕ → List ℕ → ℕ → ℕ → List Symbol
added file names place k =
    if is_name names (symbol_at file (place + 16 * k)) then symbol_at file (place + 16 * k) ∷ [] else []

more : (file names : List ℕ) (place k : ℕ)
    → names_among file names place (k + 1) ≡ names_among file names place k ++ added file names place k
more file names place k =
    let on : k + 1 ≡ suc k = omega arith in
    ap (λ n. names_among file names place n) on ∙ sym (flat_map_more (added file names place) [] (below k) k)

with_this : (file names : List ℕ) (place k : ℕ) (s : Symbol) → s ≡ symbol_at file (place + 16 * k)
    → is_name names s ≡ true → added file names place k ≡ s ∷ []
with_this file names place k s is taken = rw (← is, taken) refl

without_this : (file names : List ℕ) (place k : ℕ) (s : Symbol) → s ≡ symbol_at file (place + 16 * k)
    → is_name names s ≡ false → added file names place k ≡ []
without_this file names place k s is left = rw (← is, left) refl

pub with_name : (file names : List ℕ) (place k : ℕ) (s : Symbol) (so_far : List Symbol)
    → s ≡ symbol_at file (place + 16 * k) → is_name names s ≡ true → so_far ≡ names_among file names place k
    → so_far ++ s ∷ [] ≡ names_among file names place (k + 1)
with_name file names place k s so_far is taken before =
    ap (λ l. l ++ s ∷ []) before
    ∙ ap (λ t. names_among file names place k ++ t) (sym (with_this file names place k s is taken))
    ∙ sym (more file names place k)

pub without_name : (file names : List ℕ) (place k : ℕ) (s : Symbol) (so_far : List Symbol)
    → s ≡ symbol_at file (place + 16 * k) → is_name names s ≡ false → so_far ≡ names_among file names place k
    → so_far ≡ names_among file names place (k + 1)
without_name file names place k s so_far is left before =
    before ∙ sym (append-nil (names_among file names place k))
    ∙ ap (λ t. names_among file names place k ++ t) (sym (without_this file names place k s is left))
    ∙ sym (more file names place k)
