-- A name that something has is not free.
use Rattle.std.proofs.Common.{◌≡◌, ◌≢◌, ◌⊎◌, inl, inr, Bool, true, false, ◌&&◌, ◌||◌, not, List, refl, sym, subst, ◌∙◌}
use Rattle.std.proofs.Common.{Contains, All, filter}
use Rattle.std.proofs.lemmas.List.Elements.{All-contains, All-filter, filter_passes}
use Rattle.symbols.specs.declared.symbol.Symbol.{Symbol}
use Rattle.symbols.specs.declared.meanings.{Name.Name, Meaning.Meaning}
use Rattle.symbols.specs.declared.meanings.Meaning.TheVariants.{One, Several, Nothing}
use Rattle.symbols.specs.{Tables.Table, Meanings.IsMeaning, Meanings.has_name, Meanings.is_namesake, Meanings.namesakes}

first_part : (a b : Bool) → (a && b) ≡ true → a ≡ true
first_part true b is = refl
first_part false b is = cc

not_both : (a : Bool) → a ≡ true → a ≡ false → ⊥
not_both true is other = cc
not_both false is other = cc

pub has_namesake : (names : Table) (name : Name) (symbol : Symbol) → Contains (namesakes names name) symbol
    → IsMeaning names name Nothing → ⊥
has_namesake names name symbol one none =
    let passes : is_namesake names name symbol ≡ true =
    All-contains (λ (s : Symbol). is_namesake names name s ≡ true) (namesakes names name) symbol
    (filter_passes (is_namesake names name) names.symbols) one in
    let lacks : has_name names name symbol ≡ false =
    All-contains (λ (s : Symbol). has_name names name s ≡ false) (namesakes names name) symbol
    (All-filter (is_namesake names name) (λ (s : Symbol). has_name names name s ≡ false) names.symbols none) one in
    not_both (has_name names name symbol) (first_part (has_name names name symbol) _ passes) lacks

pub is_nothing : (names : Table) (name : Name) (m : Meaning) → IsMeaning names name m → IsMeaning names name Nothing
    → m ≡ Nothing
is_nothing names name (One symbol) means none = absurd (has_namesake names name symbol means.0 none)
is_nothing names name Several means none = absurd (has_namesake names name means.0 means.2 none)
is_nothing names name Nothing means none = refl

pub differs : (m : Meaning) → m ≡ Nothing → ((x : Symbol) × (m ≡ One x)) ⊎ (m ≡ Several) → ⊥
differs m none (inl one) = let is = one.1 in cc
differs m none (inr several) = cc
