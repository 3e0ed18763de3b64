-- What a name stands for, by the first of its symbols and one that lies elsewhere.
use Rattle.std.proofs.Common.{◌≡◌, ◌≢◌, ◌<◌, ℕ, zero, suc, Bool, true, false, ◌&&◌, ◌||◌, not, ◌==◌, List, [], ◌∷◌, length}
use Rattle.std.proofs.Common.{All, Contains, Option, Some, None, find, filter, get_or, slice_index_or}
use Rattle.std.proofs.Common.{refl, sym, ap, ◌∙◌, subst, arith, inl, inr}
use Rattle.std.specs.List.{list_any}
use Rattle.std.proofs.lemmas.Bool.{cases_Bool, true≢false}
use Rattle.std.proofs.lemmas.Bool.Decides.{nat_tests}
use Rattle.std.proofs.lemmas.List.Elements.{All-nil, All-cons, All-contains, All-weaker}
use Rattle.std.proofs.lemmas.List.Folds.{Any-from_list_any}
use Rattle.symbols.specs.declared.symbol.Symbol.{Symbol}
use Rattle.symbols.specs.declared.meanings.{Name.Name}
use Rattle.symbols.specs.declared.meanings.Meaning.TheVariants.{One, Several, Nothing}
use Rattle.symbols.specs.{Symbols.is_global, Tables.Table}
use Rattle.symbols.specs.Meanings.{IsMeaning, has_name, is_known, is_namesake}

-- On tests.

either_false : (a b : Bool) → (a || b) ≡ false → (a ≡ false) × (b ≡ false)
either_false true b not_so = absurd (true≢false not_so)
either_false false b not_so = (refl, not_so)

both_true : (a b : Bool) → (a && b) ≡ true → (a ≡ true) × (b ≡ true)
both_true true b so = (refl, so)
both_true false b so = absurd (true≢false (sym so))

not_other : (a b : Bool) → a ≡ true → (a && not b) ≡ false → b ≡ true
not_other true true so none = refl
not_other true false so none = absurd (true≢false none)
not_other false b so none = absurd (true≢false (sym so))

not_true : (b : Bool) → not b ≡ true → b ≡ false
not_true true so = absurd (true≢false (sym so))
not_true false so = refl

named_by_no_one : (named global : Bool) → (named && (global || not false)) ≡ false → named ≡ false
named_by_no_one false global none = refl
named_by_no_one true true none = none
named_by_no_one true false none = none

stands_if_known : (named global alone : Bool) → (global && named) ≡ true → (named && (global || not alone)) ≡ true
stands_if_known true true alone known = refl
stands_if_known true false alone known = absurd (true≢false (sym known))
stands_if_known false true alone known = absurd (true≢false (sym known))
stands_if_known false false alone known = absurd (true≢false (sym known))

-- On those of a list that pass a test.

none_passes : (p : Symbol → Bool) (xs : List Symbol) → find p xs ≡ None → All (λ x. p x ≡ false) xs
none_passes p [] none = All-nil (λ (x : Symbol). p x ≡ false)
none_passes p (x ∷ xs) none = elim (cases_Bool (p x)) [
  | inl passes ↦ let it : Some x ≡ None = sym (rw passes refl) ∙ none in absurd cc
  | inr fails ↦ All-cons (λ (x : Symbol). p x ≡ false) x xs fails (none_passes p xs (sym (rw fails refl) ∙ none))
]

is_first : (p : Symbol → Bool) (x : Symbol) (xs : List Symbol) → p x ≡ true → filter p (x ∷ xs) ≡ x ∷ filter p xs
is_first p x xs passes = rw passes refl

is_left_out : (p : Symbol → Bool) (x : Symbol) (xs : List Symbol) → p x ≡ false → filter p (x ∷ xs) ≡ filter p xs
is_left_out p x xs fails = rw fails refl

here : (p : Symbol → Bool) (x : Symbol) (xs : List Symbol) → p x ≡ true → Contains (filter p (x ∷ xs)) x
here p x xs passes = subst (λ (l : List Symbol). Contains l x) (sym (is_first p x xs passes)) (0, omega arith, refl)

behind : (x : Symbol) (xs : List Symbol) (y : Symbol) → Contains xs y → Contains (x ∷ xs) y
behind x xs y there = (suc there.0, omega (arith, there.1), there.2)

later : (p : Symbol → Bool) (x : Symbol) (xs : List Symbol) (y : Symbol) → Contains (filter p xs) y
    → Contains (filter p (x ∷ xs)) y
later p x xs y there = elim (cases_Bool (p x)) [
  | inl passes ↦
      subst (λ (l : List Symbol). Contains l y) (sym (is_first p x xs passes)) (behind x (filter p xs) y there)
  | inr fails ↦ subst (λ (l : List Symbol). Contains l y) (sym (is_left_out p x xs fails)) there
]

kept_at : (p : Symbol → Bool) (xs : List Symbol) (k : ℕ) (y : Symbol) → k < length xs → slice_index_or xs k y ≡ y
    → p y ≡ true → Contains (filter p xs) y
kept_at p [] k y inside is passes = absurd (omega (arith, inside))
kept_at p (x ∷ xs) zero y inside is passes =
    subst (λ (z : Symbol). Contains (filter p (x ∷ xs)) z) is (here p x xs (ap p is ∙ passes))
kept_at p (x ∷ xs) (suc k) y inside is passes = later p x xs y (kept_at p xs k y (omega (arith, inside)) is passes)

same_some : (x y : Symbol) → Some x ≡ Some y → x ≡ y
same_some x y same = cc

found_is_kept : (p : Symbol → Bool) (xs : List Symbol) (y : Symbol) → find p xs ≡ Some y → Contains (filter p xs) y
found_is_kept p [] y found = absurd cc
found_is_kept p (x ∷ xs) y found = elim (cases_Bool (p x)) [
  | inl passes ↦
      let same : x ≡ y = same_some x y (sym (rw passes refl) ∙ found) in
      subst (λ (z : Symbol). Contains (filter p (x ∷ xs)) z) same (here p x xs passes)
  | inr fails ↦ later p x xs y (found_is_kept p xs y (sym (rw fails refl) ∙ found))
]

-- One that passes lies at another address.
abbrev is_apart : (Symbol → Bool) → ℕ → Symbol → Bool
is_apart p a x = p x && not (x.address == a)

none_apart : (p : Symbol → Bool) (a : ℕ) (xs : List Symbol) → list_any (is_apart p a) xs ≡ false
    → All (λ (x : Symbol). x.address ≡ a) (filter p xs)
none_apart p a [] none = All-nil (λ (x : Symbol). x.address ≡ a)
none_apart p a (x ∷ xs) none =
    let both = either_false (is_apart p a x) (list_any (is_apart p a) xs) none in
    let rest = none_apart p a xs both.1 in
    elim (cases_Bool (p x)) [
      | inl passes ↦
          let same : (x.address == a) ≡ true = not_other (p x) (x.address == a) passes both.0 in
          subst (All (λ (x : Symbol). x.address ≡ a)) (sym (is_first p x xs passes))
          (All-cons (λ (x : Symbol). x.address ≡ a) x (filter p xs) (grind (arith, nat_tests, same)) rest)
      | inr fails ↦ subst (All (λ (x : Symbol). x.address ≡ a)) (sym (is_left_out p x xs fails)) rest
    ]

-- What the name stands for.

abbrev stands : Table → Name → Bool → Symbol → Bool
stands table name alone symbol = has_name table name symbol && (is_global symbol || not alone)

pub is_one : (table : Table) (name : Name) (alone : Bool) (first : Symbol) → alone ≡ is_known table name
    → find (stands table name alone) table.symbols ≡ Some first
    → list_any (is_apart (stands table name alone) first.address) table.symbols ≡ false
    → IsMeaning table name (One first)
is_one table name alone first known found none =
    let p = is_namesake table name in
    let first_is : find p table.symbols ≡ Some first =
    ap (λ b. find (stands table name b) table.symbols) (sym known) ∙ found in
    let none_is : list_any (is_apart p first.address) table.symbols ≡ false =
    ap (λ b. list_any (is_apart (stands table name b) first.address) table.symbols) (sym known) ∙ none in
    (found_is_kept p table.symbols first first_is, none_apart p first.address table.symbols none_is)

pub are_several : (table : Table) (name : Name) (alone : Bool) (first : Symbol) → alone ≡ is_known table name
    → find (stands table name alone) table.symbols ≡ Some first
    → list_any (is_apart (stands table name alone) first.address) table.symbols ≡ true
    → IsMeaning table name Several
are_several table name alone first known found some =
    let p = is_namesake table name in
    let first_is : find p table.symbols ≡ Some first =
    ap (λ b. find (stands table name b) table.symbols) (sym known) ∙ found in
    let some_is : list_any (is_apart p first.address) table.symbols ≡ true =
    ap (λ b. list_any (is_apart (stands table name b) first.address) table.symbols) (sym known) ∙ some in
    let other = Any-from_list_any (is_apart p first.address) table.symbols some_is in
    let both = both_true (p other.1) (not (other.1.address == first.address)) other.4 in
    let differ : (other.1.address == first.address) ≡ false = not_true (other.1.address == first.address) both.1 in
    let apart : first.address ≢ other.1.address = λ same. absurd (grind (arith, nat_tests, differ, same)) in (
      first,
      other.1,
      found_is_kept p table.symbols first first_is,
      kept_at p table.symbols other.0 other.1 other.2 other.3 both.0,
      apart,
    )

no_one_named : (table : Table) (name : Name) (alone : Bool) → alone ≡ is_known table name
    → All (λ symbol. stands table name alone symbol ≡ false) table.symbols
    → All (λ symbol. has_name table name symbol ≡ false) table.symbols
no_one_named table name true known all =
    let one = Any-from_list_any (λ symbol. is_global symbol && has_name table name symbol) table.symbols (sym known) in
    let stays : stands table name true one.1 ≡ true =
    stands_if_known (has_name table name one.1) (is_global one.1) true one.4 in
    let fails : stands table name true one.1 ≡ false =
    All-contains (λ symbol. stands table name true symbol ≡ false) table.symbols one.1 all (one.0, one.2, one.3) in
    absurd (true≢false (sym stays ∙ fails))
no_one_named table name false known all =
    All-weaker (λ symbol. stands table name false symbol ≡ false) (λ symbol. has_name table name symbol ≡ false)
    (λ symbol. named_by_no_one (has_name table name symbol) (is_global symbol)) table.symbols all

pub is_nothing : (table : Table) (name : Name) (alone : Bool) → alone ≡ is_known table name
    → find (stands table name alone) table.symbols ≡ None → IsMeaning table name Nothing
is_nothing table name alone known none =
    no_one_named table name alone known (none_passes (stands table name alone) table.symbols none)
