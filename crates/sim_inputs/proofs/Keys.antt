-- The keys of a document: those of its table, and whether each is known.
use Rattle.std.proofs.Common.{◌≡◌, ◌↔◌, ℕ, ◌<◌, Bool, true, false, List, [], ◌∷◌, map, length, All, Contains, IsTrue}
use Rattle.std.proofs.Common.{MatchBool, String, Global, string_bytes, refl, ap}
use Rattle.std.specs.{List.HoldsAt, List.AllWithin, Map.keys_of}
use Rattle.std.proofs.lemmas.Iterator.Search.{true_from_All}
use Rattle.std.proofs.lemmas.List.Elements.{All-nil, All-cons, All-head, All-tail, All-map, All-from_all_within}
use Rattle.toml.specs.{View.members_view, declared.value.Value.Value}
use Rattle.sim_inputs.specs.Configuration.{known_keys, keys_in}

keys_in-view : (es : List (String Global × Value)) → keys_in (members_view es) ≡ map string_bytes (keys_of es)
keys_in-view [] = refl
keys_in-view (e ∷ es) = ap (λ ks. string_bytes e.0 ∷ ks) (keys_in-view es)

All-from_map : {X Y : Type 0} (P : X → Type 0) (f : Y → X) (ys : List Y) → All P (map f ys) → All (λ y. P (f y)) ys
All-from_map P f [] all = All-nil (λ y. P (f y))
All-from_map P f (y ∷ ys) all =
    All-cons (λ x. P (f x)) y ys (All-head P (f y) (map f ys) all)
    (All-from_map P f ys (All-tail P (f y) (map f ys) all))

abbrev pub IsKnown : String Global → Type 0
IsKnown key = Contains known_keys (string_bytes key)

answered : (r : Bool) (keys : List (String Global))
    → MatchBool r (AllWithin IsKnown keys 0 (length keys))
    ((k : ℕ) × (k < length keys) × HoldsAt (λ key. IsKnown key → ⊥) keys k) →
    r ≡ true → All IsKnown keys
answered true keys cases is = All-from_all_within IsKnown keys cases
answered false keys cases is = cc

-- what `all` answers for the keys of a table
pub all_known : (r : Bool) (es : List (String Global × Value)) →
    MatchBool r (AllWithin IsKnown (keys_of es) 0 (length (keys_of es)))
    ((k : ℕ) × (k < length (keys_of es)) × HoldsAt (λ key. IsKnown key → ⊥) (keys_of es) k) →
    IsTrue r ↔ All (Contains known_keys) (keys_in (members_view es))
all_known r es cases =
    let same = keys_in-view es in (
      λ is. rw same (All-map (Contains known_keys) string_bytes (keys_of es) (answered r (keys_of es) cases is)),
      λ all. true_from_All IsKnown (λ key. IsKnown key → ⊥) r (keys_of es) (λ key known unknown. unknown known) cases
          (All-from_map (Contains known_keys) string_bytes (keys_of es) (rw same at all)),
    )
