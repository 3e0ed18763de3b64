-- Which key of a document no configuration has, and that no settings are the document's then.
use Rattle.std.proofs.Common.{◌≡◌, ℕ, ◌<◌, true, List, [], ◌∷◌, map, length, All, Contains, String, Global, ◌∙◌}
use Rattle.std.proofs.Common.{Option, Some, None, Bor, string_bytes, refl, ap, arith, MatchOption}
use Rattle.std.specs.{List.HoldsAt, List.AllWithin, Map.keys_of}
use Rattle.std.proofs.lemmas.List.{length-map, get_or-map}
use Rattle.std.proofs.lemmas.List.Elements.{All-contains, Contains-from_at}
use Rattle.toml.specs.{Data.Members, View.members_view, declared.value.Value.Value}
use Rattle.sim_inputs.specs.{declared.explained.fault.ConfigFault.ConfigFault}
use Rattle.sim_inputs.specs.declared.explained.fault.ConfigFault.TheVariants as faults
use Rattle.sim_inputs.specs.Configuration.{known_keys, keys_in}
use Rattle.sim_inputs.specs.Explained.{IsUnknown, IsUnknownIn, IsUnknownFault, AreNoSettings}
use Rattle.sim_inputs.proofs.Keys.{IsKnown, all_known}

keys_of_view : (es : List (String Global × Value)) → keys_in (members_view es) ≡ map string_bytes (keys_of es)
keys_of_view [] = refl
keys_of_view (e ∷ es) = ap (λ ks. string_bytes e.0 ∷ ks) (keys_of_view es)

mapped : {X Y : Type 0} (f : X → Y) (xs : List X) (x : X) → Contains xs x → Contains (map f xs) (f x)
mapped f xs x has =
    let long = length-map xs f in
    let inside : has.0 < length xs = has.1 in
    (has.0, omega arith, get_or-map f xs has.0 x (f x) inside ∙ ap f has.2)

-- what `find` answers of the keys of a table: the first that isn't known
abbrev pub IsFirstUnknown : Option (Bor (String Global)) → List (String Global × Value) → Type 0
IsFirstUnknown r es = MatchOption r (AllWithin IsKnown (keys_of es) 0 (length (keys_of es)))
    (λ key. IsUnknown (string_bytes key.now) × (i : ℕ) × (i < length (keys_of es))
    × HoldsAt (λ other. other ≡ key.now) (keys_of es) i × AllWithin IsKnown (keys_of es) 0 i)

pub none_unknown : (r : Option (Bor (String Global))) (es : List (String Global × Value)) → IsFirstUnknown r es
    → r ≡ None → All (Contains known_keys) (keys_in (members_view es))
none_unknown None es first is = (all_known true es first).0 refl
none_unknown (Some key) es first is = absurd (cc)

pub some_unknown : (r : Option (Bor (String Global))) (es : List (String Global × Value)) (key : Bor (String Global))
    (text : List ℕ) → IsFirstUnknown r es → r ≡ Some key → text ≡ string_bytes key.now
    → IsUnknownIn (members_view es) text
some_unknown None es key text first is same = absurd (cc)
some_unknown (Some found) es key text first is same =
    let here : text ≡ string_bytes found.now = cc in
    let has = mapped string_bytes (keys_of es) found.now
    (Contains-from_at (keys_of es) found.now (first.1, first.2, first.3)) in
    rw (here, keys_of_view es) (has, first.0)

-- where there is such a key, no settings are the document's
pub no_settings : (document : Members) (key : List ℕ) (fault : ConfigFault) → IsUnknownIn document key
    → IsUnknownFault key fault → AreNoSettings document fault
no_settings document key (faults.UnknownKey told) unknown is =
    λ settings sets. unknown.1.unknown (All-contains (Contains known_keys) (keys_in document) key sets.known unknown.0)
no_settings document key (faults.NoDocument place message) unknown is = absurd is
no_settings document key (faults.Number other) unknown is = absurd is
no_settings document key (faults.Actors why) unknown is = absurd is
no_settings document key faults.Memory unknown is = tt
